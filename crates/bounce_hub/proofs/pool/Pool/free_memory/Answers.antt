use Rattle.std.proofs.Common.{ℕ, ◌*◌, not, List, length, refl, ap, ◌∙◌, arith}
use Rattle.std.specs.List.{filter}
use Rattle.std.proofs.lemmas.List.{length-map}
use Rattle.busdma_machine.specs.Bounce.Account.{Account, same_map}
use Rattle.busdma_machine.specs.Bounce.MemoryRuns.{frames_of, put_all}
use Rattle.busdma_machine.specs.Machine.PageList.{page_addresses, page_address}
use Rattle.frame_bank.specs.FrameBank.{Bank}
use Rattle.bounce_hub.proofs.Frames.{agrees-bank, put_pages-addresses, frames-room, frames-apart, mems-less}
use Rattle.bounce_hub.proofs.pool.Pool.free_memory.Goals as goal

pub give_all-requires-clause-room : goal.give_all-requires-clause-room
give_all-requires-clause-room c =
    let a : Account = c.requires.account in
    omega (
      arith,
      ap (λ (x : List ℕ). length x) c.requires.frames,
      length-map c.args.pages.items page_address,
      ap (λ (x : List ℕ). length x) c.requires.agrees.bank,
      length-map c.args.self.now.bank.pages page_address,
      frames-room c.args.mem a,
      c.requires.fits.room,
    )

pub give_all-requires-clause-apart : goal.give_all-requires-clause-apart
give_all-requires-clause-apart c =
    λ k. frames-apart c.args.mem c.requires.account c.args.pages.items c.args.self.now.bank.pages k
    (c.requires.fits.apart (4096 * k)) c.requires.frames c.requires.agrees.bank

pub returns-clause-steps : goal.returns-clause-steps
returns-clause-steps c = λ a agrees fits may mine. record {
  agrees =
      agrees-bank c.args.self.now _ a (put_all (frames_of c.args.mem a.mems) a.bank)
      (filter (λ x. not (same_map c.args.mem x.mem)) a.mems) agrees
      (ap (λ (b : Bank). page_addresses b.pages) c.give_all.ensures
      ∙ put_pages-addresses c.args.pages.items c.args.self.now.bank.pages
      ∙ ap (λ (fs : List ℕ). put_all fs (page_addresses c.args.self.now.bank.pages)) mine
      ∙ ap (put_all (frames_of c.args.mem a.mems)) agrees.bank)
      refl refl refl (omega (arith, agrees.owed, mems-less c.args.mem a.mems, may.1)) refl refl;
  reply = refl;
  room = ap (λ (b : Bank). b.room) c.give_all.ensures;
}
