use Rattle.std.proofs.Common.{◌≡◌, ℕ, ◌≤◌, ◌∷◌, ◌++◌, [], not, List, Some, Option, length, get_or, refl, sym, ap, ◌∙◌}
use Rattle.std.proofs.Common.{subst, arith}
use Rattle.std.specs.List.{filter}
use Rattle.std.proofs.lemmas.List.{length-append, length-map}
use Rattle.busdma_machine.specs.declared.bounce.hold.HubCall.TheVariants.{MemAlloc}
use Rattle.busdma_machine.specs.declared.bounce.hold.HubReply.TheVariants.{Run}
use Rattle.busdma_machine.specs.declared.machine.address.Pa.{Pa}
use Rattle.busdma_machine.specs.Bounce.Account.{Memory}
use Rattle.busdma_machine.specs.Bounce.AccountStep.{memory_placed}
use Rattle.busdma_machine.specs.Machine.Page.{FrameBytes}
use Rattle.busdma_machine.specs.Bounce.MemoryRuns.{frames_for, lowest_run, in_run, with_memory_run}
use Rattle.busdma_machine.specs.Machine.PageList.{page_addresses, page_address}
use Rattle.frame_bank.specs.FrameBank.{free_frames, pages_left, is_in_bank_run}
use Rattle.busdma_machine.specs.Bounce.Door.{IsRow}
use Rattle.bounce_hub.proofs.Answering.{stepped}
use Rattle.bounce_hub.proofs.Frames.{Found, found, from-row, from-length, from-first, left-addresses, filter-few}
use Rattle.bounce_hub.proofs.Frames.{run-items, agrees-bank}
use Rattle.bounce_hub.proofs.pool.Pool.allocate.Goals as goal

-- a run has no more pages than the bank
few : (c : goal.After-len) → length c.in-Some.pages.items ≤ 8192
few c =
    let n : ℕ = frames_for c.args.tag.now.maxsize in
    let first : Option ℕ =
    lowest_run c.args.tag.now.maxsize c.args.tag.now.boundary c.args.tag.now.lowaddr.0
    (free_frames c.args.self.now.bank) in
    let f : Found first n c.in-Some.pages.items =
    found first n c.in-Some.pages.items (rw c.in-Some.is at c.in_ok-pages.ensures.placed) in
    let items : c.in-Some.pages.items ≡ filter (is_in_bank_run f.at n) c.args.self.now.bank.pages =
    run-items first n f.at c.in-Some.pages.items c.args.self.now.bank.pages f.is
    (rw c.in-Some.is at c.in_ok-pages.ensures.pages) in
    omega (
      arith,
      ap (λ (x : List FrameBytes). length x) items,
      filter-few (is_in_bank_run f.at n) c.args.self.now.bank.pages,
      length-map c.args.self.now.bank.pages page_address,
      ap (λ (x : List ℕ). length x) c.requires.allowed.agrees.bank,
      c.requires.allowed.fits.few,
    )

pub overflow_cast-reply : goal.overflow_cast-reply
overflow_cast-reply c = omega (arith, c.len.ensures, few c)

pub returns-in-Some-clause-small : goal.returns-in-Some-clause-small
returns-in-Some-clause-small c = few c

pub returns-in-Some-clause-row : goal.returns-in-Some-clause-row
returns-in-Some-clause-row c =
    let n : ℕ = frames_for c.args.tag.now.maxsize in
    let first : Option ℕ =
    lowest_run c.args.tag.now.maxsize c.args.tag.now.boundary c.args.tag.now.lowaddr.0
    (free_frames c.args.self.now.bank) in
    let f : Found first n c.in-Some.pages.items =
    found first n c.in-Some.pages.items (rw c.in-Some.is at c.in_ok-pages.ensures.placed) in
    subst IsRow (sym f.row) (from-row n f.at)

pub returns-in-Some-clause-steps : goal.returns-in-Some-clause-steps
returns-in-Some-clause-steps c = λ a agrees fits may.
    let n : ℕ = frames_for c.args.tag.now.maxsize in
    let first : Option ℕ =
    lowest_run c.args.tag.now.maxsize c.args.tag.now.boundary c.args.tag.now.lowaddr.0
    (free_frames c.args.self.now.bank) in
    let f : Found first n c.in-Some.pages.items =
    found first n c.in-Some.pages.items (rw c.in-Some.is at c.in_ok-pages.ensures.placed) in
    let same : lowest_run c.args.tag.now.maxsize c.args.tag.now.boundary c.args.tag.now.lowaddr.0 a.bank ≡ Some f.at =
    ap (lowest_run c.args.tag.now.maxsize c.args.tag.now.boundary c.args.tag.now.lowaddr.0) (sym agrees.bank)
    ∙ f.is in
    let address : c.first_address.result ≡ record { 0 = f.at } =
    c.first_address.ensures ∙ ap (λ (xs : List ℕ). record { 0 = get_or xs 0 0 }) f.row
    ∙ ap (λ (k : ℕ). record { 0 = k }) (from-first n f.at (omega arith)) in
    let size : c.len.result ≡ n =
    omega (
      arith,
      c.len.ensures,
      length-map c.in-Some.pages.items page_address,
      ap (λ (x : List ℕ). length x) f.row,
      from-length n f.at,
    ) in
    let taken : Memory = record { mem = c.args.mem; frames = filter (in_run f.at n) a.bank } in
    stepped c.args.self.now _ c.args.mem.lane.0 (MemAlloc c.args.mem c.args.tag.now)
    _ a (with_memory_run a c.args.mem f.at n)
    (ap (λ (o : Option ℕ). memory_placed c.args.mem n o a) same
    ∙ ap (λ (k : Pa). record { account = with_memory_run a c.args.mem f.at n; reply = Run k n }) (sym address)
    ∙ ap (λ (k : ℕ). record { account = with_memory_run a c.args.mem f.at n; reply = Run c.first_address.result k })
    (sym size))
    (agrees-bank c.args.self.now _ a (filter (λ g. not (in_run f.at n g)) a.bank) (a.mems ++ taken ∷ []) agrees
    (ap page_addresses (c.in_ok-pages.ensures.left
    ∙ ap (λ (o : Option ℕ). pages_left o n c.args.self.now.bank.pages) f.is)
    ∙ left-addresses f.at n c.args.self.now.bank.pages ∙ ap (filter (λ g. not (in_run f.at n g))) agrees.bank)
    refl refl refl (omega (arith, length-append a.mems (taken ∷ []))) refl refl)
    c.in_ok-pages.ensures.room
