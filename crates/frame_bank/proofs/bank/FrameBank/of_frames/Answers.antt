use Rattle.std.proofs.Common.{◌-◌, ◌≡◌, ◌==◌, [], map, length, drop, ap, ◌∙◌, arith}
use Rattle.std.specs.List.{count_by}
use Rattle.std.proofs.lemmas.List.{length-map, length-drop}
use Rattle.frame_bank.specs.FrameBank.{Bank, fresh_page, put_pages}
use Rattle.frame_bank.proofs.Placing.{length-put_pages, count_by-put_pages, differs_behind, put_next, rising_are_free}
use Rattle.frame_bank.proofs.bank.FrameBank.of_frames.Goals as goal

pub put-requires-clause-room : goal.put-requires-clause-room
put-requires-clause-room c =
    omega (
      arith,
      c.loop-at.invariant.room,
      ap length c.loop-at.invariant.put,
      length-put_pages (map fresh_page (drop c.loop-at.at c.args.frames.now)),
      length-map (drop c.loop-at.at c.args.frames.now) fresh_page,
      length-drop c.loop-at.at c.args.frames.now,
    )

pub put-requires-clause-apart : goal.put-requires-clause-apart
put-requires-clause-apart c =
    let frame = c.fresh.result.frame in
    ap (count_by (λ p. p.frame == frame)) c.loop-at.invariant.put
    ∙ count_by-put_pages (λ p. p.frame == frame) (map fresh_page (drop c.loop-at.at c.args.frames.now))
    ∙ differs_behind c.args.frames.now (c.loop-at.at - 1) c.loop-at.at frame c.requires.differ (omega arith)
    (omega arith) (ap (λ p. p.frame) c.fresh.ensures)

pub loop-at-preserved : goal.loop-at-preserved
loop-at-preserved c = record {
  put = ap (λ (b : Bank). b.pages) c.put.ensures.bank
      ∙ put_next c.args.frames.now (c.loop-at.at - 1) c.loop-at.at c.fresh.result c.loop-at.bank.pages
      (omega arith) (omega arith) (ap (λ p. p.frame) c.fresh.ensures)
      (ap (λ p. p.bytes) c.fresh.ensures) c.loop-at.invariant.put;
  room = ap (λ (b : Bank). b.room) c.put.ensures.bank ∙ c.loop-at.invariant.room;
  sound = c.put.ensures.sound;
}

pub returns-clause-free : goal.returns-clause-free
returns-clause-free c =
    let done : c.loop-at.at ≡ 0 = omega arith in
    λ rising. rising_are_free c.args.frames.now c.loop-at.bank (c.loop-at.invariant.put
    ∙ ap (λ k. put_pages (map fresh_page (drop k c.args.frames.now)) []) done) rising
