use Rattle.std.proofs.Common.{◌≡◌, [], map, drop, length}
use Rattle.frame_bank.specs.FrameBank.{IsBank, fresh_page, put_pages}
use Rattle.frame_bank.proofs.bank.FrameBank.of_frames.Given as goal

abbrev pub invariant-loop-at : goal.invariant-loop-at
invariant-loop-at l = record {
  put : l.bank.pages ≡ put_pages (map fresh_page (drop l.at l.frames)) [];
  room : l.bank.room ≡ length l.frames;
  sound : IsBank l.bank;
}
