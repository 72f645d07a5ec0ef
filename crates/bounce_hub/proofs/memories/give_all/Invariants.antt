use Rattle.std.proofs.Common.{◌≡◌, ℕ, ◌+◌, ◌≤◌, ◌==◌, length}
use Rattle.std.specs.List.{count_by}
use Rattle.frame_bank.specs.FrameBank.{put_pages}
use Rattle.bounce_hub.proofs.memories.give_all.Given as goal

abbrev pub invariant-loop-page : goal.invariant-loop-page
invariant-loop-page l = record {
  putting : put_pages l.pages.items l.bank.pages ≡ put_pages l.fn.pages.items l.fn.bank.pages;
  apart : (k : ℕ) → count_by (λ p. p.frame == k) l.bank.pages + count_by (λ p. p.frame == k) l.pages.items ≤ 1;
  roomy : length l.bank.pages + length l.pages.items ≤ l.bank.room;
  room : l.bank.room ≡ l.fn.bank.room;
}

abbrev pub decreases-loop-page : goal.decreases-loop-page
decreases-loop-page l = length l.pages.items
