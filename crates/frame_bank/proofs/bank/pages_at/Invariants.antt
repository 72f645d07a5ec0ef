use Rattle.std.proofs.Common.{◌≡◌, take, drop}
use Rattle.frame_bank.proofs.bank.pages_at.Given as goal

abbrev pub invariant-loop-i : goal.invariant-loop-i
invariant-loop-i l = l.pages ≡ record { items = take l.i (drop l.at l.free.items); room = l.count }
