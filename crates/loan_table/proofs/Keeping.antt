-- What a table keeps if it gets more room.
use Rattle.std.proofs.Common.{◌≡◌, ℕ, ◌+◌, ◌≤◌, true, false, sym, subst, ◌∙◌, arith}
use Rattle.std.specs.List.Sorted.{IsStrictlySortedBy}
use Rattle.std.specs.Map.{keys_of}
use Rattle.std.specs.Ordering.{nat_cmp}
use Rattle.std.specs.BTreeMap.{BTreeMap}
use Rattle.loan_table.specs.declared.lent.LentCounts.{LentCounts}
use Rattle.loan_table.specs.declared.slot.Slot.{Slot}
use Rattle.loan_table.specs.Counted.{IsAlike, IsCounted, UsesChanges, counts_of}
use Rattle.loan_table.specs.Kept.{AreIdle, AreLow, IsKept, HasItsBytes, position_count}
use Rattle.loan_table.specs.Marks.{Marks}
use Rattle.loan_table.specs.Trees.{closed, loans_in, opened}

pub kept_more : (b c : Marks) (loans same_loans : BTreeMap ℕ Slot) (l m : LentCounts) (p s : ℕ) →
    IsKept b loans l p s → loans.entries ≡ same_loans.entries → c.bytes ≡ b.bytes → b.room ≤ c.room → b.there_room ≤
    c.there_room → IsAlike l m → UsesChanges l m 0 →
    IsKept c same_loans m p s
kept_more b c loans same_loans l m p s h e same more more_there alike used = record {
  ordered = subst (λ es. IsStrictlySortedBy nat_cmp (keys_of es)) e h.ordered;
  inside = subst (λ bytes. HasItsBytes bytes (opened same_loans)) (sym same)
      (subst (λ es. HasItsBytes b.bytes (loans_in true es)) e h.inside);
  prepared = subst (λ bytes. HasItsBytes bytes (closed same_loans)) (sym same)
      (subst (λ es. HasItsBytes b.bytes (loans_in false es)) e h.prepared);
  low = subst AreLow (sym same) h.low;
  counted = subst (λ es. position_count es ≡ p) e h.counted;
  room = record {
    forgets = omega (arith, h.room.forgets);
    changes = λ some. let all : p + p + (p + p) + (s + s) ≤ b.room = h.room.changes some in omega arith;
    drops = λ some. let two : 2 ≤ b.there_room = h.room.drops some in omega arith;
  };
  lent_counted = subst (λ es. IsCounted m (loans_in true es)) e (λ way a. alike way a ∙ h.lent_counted way a);
  idle = subst (λ es. AreIdle (loans_in false es)) e h.idle;
  count_room = record {
    forgets = λ way.
        let all : p ≤ (counts_of l way).room = h.count_room.forgets way in
        let less : (counts_of l way).room ≤ (counts_of m way).room + 0 = used way in omega arith;
    changes = λ some way.
        let all : p + p ≤ (counts_of l way).room = h.count_room.changes some way in
        let less : (counts_of l way).room ≤ (counts_of m way).room + 0 = used way in omega arith;
  };
}
