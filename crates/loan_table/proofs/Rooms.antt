-- How many positions the maps of a table have, and the room that is left after a change.
use Rattle.std.proofs.Common.{◌≡◌, ℕ, zero, suc, ◌+◌, ◌-◌, ◌<◌, ◌≤◌, Bool, true, false, List, [], ◌∷◌, length, Option}
use Rattle.std.proofs.Common.{Some}
use Rattle.std.proofs.Common.{None, unwrap_or, refl, sym, ap, subst, ◌∙◌, arith}
use Rattle.std.specs.Option.{option_map}
use Rattle.std.specs.Ordering.{nat_cmp}
use Rattle.std.specs.Cmp.{nat_cmp_total}
use Rattle.std.specs.Map.{lookup, keys_of, remove_entry, set_value}
use Rattle.std.specs.BTreeMap.{is_at, insert_entry}
use Rattle.std.specs.List.Sorted.{IsStrictlySortedBy}
use Rattle.std.proofs.lemmas.Map.Entries.{sum_by-remove_entry, sum_by-set_value, sum_by-insert_entry}
use Rattle.busdma_rules.specs.declared.position.Position.{Position}
use Rattle.loan_table.specs.declared.slot.Slot.{Slot}
use Rattle.loan_table.specs.declared.lent.LentCounts.{LentCounts}
use Rattle.loan_table.specs.Counted.{counts_of, HasChanges, HasCountRoom, UsesChanges}
use Rattle.loan_table.specs.Kept.{HasRoom, position_count}
use Rattle.busdma_machine.specs.Machine.Wire.{stretch}
use Rattle.busdma_rules.specs.Lending.SyncEffects.{marked_range}
use Rattle.busdma_rules.specs.Lending.Loans.{Loan, loan_of, addresses_of}
use Rattle.loan_table.specs.Marks.{Marks}
use Rattle.loan_table.specs.Table.{extent_count}
use Rattle.loan_table.specs.Trees.{loans_in}
use Rattle.loan_table.proofs.Extending.{length-range}
use Rattle.loan_table.proofs.LoansInTree.{loan_found, loan_shut, loan_missing}
use Rattle.busdma_rules.proofs.Lending.Marking.{addresses_of-marked_range}

abbrev size : Slot → ℕ
size slot = length slot.row.positions

-- the number of positions after a map is removed, replaced by one with as many positions, or added
pub count_removed : (es : List (ℕ × Slot)) (test : ℕ → Bool) (slot : Slot) → lookup test es ≡ Some slot →
    position_count (remove_entry test es) + length slot.row.positions ≡ position_count es
count_removed es test slot h = ap (λ o. position_count (remove_entry test es) + unwrap_or (option_map size o) 0)
    (sym h)
    ∙ sum_by-remove_entry size test es

pub count_taken : (es ds : List (ℕ × Slot)) (test : ℕ → Bool) (left : Option Slot) (n : ℕ) →
    ds ≡ remove_entry test es → left ≡ lookup test es →
    n ≡ unwrap_or (option_map (λ s. length s.row.positions) left) 0 → position_count ds + n ≡ position_count es
count_taken es ds test left n e f g = ap (λ x. position_count x + n) e
    ∙ ap (λ k. position_count (remove_entry test es) + k) (g ∙ ap (λ o. unwrap_or (option_map size o) 0) f)
    ∙ sum_by-remove_entry size test es

pub count_set : (es : List (ℕ × Slot)) (test : ℕ → Bool) (old new : Slot) → lookup test es ≡ Some old →
    length new.row.positions ≡ length old.row.positions → position_count (set_value test es new) ≡ position_count es
count_set es test old new h same =
    let sums : position_count (set_value test es new) + length old.row.positions ≡ position_count es
    + length new.row.positions = sum_by-set_value size test es old new h in
    omega arith

pub count_put : (es : List (ℕ × Slot)) (k : ℕ) (slot : Slot) → IsStrictlySortedBy nat_cmp (keys_of es) →
    position_count (insert_entry nat_cmp es k slot)
    + unwrap_or (option_map (λ s. length s.row.positions) (lookup (is_at (nat_cmp k)) es)) 0
    ≡ position_count es + length slot.row.positions
count_put es k slot sorted = sum_by-insert_entry size nat_cmp_total es k slot sorted

-- no map has more positions than all maps together
count_open : (es : List (ℕ × Slot)) (m : ℕ) (slot : Slot) (b : Bool) → lookup (is_at (nat_cmp m)) es ≡ Some slot →
    slot.is_open ≡ b → length (loan_of (loans_in true es) m).positions ≤ position_count es
count_open es m slot true e o =
    let sums : position_count (remove_entry (is_at (nat_cmp m)) es) + length slot.row.positions ≡ position_count es =
    count_removed es (is_at (nat_cmp m)) slot e in
    subst (λ (l : Loan). length l.positions ≤ position_count es) (sym (loan_found es m slot e o)) (omega arith)
count_open es m slot false e o =
    subst (λ (l : Loan). length l.positions ≤ position_count es) (sym (loan_shut es m slot e o)) (omega arith)

count_found : (es : List (ℕ × Slot)) (m : ℕ) (o : Option Slot) → lookup (is_at (nat_cmp m)) es ≡ o →
    length (loan_of (loans_in true es) m).positions ≤ position_count es
count_found es m None e =
    subst (λ (l : Loan). length l.positions ≤ position_count es) (sym (loan_missing true es m e)) (omega arith)
count_found es m (Some slot) e = count_open es m slot slot.is_open e refl

pub count_bound : (es : List (ℕ × Slot)) (m : ℕ) → length (loan_of (loans_in true es) m).positions ≤ position_count es
count_bound es m = count_found es m (lookup (is_at (nat_cmp m)) es) refl

length-addresses_of : (ps : List Position) → length (addresses_of ps) ≡ length ps
length-addresses_of [] = refl
length-addresses_of (p ∷ ps) = ap suc (length-addresses_of ps)

pub length-marked_range : (ops off len : ℕ) (ps : List Position) → length (marked_range ops off len ps) ≡ length ps
length-marked_range ops off len ps = sym (length-addresses_of (marked_range ops off len ps))
    ∙ ap length (addresses_of-marked_range ops off len ps) ∙ length-addresses_of ps

-- bytes are in at least one extent
extent_some : (bytes : List ℕ) → 0 < length bytes → 0 < extent_count bytes
extent_some [] h = absurd (omega arith)
extent_some (a ∷ rest) h = omega arith

pub needs_spare : (off len spare : ℕ) (ps : List Position) → off + len ≤ length ps →
    extent_count (addresses_of (stretch off len ps)) ≤ spare → 0 < len → 0 < spare
needs_spare off len spare ps range room some =
    let long : length (addresses_of (stretch off len ps)) ≡ len = length-range off len ps range in
    let one : 0 < extent_count (addresses_of (stretch off len ps)) =
    extent_some (addresses_of (stretch off len ps)) (omega arith) in
    omega arith

-- the room after a change of n extents, after a change of n bytes, and after a map of n positions is removed
pub used_extents : (b c : Marks) (p s n : ℕ) → HasRoom b p s → n ≤ s → b.room ≤ c.room + (n + n) → c.there_room ≡
    b.there_room → HasRoom c p (s - n)
used_extents b c p zero n h l r t =
    record {
      forgets = omega (arith, h.forgets);
      changes = λ q. absurd (omega arith);
      drops = λ q. absurd (omega arith);
    }
used_extents b c p (suc s) n h l r t =
    let all : p + p + (p + p) + (suc s + suc s) ≤ b.room = h.changes (omega arith) in
    let two : 2 ≤ b.there_room = h.drops (omega arith) in
    record { forgets = omega arith; changes = λ q. omega arith; drops = λ q. omega arith }

pub used_bytes : (b c : Marks) (p s n left : ℕ) → HasRoom b p s → n ≤ p → (0 < n → 0 < s) → b.room ≤ c.room + (n + n)
    → left ≤ s → (0 < left → n ≡ 0) → c.there_room ≡ b.there_room → HasRoom c p left
used_bytes b c p s zero left h l k r le z t = record {
  forgets = omega (arith, h.forgets);
  changes = λ q. let all : p + p + (p + p) + (s + s) ≤ b.room = h.changes (omega arith) in omega arith;
  drops = λ q. let two : 2 ≤ b.there_room = h.drops (omega arith) in omega arith;
}
used_bytes b c p s (suc n) left h l k r le z t = record {
  forgets = let all : p + p + (p + p) + (s + s) ≤ b.room = h.changes (k (omega arith)) in omega arith;
  changes = λ q. absurd (let none : suc n ≡ 0 = z q in omega arith);
  drops = λ q. absurd (let none : suc n ≡ 0 = z q in omega arith);
}

pub left_by_map : (b c : Marks) (p q s n : ℕ) → HasRoom b p s → q + n ≡ p → b.room ≤ c.room + (n + n) →
    c.there_room ≡ b.there_room → HasRoom c q s
left_by_map b c p q s n h e r t = record {
  forgets = omega (arith, h.forgets);
  changes = λ some. let all : p + p + (p + p) + (s + s) ≤ b.room = h.changes some in omega arith;
  drops = λ some. let two : 2 ≤ b.there_room = h.drops some in omega arith;
}

pub room_made : (b : Marks) (p s : ℕ) → p + p + (p + p) + (s + s) ≤ b.room → 2 ≤ b.there_room → HasRoom b p s
room_made b p s h t = record { forgets = omega arith; changes = λ q. h; drops = λ q. t }

-- there is room for one run, and some room is left after it
pub one_run : (b : Marks) (p s : ℕ) → HasRoom b p s → 1 ≤ s → 2 ≤ b.room
one_run b p s h some = let all : p + p + (p + p) + (s + s) ≤ b.room = h.changes some in omega arith

pub two_edges : (b : Marks) (p s : ℕ) → HasRoom b p s → 1 ≤ s → 2 ≤ b.there_room
two_edges b p s h some = h.drops some

pub room_left : (b c : Marks) (p s : ℕ) → HasRoom b p s → 1 ≤ s → b.room ≤ c.room + 2 → HasRoom c p 0
room_left b c p s h some r =
    let all : p + p + (p + p) + (s + s) ≤ b.room = h.changes some in
    record { forgets = omega arith; changes = λ q. absurd (omega arith); drops = λ q. absurd (omega arith) }

-- the room of the counts: as it was made, if less may change, after a map is removed, and after n bytes are
-- changed
pub count_room_made : (l : LentCounts) (p s : ℕ) → HasChanges l (p + p) → HasCountRoom l p s
count_room_made l p s h =
    record { forgets = λ way. let all : p + p ≤ (counts_of l way).room = h way in omega arith; changes = λ some. h }

pub room_kept : (l : LentCounts) (p s t : ℕ) → t ≤ s → HasCountRoom l p s → HasCountRoom l p t
room_kept l p s t le h = record { forgets = h.forgets; changes = λ some. h.changes (omega arith) }

pub count_room_less : (l m : LentCounts) (p q s n : ℕ) → HasCountRoom l p s → q + n ≡ p → UsesChanges l m n →
    HasCountRoom m q s
count_room_less l m p q s n h e used = record {
  forgets = λ way.
      let all : p ≤ (counts_of l way).room = h.forgets way in
      let less : (counts_of l way).room ≤ (counts_of m way).room + n = used way in omega arith;
  changes = λ some way.
      let all : p + p ≤ (counts_of l way).room = h.changes some way in
      let less : (counts_of l way).room ≤ (counts_of m way).room + n = used way in omega arith;
}

pub count_room_used : (l m : LentCounts) (p s n left : ℕ) → HasCountRoom l p s → n ≤ p → (0 < n → 0 < s) →
    UsesChanges l m n → left ≤ s → (0 < left → n ≡ 0) → HasCountRoom m p left
count_room_used l m p s zero left h small k used le z = record {
  forgets = λ way.
      let all : p ≤ (counts_of l way).room = h.forgets way in
      let less : (counts_of l way).room ≤ (counts_of m way).room + 0 = used way in omega arith;
  changes = λ some way.
      let all : p + p ≤ (counts_of l way).room = h.changes (omega arith) way in
      let less : (counts_of l way).room ≤ (counts_of m way).room + 0 = used way in omega arith;
}
count_room_used l m p s (suc n) left h small k used le z = record {
  forgets = λ way.
      let all : p + p ≤ (counts_of l way).room = h.changes (k (omega arith)) way in
      let less : (counts_of l way).room ≤ (counts_of m way).room + suc n = used way in omega arith;
  changes = λ some. absurd (let none : suc n ≡ 0 = z some in omega arith);
}
