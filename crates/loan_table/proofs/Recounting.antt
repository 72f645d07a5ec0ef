-- Counts of positions that are lent, when marks are set and positions removed.
use Rattle.std.proofs.Common.{◌≡◌, ℕ, zero, suc, ◌+◌, ◌-◌, ◌≤◌, ◌<◌, ◌&&◌, ◌==◌, Bool, true, false, cond, length}
use Rattle.std.proofs.Common.{List, [], ◌∷◌, ◌++◌, map, take, drop, get_or, nat_lt, refl, sym, ap, ◌∙◌, arith, Some}
use Rattle.std.proofs.Common.{None, Option, unwrap_or}
use Rattle.std.proofs.lemmas.Bool.Decides.{nat_tests}
use Rattle.std.specs.List.{All, sum_by, count_by}
use Rattle.std.proofs.lemmas.List.{drop-drop}
use Rattle.std.proofs.lemmas.List.Sums.{sum_by-cons, sum_by-append, sum_by-take-drop}
use Rattle.std.proofs.lemmas.List.Elements.{All-from_get_or}
use Rattle.std.specs.Ordering.{nat_cmp}
use Rattle.std.specs.FinMap.{get, insert, remove, entries, empty, len-entries, len-empty}
use Rattle.std.proofs.lemmas.List.{nil_from_length}
use Rattle.run_set.specs.Numbers.{count_le}
use Rattle.run_set.specs.Counts.{count}
use Rattle.busdma_machine.specs.Machine.Wire.{stretch}
use Rattle.busdma_rules.specs.declared.position.Position.{Position}
use Rattle.loan_table.specs.declared.lent.LentCounts.{LentCounts}
use Rattle.loan_table.specs.declared.row.Way.{Way}
use Rattle.loan_table.specs.declared.row.Way.TheVariants.{ToWrite, ToRead}
use Rattle.busdma_rules.specs.Lending.Loans.{Loan, Loans, loan_of, no_loan, is_at, unlent_positions}
use Rattle.loan_table.specs.Kinds.{test_of}
use Rattle.busdma_rules.specs.Lending.SyncEffects.{marked, marked_range, synced}
use Rattle.loan_table.specs.Counted.{counted_places, lent_places, counts_of}
use Rattle.loan_table.specs.Counted.{IsCounted, IsCountPlaced, LendsNothing, HoldsCount}
use Rattle.loan_table.specs.Counted.{IsRecounted}
use Rattle.loan_table.specs.Trees.{with_value}
use Rattle.loan_table.proofs.MarkLaws.{no_position}
use Rattle.loan_table.proofs.Totals.{places-insert, places-remove}

abbrev here : (Position → Bool) → ℕ → Position → ℕ
here way a p = cond (p.pa == a && way p) 1 0

pub places-cons : (way : Position → Bool) (a : ℕ) (p : Position) (ps : List Position) →
    counted_places way a (p ∷ ps) ≡ cond (p.pa == a && way p) 1 0 + counted_places way a ps
places-cons way a p ps = sum_by-cons (here way a) p ps

pub places-append : (way : Position → Bool) (a : ℕ) (ps qs : List Position) →
    counted_places way a (ps ++ qs) ≡ counted_places way a ps + counted_places way a qs
places-append way a ps qs = sum_by-append (here way a) ps qs

-- no position is lent after POSTREAD and POSTWRITE
pub all_back : (way : Way) (a : ℕ) (ps : List Position) → counted_places (test_of way) a (map (marked 10) ps) ≡ 0
all_back way a [] = refl
all_back way a (p ∷ ps) =
    let one : cond {A = ℕ} (p.pa == a && test_of way (marked 10 p)) 1 0 ≡ 0 = ap (λ b. cond b 1 0) (none way) in
    omega (arith, one, places-cons (test_of way) a (marked 10 p) (map (marked 10) ps), all_back way a ps)
  where
    none : (way : Way) → (p.pa == a && test_of way (marked 10 p)) ≡ false
    none ToWrite = by (p.pa == a)
      where
        by : (b : Bool) → (b && false) ≡ false
        by true = refl
        by false = refl
    none ToRead = by (p.pa == a)
      where
        by : (b : Bool) → (b && false) ≡ false
        by true = refl
        by false = refl

pub none_lent : (way : Way) (a : ℕ) (bytes : List ℕ) → counted_places (test_of way) a (unlent_positions bytes) ≡ 0
none_lent way a [] = refl
none_lent way a (b ∷ bytes) =
    let p : Position = record { pa = b; to_read = false; to_write = false } in
    let one : cond {A = ℕ} (b == a && test_of way p) 1 0 ≡ 0 = ap (λ t. cond t 1 0) (none way) in
    omega (arith, one, places-cons (test_of way) a p (unlent_positions bytes), none_lent way a bytes)
  where
    none : (way : Way) → (b == a && test_of way (record { pa = b; to_read = false; to_write = false })) ≡ false
    none ToWrite = by (b == a)
      where
        by : (b : Bool) → (b && false) ≡ false
        by true = refl
        by false = refl
    none ToRead = by (b == a)
      where
        by : (b : Bool) → (b && false) ≡ false
        by true = refl
        by false = refl

-- the positions are those before a range, those of the range, and those after it
pub range_places : (way : Position → Bool) (a off len : ℕ) (ps : List Position) →
    counted_places way a (take off ps) + counted_places way a (stretch off len ps)
    + counted_places way a (drop (off + len) ps) ≡ counted_places way a
    ps
range_places way a off len ps =
    let whole : counted_places way a (take off ps) + counted_places way a (drop off ps) ≡ counted_places way a ps =
    sum_by-take-drop (here way a) ps off in
    let back : counted_places way a (stretch off len ps) + counted_places way a (drop len (drop off ps))
    ≡ counted_places way a (drop off ps) =
    sum_by-take-drop (here way a) (drop off ps) len in
    let same : counted_places way a (drop len (drop off ps)) ≡ counted_places way a (drop (off + len) ps) =
    ap (counted_places way a) (drop-drop len off ps) in
    omega arith

pub held_range : (lent : LentCounts) (loans : Loans) (m off len : ℕ) → IsCounted lent loans →
    HoldsCount lent (stretch off len (loan_of loans m).positions)
held_range lent loans m off len counted way a =
    let all : lent_places (test_of way) a (remove loans m) + counted_places (test_of way) a (loan_of loans m).positions
    ≡ lent_places (test_of way) a loans = places-remove (test_of way) a loans m in
    omega (arith, counted way a, all, range_places (test_of way) a off len (loan_of loans m).positions)

pub held_loan : (lent : LentCounts) (loans : Loans) (m : ℕ) → IsCounted lent loans →
    HoldsCount lent (loan_of loans m).positions
held_loan lent loans m counted way a =
    let all : lent_places (test_of way) a (remove loans m) + counted_places (test_of way) a (loan_of loans m).positions
    ≡ lent_places (test_of way) a loans = places-remove (test_of way) a loans m in
    omega (arith, counted way a, all)

pub counted_without : (old new : LentCounts) (loans : Loans) (m : ℕ) → IsCounted old loans →
    IsRecounted old new (loan_of loans m).positions [] → IsCounted new (remove loans m)
counted_without old new loans m counted re way a =
    let all : lent_places (test_of way) a (remove loans m) + counted_places (test_of way) a (loan_of loans m).positions
    ≡ lent_places (test_of way) a loans = places-remove (test_of way) a loans m in
    omega (arith, counted way a, all, re way a)

pub counted_synced : (old new : LentCounts) (loans : Loans) (m off len ops : ℕ) →
    (loan_of loans m).coherent ≡ false → IsCounted old loans →
    IsRecounted old new (stretch off len (loan_of loans m).positions)
    (map (marked ops) (stretch off len (loan_of loans m).positions)) →
    IsCounted new (synced loans m off len ops)
counted_synced old new loans m off len ops closed counted re way a = rw closed (
    let ps = (loan_of loans m).positions in
    let put = places-insert (test_of way) a loans m
    (record { coherent = false; positions = marked_range ops off len ps }) in
    let parts : counted_places (test_of way) a (marked_range ops off len ps)
    ≡ counted_places (test_of way) a (take off ps) + counted_places (test_of way) a
    (map (marked ops) (stretch off len ps))
    + counted_places (test_of way) a (drop (off + len) ps) =
    places-append (test_of way) a (take off ps ++ map (marked ops) (stretch off len ps)) (drop (off + len) ps)
    ∙ ap (λ n. n + counted_places (test_of way) a (drop (off + len) ps))
    (places-append (test_of way) a (take off ps) (map (marked ops) (stretch off len ps))) in
    omega (arith, counted way a, re way a, put, parts, range_places (test_of way) a off len ps))

-- counts stay right if a map that lends nothing is added, or if a map that is not there is removed
pub counted_with : (lent : LentCounts) (loans : Loans) (m : ℕ) (o : Option Loan) → IsCounted lent loans →
    get loans m ≡ None → LendsNothing (unwrap_or o no_loan).positions → IsCounted lent (with_value loans m o)
counted_with lent loans m None counted gone none way a =
    let all : lent_places (test_of way) a (remove loans m) + counted_places (test_of way) a (loan_of loans m).positions
    ≡ lent_places (test_of way) a loans = places-remove (test_of way) a loans m in
    let zero_here : counted_places (test_of way) a (loan_of loans m).positions ≡ 0 =
    ap (λ x. counted_places (test_of way) a (unwrap_or x no_loan).positions) gone in
    omega (arith, counted way a, all, zero_here)
counted_with lent loans m (Some new) counted gone none way a =
    let put : lent_places (test_of way) a (insert loans m new) + counted_places (test_of way) a
    (loan_of loans m).positions
    ≡ lent_places (test_of way) a loans + counted_places (test_of way) a new.positions = places-insert (test_of way) a
    loans m
    new in
    let zero_here : counted_places (test_of way) a (loan_of loans m).positions ≡ 0 =
    ap (λ x. counted_places (test_of way) a (unwrap_or x no_loan).positions) gone in
    omega (arith, counted way a, put, zero_here, none way a)

-- the positions of a loan are placed
less : (b w : Bool) → cond (b && w) 1 0 ≤ cond b 1 0
less true true = omega arith
less true false = omega arith
less false w = omega arith

fewer : (way : Position → Bool) (a : ℕ) (ps : List Position) → counted_places way a ps ≤ count_by (is_at a) ps
fewer way a [] = omega arith
fewer way a (p ∷ ps) =
    let one : counted_places way a (p ∷ ps) ≡ cond (p.pa == a && way p) 1 0 + counted_places way a ps =
    places-cons way a p ps in
    let two : count_by (is_at a) (p ∷ ps) ≡ cond (p.pa == a) 1 0 + count_by (is_at a) ps =
    sum_by-cons (λ (x : Position). cond (x.pa == a) 1 0) p ps in
    let small : cond (p.pa == a && way p) 1 0 ≤ cond (p.pa == a) 1 0 = less (p.pa == a) (way p) in
    omega (arith, one, two, small, fewer way a ps)

count-cons : (a : ℕ) (p : Position) (ps : List Position) →
    count_by (is_at a) (p ∷ ps) ≡ cond (p.pa == a) 1 0 + count_by (is_at a) ps
count-cons a p ps = sum_by-cons (λ (x : Position). cond (x.pa == a) 1 0) p ps

same_byte : (n : ℕ) → (n == n) ≡ true
same_byte n = grind (arith, nat_tests)

stands : (ps : List Position) (i : ℕ) → i < length ps → 0 < count_by (is_at (get_or ps i no_position).pa) ps
stands [] i lt = absurd (omega arith)
stands (p ∷ ps) zero lt =
    let one : count_by (is_at p.pa) (p ∷ ps) ≡ 1 + count_by (is_at p.pa) ps =
    count-cons p.pa p ps ∙ ap (λ b. cond b 1 0 + count_by (is_at p.pa) ps) (same_byte p.pa) in omega arith
stands (p ∷ ps) (suc i) lt =
    omega (arith, count-cons (get_or ps i no_position).pa p ps, stands ps i (omega arith))

placed_at : (way : Position → Bool) (ps : List Position) (i : ℕ) → i < length ps →
    count_by (is_at (get_or ps i no_position).pa) ps ≤ 1 →
    counted_places way (get_or ps i no_position).pa ps ≡ cond (way (get_or ps i no_position)) 1 0
placed_at way [] i lt once = absurd (omega arith)
placed_at way (p ∷ ps) zero lt once =
    let first : counted_places way p.pa (p ∷ ps) ≡ cond (way p) 1 0 + counted_places way p.pa ps =
    places-cons way p.pa p ps ∙ ap (λ b. cond (b && way p) 1 0 + counted_places way p.pa ps) (same_byte p.pa) in
    let one : count_by (is_at p.pa) (p ∷ ps) ≡ 1 + count_by (is_at p.pa) ps =
    count-cons p.pa p ps ∙ ap (λ b. cond b 1 0 + count_by (is_at p.pa) ps) (same_byte p.pa) in
    omega (arith, first, one, once, fewer way p.pa ps)
placed_at way (p ∷ ps) (suc i) lt once =
    by (p.pa == (get_or ps i no_position).pa) refl (placed_at way ps i (omega arith))
  where
    a : ℕ
    a = (get_or ps i no_position).pa

    by : (b : Bool) → (p.pa == a) ≡ b →
        (count_by (is_at a) ps ≤ 1 → counted_places way a ps ≡ cond (way (get_or ps i no_position)) 1 0) →
        counted_places way a (p ∷ ps) ≡ cond (way (get_or ps i no_position)) 1 0
    by true e later =
        let one : count_by (is_at a) (p ∷ ps) ≡ 1 + count_by (is_at a) ps =
        count-cons a p ps ∙ ap (λ b. cond b 1 0 + count_by (is_at a) ps) e in
        absurd (omega (arith, one, once, stands ps i (omega arith)))
    by false e later =
        let one : count_by (is_at a) (p ∷ ps) ≡ 0 + count_by (is_at a) ps =
        count-cons a p ps ∙ ap (λ b. cond b 1 0 + count_by (is_at a) ps) e in
        let first : counted_places way a (p ∷ ps) ≡ 0 + counted_places way a ps =
        places-cons way a p ps ∙ ap (λ b. cond (b && way p) 1 0 + counted_places way a ps) e in
        omega (arith, first, later (omega (arith, one, once)))

once_at : (n : ℕ) → nat_lt 1 n ≡ false → n ≤ 1
once_at n e = grind (arith, nat_tests)

pub all_placed : (loan : Loan) → All (IsCountPlaced loan) loan.positions
all_placed loan = All-from_get_or (IsCountPlaced loan) loan.positions no_position
    (λ i lt once way. placed_at (test_of way) loan.positions i lt (once_at _ once))

-- empty counts are right for no map
pub none_counted : (lent : LentCounts) (way : Way) (a : ℕ) → lent.to_write.starts ≡ [] → lent.to_read.starts ≡ [] →
    count (counts_of lent way) a ≡ lent_places (test_of way) a empty
none_counted lent way a e f = none lent way a e f ∙ sym
    (ap (sum_by (λ (x : ℕ × Loan). counted_places (test_of way) a x.1.positions)) entries-empty)
  where
    none : (lent : LentCounts) (way : Way) (a : ℕ) → lent.to_write.starts ≡ [] → lent.to_read.starts ≡ [] → count
        (counts_of lent way) a ≡ 0
    none lent ToWrite a e f = ap (λ xs. count_le xs a - count_le lent.to_write.ends a) e ∙ (omega arith)
    none lent ToRead a e f = ap (λ xs. count_le xs a - count_le lent.to_read.ends a) f ∙ (omega arith)

    entries-empty : entries (empty {X = Loan} {R = nat_cmp}) ≡ []
    entries-empty = nil_from_length _ (sym (len-entries (empty {X = Loan} {R = nat_cmp})) ∙ len-empty nat_cmp Loan)
