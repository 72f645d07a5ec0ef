-- Marks by two sets of addresses change as a finite map does.
use Rattle.std.proofs.Common.{◌≡◌, ℕ, zero, suc, ◌+◌, ◌≤◌, ◌<◌, Bool, true, false, not, cond, if◌then◌else◌, ◌||◌, eqb}
use Rattle.std.proofs.Common.{ltb, ◌&&◌, unwrap_or, List, [], ◌∷◌, length, Option, Some, None}
use Rattle.std.proofs.Common.{is_some, refl, sym, ap, ◌∙◌, arith}
use Rattle.std.proofs.lemmas.Bool.{le-leb, ltb-true, ltb-false, lt-ltb, le-ltb}
use Rattle.std.proofs.lemmas.Bool.Decides.{nat_tests}
use Rattle.std.specs.Ordering.{nat_cmp}
use Rattle.std.specs.Cmp.{nat_cmp_total, unsigned_tied}
use Rattle.std.proofs.lemmas.Map.Views.{exact_unsigned_eq}
use Rattle.std.specs.FinMap.{FinMap, get, insert, remove, get-insert, get-remove, get-empty, same_map}
use Rattle.std.specs.FinMap.{nat_cmp-IsAntisymmetric}
use Rattle.busdma_machine.specs.Runs.{run_of}
use Rattle.loan_table.specs.Table.{AreIn, is_marked, set_all, without}
use Rattle.run_set.specs.Edges.{member, differ, odd, is_inside_run, IsKept}
use Rattle.loan_table.specs.Marks.{with_option, tabulated, top, mark_of, marks}

in_run_step : (s n a : ℕ) → is_inside_run s (s + suc n) a ≡ (is_inside_run (s + 1) (s + 1 + n) a || eqb a s)
in_run_step s n a = grind (arith, nat_tests)

in_run_none : (s a : ℕ) → is_inside_run s (s + 0) a ≡ false
in_run_none s a = grind (arith, nat_tests)

cond_or : {A : Type 0} (x y : Bool) (p o : A) → cond x p (cond y p o) ≡ cond (x || y) p o
cond_or true y p o = refl
cond_or false y p o = refl

get_inserted : {X : Type 0} (m : FinMap nat_cmp X) (k : ℕ) (x : X) (a : ℕ) →
    get (insert m k x) a ≡ cond (eqb a k) (Some x) (get m a)
get_inserted m k x a = get-insert nat_cmp_total m k x a ∙ ap (λ b. cond b (Some x) (get m a)) (unsigned_tied a k)

module _ {X : Type 0} (f : ℕ → Option X) where
  unchanged : (k : ℕ) (m : FinMap nat_cmp X) (a : ℕ) (b : Bool) → eqb a k ≡ b → f k ≡ None →
      get m k ≡ None → get m a ≡ cond b (f k) (get m a)
  unchanged k m a true t e none = ap (get m) (exact_unsigned_eq a k t) ∙ none ∙ sym e
  unchanged k m a false t e none = refl

  get-with_option : (o : Option X) (k : ℕ) (m : FinMap nat_cmp X) (a : ℕ) → f k ≡ o → get m k ≡ None →
      get (with_option o k m) a ≡ cond (eqb a k) (f k) (get m a)
  get-with_option None k m a e none = unchanged k m a (eqb a k) refl e none
  get-with_option (Some x) k m a e none = get_inserted m k x a ∙ ap (λ o. cond (eqb a k) o (get m a)) (sym e)

  next_bound : (a n : ℕ) (b t : Bool) → eqb a n ≡ b → ltb a n ≡ t →
      cond b (f n) (cond t (f a) None) ≡ cond (ltb a (suc n)) (f a) None
  next_bound a n true t e l = ap f (sym (exact_unsigned_eq a n e))
      ∙ ap (λ b. cond b (f a) None) (sym (lt-ltb a (suc n) (let x : a ≡ n = exact_unsigned_eq a n e in omega arith)))
  next_bound a n false true e l =
      ap (λ b. cond b (f a) None) (sym (lt-ltb a (suc n) (let x : a < n = ltb-true a n l in omega arith)))
  next_bound a n false false e l =
      ap (λ b. cond b (f a) None) (let x : ltb a (suc n) ≡ false = grind (arith, nat_tests) in sym x)

  pub get-tabulated : (n a : ℕ) → get (tabulated n f) a ≡ cond (ltb a n) (f a) None
  get-tabulated zero a = get-empty nat_cmp a ∙ ap (λ b. cond b (f a) None) (sym (le-ltb a 0 (omega arith)))
  get-tabulated (suc n) a =
      let none : get (tabulated n f) n ≡ None =
      get-tabulated n n ∙ ap (λ b. cond b (f n) None) (le-ltb n n (omega arith)) in
      get-with_option (f n) n (tabulated n f) a refl none
      ∙ ap (cond (eqb a n) (f n)) (get-tabulated n a) ∙ next_bound a n (eqb a n) (ltb a n) refl refl

member_past : (es : List ℕ) (a : ℕ) → top es ≤ a → member es a ≡ odd (length es)
member_past [] a h = refl
member_past (e ∷ es) a h =
    let x : e ≤ a = omega arith in
    let y : top es ≤ a = omega arith in
    ap (λ b. differ b (member es a)) (le-leb e a x) ∙ ap not (member_past es a y)

-- the mark of a byte
pub get-marks : (there known : List ℕ) → IsKept there → (a : ℕ) → get (marks there known) a ≡ mark_of there known a
get-marks there known kept a = get-tabulated (mark_of there known) (top there) a ∙ below (ltb a (top there)) refl
  where
    below : (b : Bool) → ltb a (top there) ≡ b → cond b (mark_of there known a) None ≡ mark_of there known a
    below true e = refl
    below false e =
        ap (λ b. if b then Some (member known a) else None)
        (sym (member_past there a (ltb-false a (top there) e) ∙ kept.finite))

pub get-set_run : (m : FinMap nat_cmp Bool) (s n : ℕ) (v : Bool) (a : ℕ) →
    get (set_all m (run_of s n) v) a ≡ cond (is_inside_run s (s + n) a) (Some v) (get m a)
get-set_run m s zero v a = ap (λ b. cond b (Some v) (get m a)) (sym (in_run_none s a))
get-set_run m s (suc n) v a =
    get-set_run (insert m s v) (s + 1) n v a ∙ ap (cond (is_inside_run (s + 1) (s + 1 + n) a) (Some v))
    (get_inserted m s v a)
    ∙ cond_or (is_inside_run (s + 1) (s + 1 + n) a) (eqb a s) (Some v) (get m a)
    ∙ ap (λ b. cond b (Some v) (get m a)) (sym (in_run_step s n a))

-- a run of bytes is there and marked, as finite maps say
module _ (there there' known known' : List ℕ) (s n : ℕ) (v : Bool) (kept : IsKept there) (kept' : IsKept there')
    (added : (a : ℕ) → member there' a ≡ (if is_inside_run s (s + n) a then true else member there a))
    (set : (a : ℕ) → member known' a ≡ (if is_inside_run s (s + n) a then v else member known a)) where
  one_mark : (a : ℕ) (b : Bool) → cond (if b then true else member there a) (Some (if b then v else member known a))
      None ≡ cond b (Some v) (mark_of there known a)
  one_mark a true = refl
  one_mark a false = refl

  pub marks_set : marks there' known' ≡ set_all (marks there known) (run_of s n) v
  marks_set = same_map nat_cmp_total nat_cmp-IsAntisymmetric _ _ (λ a.
      get-marks there' known' kept' a ∙ rw (added a, set a) (one_mark a (is_inside_run s (s + n) a))
      ∙ sym (get-set_run (marks there known) s n v a
      ∙ ap (cond (is_inside_run s (s + n) a) (Some v)) (get-marks there known kept a)))

-- a run of bytes is gone, as finite maps say
get_removed : (m : FinMap nat_cmp Bool) (k a : ℕ) → get (remove m k) a ≡ cond (eqb a k) None (get m a)
get_removed m k a = get-remove nat_cmp_total m k a ∙ ap (λ b. cond b None (get m a)) (unsigned_tied a k)

pub get-without_run : (m : FinMap nat_cmp Bool) (s n a : ℕ) →
    get (without m (run_of s n)) a ≡ cond (is_inside_run s (s + n) a) None (get m a)
get-without_run m s zero a = ap (λ b. cond b None (get m a)) (sym (in_run_none s a))
get-without_run m s (suc n) a =
    get-without_run (remove m s) (s + 1) n a ∙ ap (cond (is_inside_run (s + 1) (s + 1 + n) a) None) (get_removed m s a)
    ∙ cond_or (is_inside_run (s + 1) (s + 1 + n) a) (eqb a s) None (get m a)
    ∙ ap (λ b. cond b None (get m a)) (sym (in_run_step s n a))

module _ (there there' known : List ℕ) (s n : ℕ) (kept : IsKept there) (kept' : IsKept there')
    (gone : (a : ℕ) → member there' a ≡ (if is_inside_run s (s + n) a then false else member there a)) where
  no_mark : (a : ℕ) (b : Bool) → cond (if b then false else member there a) (Some (member known a)) None
      ≡ cond b None (mark_of there known a)
  no_mark a true = refl
  no_mark a false = refl

  pub marks_without : marks there' known ≡ without (marks there known) (run_of s n)
  marks_without = same_map nat_cmp_total nat_cmp-IsAntisymmetric _ _ (λ a.
      get-marks there' known kept' a ∙ rw (gone a) (no_mark a (is_inside_run s (s + n) a))
      ∙ sym (get-without_run (marks there known) s n a
      ∙ ap (cond (is_inside_run s (s + n) a) None) (get-marks there known kept a)))

-- a byte is in the table exactly if the set of those that are there has it
pub there_by_marks : (there known : List ℕ) → IsKept there → (a : ℕ) →
    is_some (get (marks there known) a) ≡ member there a
there_by_marks there known kept a = ap is_some (get-marks there known kept a) ∙ some (member there a)
  where
    some : (b : Bool) → is_some (cond b (Some (member known a)) None) ≡ b
    some true = refl
    some false = refl

-- the bytes of a run that are in the table are in the set of those that are there
pub run_is_there : (there known : List ℕ) → IsKept there → (s n : ℕ) → AreIn (marks there known) (run_of s n) →
    (a : ℕ) → s ≤ a → a < s + n → member there a ≡ true
run_is_there there known kept s zero h a p q = absurd (omega arith)
run_is_there there known kept s (suc n) h a p q =
    at_test (eqb a s) refl (run_is_there there known kept (s + 1) n h.1 a)
  where
    at_test : (b : Bool) → eqb a s ≡ b → (s + 1 ≤ a → a < s + 1 + n → member there a ≡ true) → member there a ≡ true
    at_test true e rest = ap (member there) (exact_unsigned_eq a s e) ∙ sym (there_by_marks there known kept s) ∙ h.0
    at_test false e rest = rest (let x : (a ≡ s → ⊥) = (λ is. grind (arith, nat_tests)) in omega arith) (omega arith)

pub run_stays : (there known : List ℕ) → IsKept there → (s n : ℕ) → AreIn (marks there known) (run_of s n) → (a : ℕ) →
    member there a ≡ (if is_inside_run s (s + n) a then true else member there a)
run_stays there known kept s n h a = at_test (is_inside_run s (s + n) a) refl
  where
    at_test : (b : Bool) → is_inside_run s (s + n) a ≡ b → member there a ≡ (if b then true else member there a)
    at_test true e = run_is_there there known kept s n h a (grind (arith, nat_tests)) (grind (arith, nat_tests))
    at_test false e = refl

-- a byte has the mark of a Known one
pub known_by_marks : (there known : List ℕ) → IsKept there → (a : ℕ) →
    (member there a && member known a) ≡ is_marked (marks there known) a
known_by_marks there known kept a =
    both (member there a) ∙ ap (λ o. unwrap_or o false) (sym (get-marks there known kept a))
  where
    both : (b : Bool) → (b && member known a) ≡ unwrap_or (if b then Some (member known a) else None) false
    both true = refl
    both false = refl
