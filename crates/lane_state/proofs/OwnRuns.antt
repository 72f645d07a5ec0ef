-- The pages of a driver, their bytes and their frames.
use Rattle.std.proofs.Common.{◌≡◌, ℕ, zero, suc, ◌+◌, ◌*◌, ◌/◌, ◌<◌, ◌≤◌, Bool, true, false, cond, ◌==◌, ◌&&◌, ◌||◌}
use Rattle.std.proofs.Common.{nat_le, nat_lt, List, [], ◌∷◌, ◌++◌, length, take, get_or, Some, None, is_some, refl}
use Rattle.std.proofs.Common.{sym, ap, ◌∙◌, subst, append_assoc, append-nil, arith}
use Rattle.std.specs.List.{list_any}
use Rattle.std.specs.Ordering.{nat_cmp}
use Rattle.std.specs.FinMap.{FinMap, get}
use Rattle.std.proofs.lemmas.Bool.Decides.{nat_tests}
use Rattle.std.proofs.lemmas.List.Folds.{list_any_more}
use Rattle.busdma_base.specs.declared.scenarios.scenario.PageRun.{PageRun}
use Rattle.busdma_machine.specs.Each.{EachAfter}
use Rattle.busdma_machine.specs.Runs.{meet, run_of}
use Rattle.loan_table.specs.Table.{AreNew, set_all}
use Rattle.busdma_base.specs.Scenarios.PageRuns.{is_own}
use Rattle.lane_state.specs.OpeningMemory.{IsOwnRun, ArePages, is_one_of}
use Rattle.lane_state.proofs.Marks.{get-set_all}

-- the run that is read past the end of a list
abbrev pub no_run : PageRun
no_run = record { va = record { 0 = 0 }; frame = 0; count = 0 }

-- what holds of each element with those before it, at a place
pub each_at : {A : Type 0} (P : List A → A → Type 0) (before xs : List A) (i : ℕ) (d : A) → EachAfter P before xs →
    i < length xs → P (before ++ take i xs) (get_or xs i d)
each_at P before [] i d h lt = absurd (omega arith)
each_at P before (x ∷ xs) zero d h lt = subst (λ b. P b x) (sym (append-nil before)) h.0
each_at P before (x ∷ xs) (suc i) d h lt =
    subst (λ b. P b (get_or xs i d)) (append_assoc before (x ∷ []) (take i xs))
    (each_at P (before ++ x ∷ []) xs i d h.1 (omega arith))

-- the run at a place, with those before it
pub own_at : (pages : List PageRun) (i : ℕ) → ArePages pages → i < length pages →
    IsOwnRun (take i pages) (get_or pages i no_run)
own_at pages i h lt = each_at IsOwnRun [] pages i no_run h lt

pub same_tests : (a b : Bool) → (a ≡ true → b ≡ true) → (b ≡ true → a ≡ true) → a ≡ b
same_tests true b f g = sym (f refl)
same_tests false true f g = g refl
same_tests false false f g = refl

-- what an `is_one_of` says
pub one_of_is : (first n x : ℕ) → first ≤ x → x < first + n → is_one_of first n x ≡ true
one_of_is first n x lo hi = grind (arith, nat_tests)

pub one_of_lo : (first n x : ℕ) → is_one_of first n x ≡ true → first ≤ x
one_of_lo first n x h = grind (arith, nat_tests)

pub one_of_hi : (first n x : ℕ) → is_one_of first n x ≡ true → x < first + n
one_of_hi first n x h = grind (arith, nat_tests)

meets : (a m b n x : ℕ) → is_one_of a m x ≡ true → is_one_of b n x ≡ true → meet a m b n ≡ true
meets a m b n x h k = grind (arith, nat_tests)

pub either_false : (a b : Bool) → (a || b) ≡ false → (a ≡ false) × (b ≡ false)
either_false true b h = absurd (cc)
either_false false b h = (refl, h)

-- what is in a run is not in one that it does not meet
pub no_meeting : (a m b n x : ℕ) (t : Bool) → is_one_of b n x ≡ t →
    meet a m b n ≡ false → is_one_of a m x ≡ true → t ≡ false
no_meeting a m b n x true e h k = let q : meet a m b n ≡ true = meets a m b n x k e in absurd (cc)
no_meeting a m b n x false e h k = refl

-- what is in a run is in no run that it does not meet
pub in_none : (first : PageRun → ℕ) (before : List PageRun) (run : PageRun) (x : ℕ)
    → list_any (λ r. meet (first run) run.count (first r) r.count) before ≡ false →
    is_one_of (first run) run.count x ≡ true
    → list_any (λ r. is_one_of (first r) r.count x) before ≡ false
in_none first [] run x h k = refl
in_none first (b ∷ before) run x h k =
    let parts =
    either_false (meet (first run) run.count (first b) b.count)
    (list_any (λ r. meet (first run) run.count (first r) r.count) before) h in
    let here : is_one_of (first b) b.count x ≡ false =
    no_meeting (first run) run.count (first b) b.count x _ refl parts.0 k in
    ap (λ t. t || list_any (λ r. is_one_of (first r) r.count x) before) here ∙ in_none first before run x parts.1 k

own_one : (f n a : ℕ) → (nat_le (4096 * f) a && nat_lt a (4096 * (f + n))) ≡ is_one_of f n (a / 4096)
own_one f n a = ap (λ e. nat_le (4096 * f) a && nat_lt a e) end
    ∙ same_tests (is_one_of (4096 * f) (4096 * n) a) (is_one_of f n (a / 4096)) into out
  where
    end : 4096 * (f + n) ≡ 4096 * f + 4096 * n
    end = omega arith

    into : is_one_of (4096 * f) (4096 * n) a ≡ true → is_one_of f n (a / 4096) ≡ true
    into h =
        let lo : 4096 * f ≤ a = one_of_lo (4096 * f) (4096 * n) a h in
        let hi : a < 4096 * f + 4096 * n = one_of_hi (4096 * f) (4096 * n) a h in
        one_of_is f n (a / 4096) (omega arith) (omega arith)

    out : is_one_of f n (a / 4096) ≡ true → is_one_of (4096 * f) (4096 * n) a ≡ true
    out h =
        let lo : f ≤ a / 4096 = one_of_lo f n (a / 4096) h in
        let hi : a / 4096 < f + n = one_of_hi f n (a / 4096) h in
        one_of_is (4096 * f) (4096 * n) a (omega arith) (omega arith)

-- a byte of the pages is one of a frame of theirs
pub own_frame : (pages : List PageRun) (a : ℕ) →
    is_own pages a ≡ list_any (λ r. is_one_of r.frame r.count (a / 4096)) pages
own_frame [] a = refl
own_frame (r ∷ pages) a =
    ap (λ t. t || is_own pages a) (own_one r.frame r.count a)
    ∙ ap (λ t. is_one_of r.frame r.count (a / 4096) || t) (own_frame pages a)

pub none_of : (first x : ℕ) → is_one_of first 0 x ≡ false
none_of first x = nothing (is_one_of first 0 x) refl
  where
    nothing : (t : Bool) → is_one_of first 0 x ≡ t → t ≡ false
    nothing true e = let lo = one_of_lo first 0 x e in let hi = one_of_hi first 0 x e in absurd (omega arith)
    nothing false e = refl

pub among_run : (p n a : ℕ) → list_any (λ k. a == k) (run_of p n) ≡ is_one_of p n a
among_run p zero a = sym (none_of p a)
among_run p (suc n) a = ap (λ t. (a == p) || t) (among_run (p + 1) n a) ∙ first
  where
    first : ((a == p) || is_one_of (p + 1) n a) ≡ is_one_of p (suc n) a
    first = same_tests _ _ (λ h. grind (arith, nat_tests)) (λ h. grind (arith, nat_tests))

pub new_run : (m : FinMap nat_cmp Bool) (p n : ℕ) →
    ((a : ℕ) → p ≤ a → a < p + n → get m a ≡ None) → AreNew m (run_of p n)
new_run m p zero h = tt
new_run m p (suc n) h =
    (ap is_some (h p (omega arith) (omega arith)), new_run m (p + 1) n (λ a lo hi. h a (omega arith) (omega arith)))

pub twice : {X : Type 0} (a b : Bool) (x y : X) → cond b x (cond a x y) ≡ cond (a || b) x y
twice true true x y = refl
twice true false x y = refl
twice false true x y = refl
twice false false x y = refl

-- the bytes of runs are Known, and no other is there
abbrev pub AreKnown : List PageRun → FinMap nat_cmp Bool → Type 0
AreKnown pages bytes = (a : ℕ) → get bytes a ≡ cond (is_own pages a) (Some true) None

-- the bytes of a run are not among those of the runs before it
pub run_is_new : (before : List PageRun) (run : PageRun) (bytes : FinMap nat_cmp Bool) → IsOwnRun before run →
    AreKnown before bytes → AreNew bytes (run_of (4096 * run.frame) (4096 * run.count))
run_is_new before run bytes is known = new_run bytes (4096 * run.frame) (4096 * run.count) (λ a lo hi.
    known a ∙ ap (λ t. cond t (Some true) None) (own_frame before a
    ∙ in_none (λ r. r.frame) before run (a / 4096) is.own_frames
    (one_of_is run.frame run.count (a / 4096) (omega arith) (omega arith))))

-- the bytes of one more run are Known
pub run_is_known : (pages : List PageRun) (i : ℕ) (bytes : FinMap nat_cmp Bool) →
    i < length pages → AreKnown (take i pages) bytes
    →
    AreKnown (take (i + 1) pages) (set_all bytes
    (run_of (4096 * (get_or pages i no_run).frame) (4096 * (get_or pages i no_run).count)) true)
run_is_known pages i bytes lt known a =
    let run = get_or pages i no_run in
    let end : 4096 * run.frame + 4096 * run.count ≡ 4096 * (run.frame + run.count) = omega arith in
    get-set_all bytes (run_of (4096 * run.frame) (4096 * run.count)) true a
    ∙ ap (λ t. cond t (Some true) (get bytes a)) (among_run (4096 * run.frame) (4096 * run.count) a)
    ∙ ap (cond (is_one_of (4096 * run.frame) (4096 * run.count) a) (Some true)) (known a)
    ∙ twice (is_own (take i pages) a) (is_one_of (4096 * run.frame) (4096 * run.count) a) (Some true) None
    ∙ ap (λ e. cond (is_own (take i pages) a || (nat_le (4096 * run.frame) a && nat_lt a e)) (Some true) None) end
    ∙ ap (λ t. cond t (Some true) None) (sym
    (list_any_more (λ r. nat_le (4096 * r.frame) a && nat_lt a (4096 * (r.frame + r.count))) pages i no_run lt))
