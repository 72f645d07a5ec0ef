-- Lists in which nothing is twice, and the values of bytes that are written once each.
use Rattle.std.proofs.Common.{◌≡◌, ℕ, zero, suc, ◌==◌, ◌||◌, Bool, true, false, cond, List, [], ◌∷◌, ◌++◌, map, length}
use Rattle.std.proofs.Common.{slice_get, Option, Some, None, is_some, refl, ap, sym, ◌∙◌, subst, arith, eq-eqb}
use Rattle.std.proofs.lemmas.Bool.{eqb-true}
use Rattle.std.specs.List.{list_any}
use Rattle.std.specs.Option.{option_map}
use Rattle.busdma_machine.specs.Each.{EachAfter}
use Rattle.busdma_base.specs.Scenarios.Buffers.{IsNoneOf}
use Rattle.ideal_lane.specs.IdealMemory.{Content, IdealMemory, Known, value, written, written_at}
use Rattle.ideal_wire.proofs.Laid.Positions.{found_one}

-- no number is at two places of a list
abbrev pub HasNoTwins : List ℕ → Type 0
HasNoTwins xs = (i j a : ℕ) → slice_get xs i ≡ Some a → slice_get xs j ≡ Some a → i ≡ j

-- what is none of two lists is none of each
any-parts : (a : ℕ) (xs ys : List ℕ) → IsNoneOf (xs ++ ys) a → IsNoneOf xs a × IsNoneOf ys a
any-parts a [] ys h = (refl, h)
any-parts a (x ∷ xs) ys h = by (a == x) h (any-parts a xs ys)
  where
    by : (t : Bool) → (t || list_any (λ b. a == b) (xs ++ ys)) ≡ false →
        (IsNoneOf (xs ++ ys) a → IsNoneOf xs a × IsNoneOf ys a) →
        ((t || list_any (λ b. a == b) xs) ≡ false) × IsNoneOf ys a
    by true g rest = absurd (cc)
    by false g rest = rest g

-- each is none of those before it
none-before : (before xs : List ℕ) → EachAfter IsNoneOf before xs → (j a : ℕ) → slice_get xs j ≡ Some a →
    IsNoneOf before a
none-before before [] h j a e = absurd (cc)
none-before before (x ∷ xs) h zero a e = subst (IsNoneOf before) (found_one (Some x) x a refl e) h.0
none-before before (x ∷ xs) h (suc j) a e =
    (any-parts a before (x ∷ []) (none-before (before ++ x ∷ []) xs h.1 j a e)).0

-- such a number is not the one just before it
not-last : (before : List ℕ) (x a : ℕ) → IsNoneOf (before ++ x ∷ []) a → x ≡ a → ⊥
not-last before x a h same = by (a == x) (eq-eqb a x (sym same)) (any-parts a before (x ∷ []) h).1
  where
    by : (t : Bool) → t ≡ true → (t || false) ≡ false → ⊥
    by true e g = absurd (cc)
    by false e g = absurd (cc)

-- no number is at two places of such a list
pub no-twins : (before xs : List ℕ) → EachAfter IsNoneOf before xs → HasNoTwins xs
no-twins before [] h i j a e f = absurd (cc)
no-twins before (x ∷ xs) h zero zero a e f = refl
no-twins before (x ∷ xs) h zero (suc j) a e f =
    absurd (not-last before x a (none-before (before ++ x ∷ []) xs h.1 j a f) (found_one (Some x) x a refl e))
no-twins before (x ∷ xs) h (suc i) zero a e f =
    absurd (not-last before x a (none-before (before ++ x ∷ []) xs h.1 i a e) (found_one (Some x) x a refl f))
no-twins before (x ∷ xs) h (suc i) (suc j) a e f = ap suc (no-twins (before ++ x ∷ []) xs h.1 i j a e f)

-- ---- bytes that are written

-- a byte that is not written stays
unwritten : (keys vs : List ℕ) (memory : IdealMemory) (a : ℕ) → ((j : ℕ) → slice_get keys j ≡ Some a → ⊥) →
    written keys vs memory a ≡ memory a
unwritten [] vs memory a none = refl
unwritten (k ∷ keys) [] memory a none = refl
unwritten (k ∷ keys) (v ∷ vs) memory a none =
    unwritten keys vs (written_at k v memory) a (λ j e. none (suc j) e) ∙ by (a == k) refl
  where
    by : (t : Bool) → (a == k) ≡ t → cond t (option_map (λ c. Known v) (memory a)) (memory a) ≡ memory a
    by true e = absurd (none 0 (ap (λ x. Some x) (sym (eqb-true a k e))))
    by false e = refl

-- a byte of the driver's own is still its own after a write
still-there : (k v : ℕ) (memory : IdealMemory) (a : ℕ) → is_some (memory a) ≡ true →
    is_some (written_at k v memory a) ≡ true
still-there k v memory a own = by (a == k) (memory a) own
  where
    by : (t : Bool) (o : Option Content) → is_some o ≡ true →
        is_some (cond t (option_map (λ c. Known v) o) o) ≡ true
    by true None e = e
    by true (Some c) e = refl
    by false o e = e

value-written : (k v : ℕ) (memory : IdealMemory) → is_some (memory k) ≡ true → value (written_at k v memory k) ≡ v
value-written k v memory own = by (k == k) (eq-eqb k k refl) (memory k) own
  where
    by : (t : Bool) → t ≡ true → (o : Option Content) → is_some o ≡ true →
        value (cond t (option_map (λ c. Known v) o) o) ≡ v
    by true e None g = absurd (cc)
    by true e (Some c) g = refl
    by false e o g = absurd (cc)

-- bytes that are the driver's own and written once each have what was written, in order
pub values-written : (keys vs : List ℕ) (memory : IdealMemory) → HasNoTwins keys →
    ((k a : ℕ) → slice_get keys k ≡ Some a → is_some (memory a) ≡ true) → length keys ≡ length vs →
    map (λ a. value (written keys vs memory a)) keys ≡ vs
values-written [] [] memory once own same = refl
values-written [] (v ∷ vs) memory once own same = absurd (omega (arith, same))
values-written (k ∷ keys) [] memory once own same = absurd (omega (arith, same))
values-written (k ∷ keys) (v ∷ vs) memory once own same =
    let first : value (written keys vs (written_at k v memory) k) ≡ v =
    ap value (unwritten keys vs (written_at k v memory) k (λ j e. let twin = once 0 (suc j) k refl e in
    absurd (omega (arith, twin)))) ∙ value-written k v memory (own 0 k refl) in
    let rest : map (λ a. value (written keys vs (written_at k v memory) a)) keys ≡ vs =
    values-written keys vs (written_at k v memory)
    (λ i j a e f. let twin = once (suc i) (suc j) a e f in omega (arith, twin))
    (λ i a e. still-there k v memory a (own (suc i) a e)) (omega (arith, same)) in
    λ i. first i ∷ rest i
