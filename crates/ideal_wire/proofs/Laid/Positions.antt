-- Positions of loads: in their traces, in a range, and after a sync.
use Rattle.std.proofs.Common.{◌≡◌, ℕ, zero, suc, ◌+◌, ◌-◌, ◌<◌, ◌≤◌, List, [], ◌∷◌, ◌++◌, map, take, drop, slice_get}
use Rattle.std.proofs.Common.{◌⊎◌, inl, inr, Option, Some, None, option_map, unwrap_or, refl, sym, ap, ◌∙◌, arith}
use Rattle.std.proofs.lemmas.Option.{slice_get-map}
use Rattle.std.proofs.lemmas.Bool.{cases_lt}
use Rattle.busdma_machine.specs.declared.report.ReportName.{ReportName}
use Rattle.busdma_machine.specs.declared.report.Judged.{Judged}
use Rattle.busdma_machine.specs.declared.report.Judged.TheVariants.{Fine}
use Rattle.busdma_machine.specs.Judging.{judged, refused_or}

-- one value is found at a place
pub found_one : {X : Type 0} (o : Option X) (x y : X) → o ≡ Some x → o ≡ Some y → x ≡ y
found_one o x y h k = ap (λ z. unwrap_or z x) (sym h ∙ k)

pub none_some : {X : Type 0} (o : Option X) (x : X) → o ≡ None → o ≡ Some x → ⊥
none_some o x h k = absurd (cc)

-- what is at a place of one list is at that place of another list with the same addresses
pub record Twin {A B : Type 0} (f : A → ℕ) (g : B → ℕ) (ys : List B) (i : ℕ) (x : A) : Type 0 where
  pub twin : B
  pub found : slice_get ys i ≡ Some twin
  pub same : f x ≡ g twin

twin_in : {A B : Type 0} (f : A → ℕ) (g : B → ℕ) (ys : List B) (i : ℕ) (x : A) (o : Option B) → slice_get ys i ≡ o →
    Some (f x) ≡ option_map g o → Twin f g ys i x
twin_in f g ys i x None h e = absurd (cc)
twin_in f g ys i x (Some y) h e = record { twin = y; found = h; same = found_one (Some (f x)) (f x) (g y) refl e }

pub twin_of : {A B : Type 0} (f : A → ℕ) (g : B → ℕ) (xs : List A) (ys : List B) → map f xs ≡ map g ys →
    (i : ℕ) (x : A) → slice_get xs i ≡ Some x → Twin f g ys i x
twin_of f g xs ys e i x h =
    twin_in f g ys i x (slice_get ys i) refl
    (sym (ap (option_map f) h) ∙ sym (slice_get-map f xs i) ∙ ap (λ zs. slice_get zs i) e ∙ slice_get-map g ys i)

-- a place of a range is a place of the complete list
pub record InRange {X : Type 0} (xs : List X) (off len k : ℕ) (x : X) : Type 0 where
  pub below : k < len
  pub whole : slice_get xs (off + k) ≡ Some x

in_front : {X : Type 0} (xs : List X) (len k : ℕ) (x : X) →
    slice_get (take len xs) k ≡ Some x → (k < len) × (slice_get xs k ≡ Some x)
in_front xs zero k x h = absurd (cc)
in_front [] (suc len) k x h = absurd (cc)
in_front (y ∷ xs) (suc len) zero x h = (omega arith, h)
in_front (y ∷ xs) (suc len) (suc k) x h = let r = in_front xs len k x h in (omega (arith, r.0), r.1)

pub behind : {X : Type 0} (xs : List X) (off k : ℕ) → slice_get (drop off xs) k ≡ slice_get xs (off + k)
behind xs zero k = let e : 0 + k ≡ k = omega arith in ap (slice_get xs) (sym e)
behind [] (suc off) k = let e : suc off + k ≡ suc (off + k) = omega arith in sym (ap (slice_get []) e)
behind (y ∷ xs) (suc off) k = let e : suc off + k ≡ suc (off + k) =
    omega arith in behind xs off k ∙ sym (ap (slice_get (y ∷ xs)) e)

pub of_range : {X : Type 0} (xs : List X) (off len k : ℕ) (x : X) →
    slice_get (take len (drop off xs)) k ≡ Some x → InRange xs off len k x
of_range xs off len k x h = let r =
    in_front (drop off xs) len k x h in record { below = r.0; whole = sym (behind xs off k) ∙ r.1 }

to_front : {X : Type 0} (xs : List X) (len k : ℕ) → k < len → slice_get (take len xs) k ≡ slice_get xs k
to_front xs zero k lt = absurd (omega arith)
to_front [] (suc len) k lt = refl
to_front (y ∷ xs) (suc len) zero lt = refl
to_front (y ∷ xs) (suc len) (suc k) lt = to_front xs len k (omega arith)

-- a place of the complete list that is in a range is a place of the range
pub to_range : {X : Type 0} (xs : List X) (off len i : ℕ) → off ≤ i → i < off + len →
    slice_get (take len (drop off xs)) (i - off) ≡ slice_get xs i
to_range xs off len i le lt =
    let e : off + (i - off) ≡ i = omega arith in
    to_front (drop off xs) len (i - off) (omega arith) ∙ behind xs off (i - off) ∙ ap (slice_get xs) e

-- what is judged Fine is refused nowhere
not_refused : (o : Option ReportName) (at : ℕ) (rest : Judged) →
    refused_or o at rest ≡ Fine → (o ≡ None) × (rest ≡ Fine)
not_refused None at rest h = (refl, h)
not_refused (Some name) at rest h = absurd (cc)

pub fine_at : {X : Type 0} (f : X → Option ReportName) (at : ℕ) (xs : List X) → judged f at xs ≡ Fine →
    (k : ℕ) (x : X) → slice_get xs k ≡ Some x → f x ≡ None
fine_at f at [] h k x is = absurd (cc)
fine_at f at (y ∷ xs) h zero x is = ap f (sym (found_one (Some y) y x refl is)) ∙ (not_refused (f y) at _ h).0
fine_at f at (y ∷ xs) h (suc k) x is = fine_at f (at + 1) xs (not_refused (f y) at _ h).1 k x is

-- ---- a list of which a range is changed
module _ {X : Type 0} (f : X → X) where
  front_in : (xs : List X) (len i : ℕ) → i < len →
      slice_get (map f (take len xs) ++ drop len xs) i ≡ option_map f (slice_get xs i)
  front_in [] zero i lt = refl
  front_in [] (suc len) i lt = refl
  front_in (y ∷ xs) zero i lt = absurd (omega arith)
  front_in (y ∷ xs) (suc len) zero lt = refl
  front_in (y ∷ xs) (suc len) (suc i) lt = front_in xs len i (omega arith)

  front_out : (xs : List X) (len i : ℕ) → len ≤ i → slice_get (map f (take len xs) ++ drop len xs) i ≡ slice_get xs i
  front_out xs zero i le = refl
  front_out [] (suc len) i le = refl
  front_out (y ∷ xs) (suc len) zero le = absurd (omega arith)
  front_out (y ∷ xs) (suc len) (suc i) le = front_out xs len i (omega arith)

  abbrev pub changed : ℕ → ℕ → List X → List X
  changed off len xs = take off xs ++ map f (take len (drop off xs)) ++ drop (off + len) xs

  none_taken : (len : ℕ) → map f (take len []) ≡ []
  none_taken zero = refl
  none_taken (suc len) = refl

  nothing : (off len i : ℕ) → slice_get (changed (suc off) len []) i ≡ None
  nothing off len i =
      let e : suc off + len ≡ suc (off + len) = omega arith in
      ap (λ n. slice_get (map f (take len []) ++ drop n []) i) e ∙ ap (λ zs. slice_get (zs ++ []) i) (none_taken len)

  -- a place of the range has what was changed
  pub changed_in : (off len : ℕ) (xs : List X) (i : ℕ) → off ≤ i → i < off + len →
      slice_get (changed off len xs) i ≡ option_map f (slice_get xs i)
  changed_in zero len xs i le lt =
      let e : 0 + len ≡ len = omega arith in
      ap (λ n. slice_get (map f (take len xs) ++ drop n xs) i) e ∙ front_in xs len i (omega arith)
  changed_in (suc off) len [] i le lt = nothing off len i
  changed_in (suc off) len (y ∷ xs) zero le lt = absurd (omega arith)
  changed_in (suc off) len (y ∷ xs) (suc i) le lt =
      let e : suc off + len ≡ suc (off + len) = omega arith in
      ap (λ n. slice_get (take off xs ++ map f (take len (drop off xs)) ++ drop n (y ∷ xs)) i) e
      ∙ changed_in off len xs i (omega arith) (omega arith)

  -- every other place has what it had
  pub changed_out : (off len : ℕ) (xs : List X) (i : ℕ) → (i < off) ⊎ (off + len ≤ i) →
      slice_get (changed off len xs) i ≡ slice_get xs i
  changed_out zero len xs i (inl lt) = absurd (omega arith)
  changed_out zero len xs i (inr le) =
      let e : 0 + len ≡ len = omega arith in
      ap (λ n. slice_get (map f (take len xs) ++ drop n xs) i) e ∙ front_out xs len i (omega arith)
  changed_out (suc off) len [] i out = nothing off len i
  changed_out (suc off) len (y ∷ xs) zero out = refl
  changed_out (suc off) len (y ∷ xs) (suc i) out =
      let e : suc off + len ≡ suc (off + len) = omega arith in
      ap (λ n. slice_get (take off xs ++ map f (take len (drop off xs)) ++ drop n (y ∷ xs)) i) e
      ∙ changed_out off len xs i (elim out as (λ _. (i < off) ⊎ (off + len ≤ i))
      [ inl a ↦ inl (omega arith) | inr b ↦ inr (omega arith) ])

  -- what is in the changed list was there before, and is changed if it is in the range
  pub record Changed (off len : ℕ) (xs : List X) (i : ℕ) (x : X) : Type 0 where
    pub before : X
    pub found : slice_get xs i ≡ Some before
    pub is : ((off ≤ i) × (i < off + len) × (x ≡ f before)) ⊎ (((i < off) ⊎ (off + len ≤ i)) × (x ≡ before))

  stood : (off len : ℕ) (xs : List X) (i : ℕ) (x : X) (o : Option X) → slice_get xs i ≡ o → off ≤ i → i < off + len →
      slice_get (changed off len xs) i ≡ Some x → Changed off len xs i x
  stood off len xs i x None e le lt h = absurd (none_some _ x (changed_in off len xs i le lt ∙ ap (option_map f) e) h)
  stood off len xs i x (Some y) e le lt h =
      record {
        before = y;
        found = e;
        is =
            inl (le, lt, found_one _ x (f y) h (changed_in off len xs i le lt ∙ ap (option_map f) e));
      }

  pub changed_from : (off len : ℕ) (xs : List X) (i : ℕ) (x : X) →
      slice_get (changed off len xs) i ≡ Some x → Changed off len xs i x
  changed_from off len xs i x h = elim (cases_lt i off) as (λ _. Changed off len xs i x) [
    | inl a ↦ record { before = x; found = sym (changed_out off len xs i (inl a)) ∙ h; is = inr (inl a, refl) }
    | inr b ↦ elim (cases_lt i (off + len)) as (λ _. Changed off len xs i x) [
      | inl c ↦ stood off len xs i x (slice_get xs i) refl b c h
      | inr d ↦ record { before = x; found = sym (changed_out off len xs i (inr d)) ∙ h; is = inr (inr d, refl) }
    ]
  ]
