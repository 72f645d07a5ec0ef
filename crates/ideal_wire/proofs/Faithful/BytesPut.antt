-- What is at the addresses where bytes were put, in the wire and in the ideal memory.
use Rattle.std.proofs.Common.{◌≡◌, ℕ, zero, suc, Bool, true, false, cond, ◌==◌, List, [], ◌∷◌, map, take, drop}
use Rattle.std.proofs.Common.{slice_get, Option, Some, None, refl, sym, ap, ◌∙◌, eq-eqb}
use Rattle.std.specs.Option.{option_map}
use Rattle.std.proofs.lemmas.Bool.{false≢true, ne_eqb}
use Rattle.std.proofs.lemmas.Map.Views.{exact_unsigned_eq}
use Rattle.std.specs.List.{filter}
use Rattle.ideal_lane.specs.IdealMemory.{IdealMemory, Content, Known, Unknown, known, value, written, written_at}
use Rattle.busdma_machine.specs.Machine.Wire.{Wire, Placed, is_bounced, buffers, buses, put}
use Rattle.ideal_wire.proofs.Laid.Positions.{found_one}

-- the value of a byte that is Known
pub one_value : (x v : ℕ) → Some (Known x) ≡ Some (Known v) → x ≡ v
one_value x v h = ap value h

pub known_value : (c : Option Content) → known c ≡ true → c ≡ Some (Known (value c))
known_value None h = absurd (cc)
known_value (Some (Known v)) h = refl
known_value (Some Unknown) h = absurd (cc)

-- a byte that is written is Known with what was written, if it is the driver's own
writes : (y : ℕ) (o : Option Content) (v : ℕ) → option_map (λ (c : Content). Known y) o ≡ Some (Known v) → y ≡ v
writes y None v h = absurd (cc)
writes y (Some c) v h = one_value y v h

-- two tests that hold together
pub eqb_alike : (a b c d : ℕ) → (a ≡ b → c ≡ d) → (c ≡ d → a ≡ b) → (a == b) ≡ (c == d)
eqb_alike a b c d to back = by (a == b) refl
  where
    by : (x : Bool) → (a == b) ≡ x → x ≡ (c == d)
    by true e = sym (eq-eqb c d (to (exact_unsigned_eq a b e)))
    by false e = sym (ne_eqb c d (λ h. false≢true (sym e ∙ eq-eqb a b (back h))))

-- ---- where a byte comes from, after copies
pub data Source (key from : Placed → ℕ) (f w : Wire) (ps : List Placed) (b r : ℕ) : Type 0 where
  copied : (k : ℕ) (t : Placed) → slice_get ps k ≡ Some t → key t ≡ b → r ≡ f (from t) → Source key from f w ps b r
  stayed : ((k : ℕ) (t : Placed) → slice_get ps k ≡ Some t → is_bounced t ≡ true → key t ≡ b → ⊥) → r ≡ w b →
      Source key from f w ps b r

module _ (key from : Placed → ℕ) (f : Wire) (b : ℕ) where
  skipped : (w : Wire) (p : Placed) (ps : List Placed) (r : ℕ) → is_bounced p ≡ false →
      Source key from f w ps b r → Source key from f w (p ∷ ps) b r
  skipped w p ps r e (copied k t at same is) = copied (suc k) t at same is
  skipped w p ps r e (stayed none is) = stayed (none_more p ps e none) is
    where
      none_more : (p : Placed) (ps : List Placed) → is_bounced p ≡ false →
          ((k : ℕ) (t : Placed) → slice_get ps k ≡ Some t → is_bounced t ≡ true → key t ≡ b → ⊥)
          → (k : ℕ) (t : Placed) → slice_get (p ∷ ps) k ≡ Some t → is_bounced t ≡ true → key t ≡ b → ⊥
      none_more p ps e none zero t at bounced same =
          false≢true (sym e ∙ ap is_bounced (found_one (Some p) p t refl at) ∙ bounced)
      none_more p ps e none (suc k) t at bounced same = none k t at bounced same

  here : (w : Wire) (p : Placed) (ps : List Placed) (r : ℕ) (x : Bool) → (b == key p) ≡ x →
      ((k : ℕ) (t : Placed) → slice_get ps k ≡ Some t → is_bounced t ≡ true → key t ≡ b → ⊥) →
      r ≡ cond x (f (from p)) (w b)
      → Source key from f w (p ∷ ps) b r
  here w p ps r true e none is = copied 0 p refl (sym (exact_unsigned_eq b (key p) e)) is
  here w p ps r false e none is = stayed (none_more p ps e none) is
    where
      none_more : (p : Placed) (ps : List Placed) → (b == key p) ≡ false →
          ((k : ℕ) (t : Placed) → slice_get ps k ≡ Some t → is_bounced t ≡ true → key t ≡ b → ⊥)
          → (k : ℕ) (t : Placed) → slice_get (p ∷ ps) k ≡ Some t → is_bounced t ≡ true → key t ≡ b → ⊥
      none_more p ps e none zero t at bounced same =
          false≢true (sym e ∙ eq-eqb b (key p) (sym same ∙ ap key (sym (found_one (Some p) p t refl at))))
      none_more p ps e none (suc k) t at bounced same = none k t at bounced same

  there : (w : Wire) (p : Placed) (ps : List Placed) (r : ℕ) →
      Source key from f (λ c. cond (c == key p) (f (from p)) (w c)) ps b r → Source key from f w (p ∷ ps) b r
  there w p ps r (copied k t at same is) = copied (suc k) t at same is
  there w p ps r (stayed none is) = here w p ps r (b == key p) refl none is

  more : (w : Wire) (p : Placed) (ps : List Placed) (x : Bool) → is_bounced p ≡ x
      →
      ((u : Wire) → Source key from f u ps b
      (put (map key (filter is_bounced ps)) (map f (map from (filter is_bounced ps))) u b))
      →
      Source key from f w (p ∷ ps) b (put (map key (cond x (p ∷ filter is_bounced ps) (filter is_bounced ps)))
      (map f (map from (cond x (p ∷ filter is_bounced ps) (filter is_bounced ps)))) w b)
  more w p ps true e rest = there w p ps _ (rest (λ c. cond (c == key p) (f (from p)) (w c)))
  more w p ps false e rest = skipped w p ps _ e (rest w)

  pub source_of : (ps : List Placed) (w : Wire) →
      Source key from f w ps b (put (map key (filter is_bounced ps)) (map f (map from (filter is_bounced ps))) w b)
  source_of [] w = stayed (λ k t at bounced same. absurd (cc)) refl
  source_of (p ∷ ps) w = more w p ps (is_bounced p) refl (source_of ps)

-- ---- the same bytes are written into the ideal memory and into the wire
module _ {X : Type 0} (pa bus : X → ℕ) (a b : ℕ) where
  one_written : (x : X) (y : ℕ) (memory : IdealMemory) (w : Wire) (t : Bool) → (a == pa x) ≡ t → (b == bus x) ≡ t →
      ((v : ℕ) → memory a ≡ Some (Known v) → w b ≡ v)
      → (v : ℕ) → written_at (pa x) y memory a ≡ Some (Known v) → cond (b == bus x) y (w b) ≡ v
  one_written x y memory w true e k h v is =
      ap (λ s. cond s y (w b)) k
      ∙ writes y (memory a) v (sym (ap (λ s. cond s (option_map (λ c. Known y) (memory a)) (memory a)) e) ∙ is)
  one_written x y memory w false e k h v is =
      ap (λ s. cond s y (w b)) k
      ∙ h v (sym (ap (λ s. cond s (option_map (λ c. Known y) (memory a)) (memory a)) e) ∙ is)

  pub both_written : (xs : List X) (vs : List ℕ) (memory : IdealMemory) (w : Wire) →
      ((k : ℕ) (x : X) → slice_get xs k ≡ Some x → (a == pa x) ≡ (b == bus x)) →
      ((v : ℕ) → memory a ≡ Some (Known v) → w b ≡ v)
      → (v : ℕ) → written (map pa xs) vs memory a ≡ Some (Known v) → put (map bus xs) vs w b ≡ v
  both_written [] vs memory w same h v is = h v is
  both_written (x ∷ xs) [] memory w same h v is = h v is
  both_written (x ∷ xs) (y ∷ vs) memory w same h v is =
      both_written xs vs (written_at (pa x) y memory) (λ c. cond (c == bus x) y (w c)) (λ k z at. same (suc k) z at)
      (one_written x y memory w (a == pa x) refl (sym (same 0 x refl)) h) v is

-- what is Known after a write was so before, or was written
pub written_known : (keys vs : List ℕ) (memory : IdealMemory) (a : ℕ) (P : Type 0) →
    ((k x : ℕ) → slice_get keys k ≡ Some x → a ≡ x → P) → ((v : ℕ) → memory a ≡ Some (Known v) → P) →
    (v : ℕ) → written keys vs memory a ≡ Some (Known v) → P
written_known [] vs memory a P one before v h = before v h
written_known (x ∷ keys) [] memory a P one before v h = before v h
written_known (x ∷ keys) (y ∷ vs) memory a P one before v h =
    written_known keys vs (written_at x y memory) a P (λ k z at e. one (suc k) z at e)
    (λ u is. by (a == x) refl (one 0 x refl) (before u) is) v h
  where
    by : {u : ℕ} (t : Bool) → (a == x) ≡ t → (a ≡ x → P) → (memory a ≡ Some (Known u) → P) →
        cond t (option_map (λ c. Known y) (memory a)) (memory a) ≡ Some (Known u) → P
    by true e first rest is = first (exact_unsigned_eq a x e)
    by false e first rest is = rest is

-- what is read at each position
pub same_values : (ts : List Placed) (f g : ℕ → ℕ) →
    ((k : ℕ) (t : Placed) → slice_get ts k ≡ Some t → f t.pa ≡ g t.bus) → map f (buffers ts) ≡ map g (buses ts)
same_values [] f g h = refl
same_values (t ∷ ts) f g h = let p = h 0 t refl in let q =
    same_values ts f g (λ k u at. h (suc k) u at) in λ i. p i ∷ q i

pub same_reads : (keys : List ℕ) (f g : ℕ → ℕ) →
    ((k a : ℕ) → slice_get keys k ≡ Some a → f a ≡ g a) → map f keys ≡ map g keys
same_reads [] f g h = refl
same_reads (a ∷ keys) f g h = let p = h 0 a refl in let q =
    same_reads keys f g (λ k u at. h (suc k) u at) in λ i. p i ∷ q i

pub map_own : (keys : List ℕ) → map (λ a. a) keys ≡ keys
map_own [] = refl
map_own (a ∷ keys) = ap (λ xs. a ∷ xs) (map_own keys)

map_drop : {A : Type 0} (f : A → ℕ) (n : ℕ) (xs : List A) → map f (drop n xs) ≡ drop n (map f xs)
map_drop f zero xs = refl
map_drop f (suc n) [] = refl
map_drop f (suc n) (x ∷ xs) = map_drop f n xs

map_take : {A : Type 0} (f : A → ℕ) (n : ℕ) (xs : List A) → map f (take n xs) ≡ take n (map f xs)
map_take f zero xs = refl
map_take f (suc n) [] = refl
map_take f (suc n) (x ∷ xs) = ap (λ ys. f x ∷ ys) (map_take f n xs)

-- lists with the same addresses have the same in each range
pub same_range : {A B : Type 0} (f : A → ℕ) (g : B → ℕ) (off len : ℕ) (xs : List A) (ys : List B) →
    map f xs ≡ map g ys → map f (take len (drop off xs)) ≡ map g (take len (drop off ys))
same_range f g off len xs ys e =
    map_take f len (drop off xs) ∙ ap (take len) (map_drop f off xs ∙ ap (drop off) e ∙ sym (map_drop g off ys))
    ∙ sym (map_take g len (drop off ys))
