-- One more child of a chain of tags.
use Rattle.std.proofs.Common.{◌≡◌, ◌≢◌, ℕ, ◌+◌, ◌-◌, ◌<◌, ◌≤◌, Bool, true, false, Some, None, List, [], ◌∷◌, ◌++◌, map}
use Rattle.std.proofs.Common.{length, min, max, option_map, if◌then◌else◌, All, Contains, get_or, take, refl, sym, ap}
use Rattle.std.proofs.Common.{◌∙◌, subst, arith}
use Rattle.std.proofs.Math.Nat.{le_trans}
use Rattle.std.proofs.Math.Seq.{get_or-append_seam}
use Rattle.std.proofs.lemmas.List.{map_push, take_more, length-append}
use Rattle.std.proofs.lemmas.List.Elements.{All-push, All-weaker, All-nil, Contains-push, Contains-append_left}
use Rattle.busdma_machine.specs.declared.tags.tag.TagLimits.{TagLimits}
use Rattle.busdma_machine.specs.Tags.Tag.{IsAccepted, is_accepted, rounded, effective, inherit, least_boundary}
use Rattle.busdma_machine.specs.Tags.Tag.{frame_end}
use Rattle.busdma_rules.proofs.Tags.Choices.{either_max, either_min, either_boundary, least_boundary-left}
use Rattle.busdma_rules.proofs.Tags.Choices.{least_boundary-right}
use Rattle.dma_tag.specs.Chain.{IsGreatest, IsLeast, IsLeastBoundary, IsNarrowest, IsOwn, last_of}

greatest_one : (x : ℕ) → IsGreatest (x ∷ []) x
greatest_one x =
    record { within = Contains-push [] x; bound = All-push (λ y. y ≤ x) [] x (All-nil (λ y. y ≤ x)) (omega arith) }

least_one : (x : ℕ) → IsLeast (x ∷ []) x
least_one x =
    record { within = Contains-push [] x; bound = All-push (λ y. x ≤ y) [] x (All-nil (λ y. x ≤ y)) (omega arith) }

boundary_one : (x : ℕ) → IsLeastBoundary (x ∷ []) x
boundary_one x = record {
  within = λ _. Contains-push [] x;
  bound =
      let P : ℕ → Type 0 = λ y. y ≢ 0 → (x ≢ 0) × (x ≤ y) in
      All-push P [] x (All-nil P) (λ some. (some, omega arith));
}

longer : (xs : List ℕ) (a b : ℕ) → Contains xs a → Contains (xs ++ b ∷ []) a
longer xs a b = Contains-append_left xs (b ∷ []) a

greatest_push : (xs : List ℕ) (a b : ℕ) → IsGreatest xs a → IsGreatest (xs ++ b ∷ []) (max a b)
greatest_push xs a b h = record {
  within = either_max (Contains (xs ++ b ∷ [])) a b (longer xs a b h.within) (Contains-push xs b);
  bound =
      All-push (λ y. y ≤ max a b) xs b (All-weaker (λ y. y ≤ a) (λ y. y ≤ max a b) (λ y p. omega arith) xs h.bound)
      (omega arith);
}

least_push : (xs : List ℕ) (a b : ℕ) → IsLeast xs a → IsLeast (xs ++ b ∷ []) (min a b)
least_push xs a b h = record {
  within = either_min (Contains (xs ++ b ∷ [])) a b (longer xs a b h.within) (Contains-push xs b);
  bound =
      All-push (λ y. min a b ≤ y) xs b (All-weaker (λ y. a ≤ y) (λ y. min a b ≤ y) (λ y p. omega arith) xs h.bound)
      (omega arith);
}

boundary_push : (xs : List ℕ) (a b : ℕ) → IsLeastBoundary xs a → IsLeastBoundary (xs ++ b ∷ []) (least_boundary a b)
boundary_push xs a b h = record {
  within =
      either_boundary (Contains (xs ++ b ∷ [])) a b (λ some. longer xs a b (h.within some)) (λ _. Contains-push xs b);
  bound =
      let Below : ℕ → ℕ → Type 0 = λ x y. y ≢ 0 → (x ≢ 0) × (x ≤ y) in
      let less = least_boundary a b in
      let kept : (y : ℕ) → Below a y → Below less y =
      λ y p some. let left = least_boundary-left a b (p some).0 in (left.0, le_trans left.1 (p some).1)
      in
      All-push (Below less) xs b (All-weaker (Below a) (Below less) kept xs h.bound) (least_boundary-right a b);
}

-- one tag is a chain
pub narrowest_one : (s : TagLimits) → IsNarrowest (s ∷ []) (rounded s)
narrowest_one s = record {
  alignment = greatest_one s.alignment;
  boundary = boundary_one s.boundary;
  lowaddr = least_one (frame_end s.lowaddr.0);
  highaddr = greatest_one (frame_end s.highaddr.0);
}

pub own_one : (s : TagLimits) → IsOwn s (rounded s)
own_one s = record { maxsize = refl; nsegments = refl; maxsegsz = refl; flags = refl }

-- a chain with one more child
pub narrowest_child : (chain : List TagLimits) (t s : TagLimits) → IsNarrowest chain t →
    IsNarrowest (chain ++ s ∷ []) (inherit t (rounded s))
narrowest_child chain t s h = record {
  alignment =
      let f : TagLimits → ℕ = λ s. s.alignment in
      subst (λ (xs : List ℕ). IsGreatest xs (max t.alignment s.alignment)) (sym (map_push f chain s))
      (greatest_push (map f chain) t.alignment s.alignment h.alignment);
  boundary =
      let f : TagLimits → ℕ = λ s. s.boundary in
      subst (λ (xs : List ℕ). IsLeastBoundary xs (least_boundary t.boundary s.boundary)) (sym (map_push f chain s))
      (boundary_push (map f chain) t.boundary s.boundary h.boundary);
  lowaddr =
      let f : TagLimits → ℕ = λ s. frame_end s.lowaddr.0 in
      subst (λ (xs : List ℕ). IsLeast xs (min t.lowaddr.0 (f s))) (sym (map_push f chain s))
      (least_push (map f chain) t.lowaddr.0 (f s) h.lowaddr);
  highaddr =
      let f : TagLimits → ℕ = λ s. frame_end s.highaddr.0 in
      subst (λ (xs : List ℕ). IsGreatest xs (max t.highaddr.0 (f s))) (sym (map_push f chain s))
      (greatest_push (map f chain) t.highaddr.0 (f s) h.highaddr);
}

pub own_child : (t s : TagLimits) → IsOwn s (inherit t (rounded s))
own_child t s = record { maxsize = refl; nsegments = refl; maxsegsz = refl; flags = refl }

-- what was made without a parent
pub made_first : (s t : TagLimits) → effective None s ≡ Some t → rounded s ≡ t
made_first s t = go (is_accepted s)
  where
    go : (b : Bool) → (if b then Some (rounded s) else None) ≡ Some t → rounded s ≡ t
    go true e = cc
    go false e = cc

-- what was made below a parent
pub made_child : (parent s t : TagLimits) → effective (Some parent) s ≡ Some t → inherit parent (rounded s) ≡ t
made_child parent s t = go (is_accepted s)
  where
    go : (b : Bool) → option_map (inherit parent) (if b then Some (rounded s) else None)
        ≡ Some t → inherit parent (rounded s) ≡ t
    go true e = cc
    go false e = cc

-- the last tag of a chain of accepted limits
pub record IsChainEnd (first : TagLimits) (rest : List TagLimits) (t : TagLimits) : Type 0 where
  pub narrowest : IsNarrowest (first ∷ rest) t
  pub own : IsOwn (last_of first rest) t
  pub accepted : All IsAccepted (first ∷ rest)

pub chain_first : (first t : TagLimits) → effective None first ≡ Some t → IsAccepted first → IsChainEnd first [] t
chain_first first t made accepted = subst (IsChainEnd first []) (made_first first t made) (record {
  narrowest = narrowest_one first;
  own = own_one first;
  accepted = All-push IsAccepted [] first (All-nil IsAccepted) accepted;
})

-- the last of a longer chain
last_push : (first : TagLimits) (rest : List TagLimits) (s : TagLimits) → last_of first (rest ++ s ∷ []) ≡ s
last_push first rest s =
    let at : length (rest ++ s ∷ []) - 1 ≡ length rest = omega (arith, length-append rest (s ∷ [])) in
    ap (λ (i : ℕ). get_or (rest ++ s ∷ []) i first) at ∙ get_or-append_seam rest s [] first

chain_push : (first : TagLimits) (rest : List TagLimits) (t s child : TagLimits) → IsChainEnd first rest t →
    effective (Some t) s ≡ Some child → IsAccepted s → IsChainEnd first (rest ++ s ∷ []) child
chain_push first rest t s child h made accepted =
    subst (IsChainEnd first (rest ++ s ∷ [])) (made_child t s child made) (record {
      narrowest = narrowest_child (first ∷ rest) t s h.narrowest;
      own =
          subst (λ (last : TagLimits). IsOwn last (inherit t (rounded s))) (sym (last_push first rest s))
          (own_child t s);
      accepted = All-push IsAccepted (first ∷ rest) s h.accepted accepted;
    })

-- one more tag is made below the last tag of the chain so far
pub chain_more : (first : TagLimits) (rest : List TagLimits) (i : ℕ) (d t child : TagLimits) → i < length rest →
    IsChainEnd first (take i rest) t → effective (Some t) (get_or rest i d) ≡ Some child →
    IsAccepted (get_or rest i d) → IsChainEnd first (take (i + 1) rest) child
chain_more first rest i d t child within h made accepted =
    subst (λ (xs : List TagLimits). IsChainEnd first xs child) (sym (take_more rest i d within))
    (chain_push first (take i rest) t (get_or rest i d) child h made accepted)
