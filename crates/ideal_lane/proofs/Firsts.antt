-- The candidate that a step of a ring uses is the first of those that allow the access.
use Rattle.std.proofs.Common.{◌≡◌, ℕ, ◌≤◌, ◌<◌, ◌&&◌, Bool, true, false, cond, if◌then◌else◌, List, [], ◌∷◌, Option}
use Rattle.std.proofs.Common.{Some, None}
use Rattle.std.proofs.Common.{ap, arith, refl, slice_get, subst, T}
use Rattle.std.proofs.lemmas.List.Elements.{All-contains, All-contains_itself, All-filter, All-from_recursion}
use Rattle.std.proofs.lemmas.List.Elements.{filter_passes}
use Rattle.std.proofs.lemmas.Option.{slice_get_within, get_or_from_slice_get}
use Rattle.std.specs.declared.cmp.Ordering.{Ordering}
use Rattle.std.specs.declared.cmp.Ordering.TheVariants.{Less, Equal, Greater}
use Rattle.std.specs.Cmp.{ranks}
use Rattle.std.specs.FinMap.{entries, entries_sorted}
use Rattle.std.specs.FinMap.Entries.{is_sorted, below_all}
use Rattle.std.specs.List.{AllByRecursion, Contains, filter}
use Rattle.std.specs.Ordering.{nat_cmp, is_lt, MatchOrdering}
use Rattle.busdma_machine.specs.declared.report.Judged.{Judged}
use Rattle.busdma_machine.specs.declared.report.Judged.TheVariants.{Fine, Refused}
use Rattle.busdma_rules.specs.declared.descriptor.Descriptor.{Descriptor}
use Rattle.busdma_rules.specs.Rings.Ranges.{place_of}
use Rattle.ideal_lane.specs.State.{LaneState, LaneMap, LaneRing}
use Rattle.ideal_lane.specs.Rings.{Candidate, allowed, before_others, candidates, candidates_in, head_of, is_fine}
use Rattle.ideal_lane.specs.Rings.{is_left_out}
use Rattle.ideal_lane.specs.Rings.{judged_at}
use Rattle.ideal_lane.specs.Unloads.{segments_in}

both : (a b : Bool) → T (a && b) → T a × T b
both true b h = (tt, h)
both false b h = absurd h

comes-first : (o : Ordering) (A B C : Type 0) → MatchOrdering o A B C → T (is_lt o) → A
comes-first Less A B C h t = h
comes-first Equal A B C h t = absurd t
comes-first Greater A B C h t = absurd t

below : (n : ℕ) (es : List (ℕ × LaneMap)) → T (below_all nat_cmp n es) → AllByRecursion (λ e. n < e.0) es
below n [] h = tt
below n (e ∷ es) h =
    let lt : n < e.0 = comes-first (nat_cmp n e.0) _ _ _ (ranks n e.0) (both _ _ h).0 in
    (lt, below n es (both _ _ h).1)

-- each candidate comes before those whose maps were made after its own
abbrev Rises : List Candidate → Type 0
Rises [] = Unit {0}
Rises (c ∷ cs) = AllByRecursion (λ o. c.map < o.map) cs × Rises cs

module _ (d : Descriptor) (own : ℕ) (l : LaneState) where
  -- the candidates of maps that were made after a place
  above : (n : ℕ) (es : List (ℕ × LaneMap)) → AllByRecursion (λ e. n < e.0) es →
      AllByRecursion (λ c. n < c.map) (candidates_in d own l es)
  above n [] h = tt
  above n (e ∷ es) h =
      by (above n es h.1) (is_left_out own l e) (place_of d.addr d.len (segments_in e.1.stage))
    where
      placed : AllByRecursion (λ c. n < c.map) (candidates_in d own l es) → (o : Option ℕ) →
          AllByRecursion (λ c. n < c.map) (before_others e.0 o (candidates_in d own l es))
      placed rest None = rest
      placed rest (Some off) = (h.0, rest)

      by : AllByRecursion (λ c. n < c.map) (candidates_in d own l es) → (b : Bool) (o : Option ℕ) →
          AllByRecursion (λ c. n < c.map)
          (if b then candidates_in d own l es else before_others e.0 o (candidates_in d own l es))
      by rest true o = rest
      by rest false o = placed rest o

  rises : (es : List (ℕ × LaneMap)) → T (is_sorted nat_cmp es) → Rises (candidates_in d own l es)
  rises [] s = tt
  rises (e ∷ es) s =
      by (rises es (both _ _ s).1) (above e.0 es (below e.0 es (both _ _ s).0)) (is_left_out own l e)
      (place_of d.addr d.len (segments_in e.1.stage))
    where
      placed : Rises (candidates_in d own l es) → AllByRecursion (λ c. e.0 < c.map) (candidates_in d own l es) →
          (o : Option ℕ) → Rises (before_others e.0 o (candidates_in d own l es))
      placed rest higher None = rest
      placed rest higher (Some off) = (higher, rest)

      by : Rises (candidates_in d own l es) → AllByRecursion (λ c. e.0 < c.map) (candidates_in d own l es) →
          (b : Bool) (o : Option ℕ) →
          Rises (if b then candidates_in d own l es else before_others e.0 o (candidates_in d own l es))
      by rest higher true o = rest
      by rest higher false o = placed rest higher o

module _ (t : Candidate → Bool) where
  after-first : (n : ℕ) (cs : List Candidate) → AllByRecursion (λ o. n < o.map) cs →
      AllByRecursion (λ o. t o ≡ true → n ≤ o.map) cs
  after-first n [] h = tt
  after-first n (c ∷ cs) h = (λ passes. let lt = h.0 in omega (arith, lt), after-first n cs h.1)

  least : (cs : List Candidate) → Rises cs → (c : Candidate) → slice_get (filter t cs) 0 ≡ Some c →
      AllByRecursion (λ o. t o ≡ true → c.map ≤ o.map) cs
  least [] h c e = tt
  least (x ∷ xs) h c e = by (least xs h.1 c) (t x) refl e
    where
      by : (slice_get (filter t xs) 0 ≡ Some c → AllByRecursion (λ o. t o ≡ true → c.map ≤ o.map) xs) →
          (b : Bool) → t x ≡ b → slice_get (cond b (x ∷ filter t xs) (filter t xs)) 0 ≡ Some c →
          AllByRecursion (λ o. t o ≡ true → c.map ≤ o.map) (x ∷ xs)
      by rest true passes g =
          let same : x ≡ c = cc in
          subst (λ (y : Candidate). AllByRecursion (λ (o : Candidate). t o ≡ true → y.map ≤ o.map) (x ∷ xs)) same
          (λ passes. omega arith, after-first x.map xs h.0)
      by rest false fails g = (λ passes. absurd (cc), rest g)

fine-is : (j : Judged) → is_fine j ≡ true → j ≡ Fine
fine-is Fine e = refl
fine-is (Refused r) e = absurd (cc)

module _ (r : LaneRing) (l : LaneState) (c : Candidate)
    (first : slice_get (allowed (head_of r l) l (candidates r l)) 0 ≡ Some c) where
  abbrev test : Candidate → Bool
  test o = is_fine (judged_at (head_of r l) l o)

  abbrev cs : List Candidate
  cs = candidates r l

  here : Contains (filter test cs) c
  here = (0, slice_get_within (filter test cs) 0 c first, get_or_from_slice_get (filter test cs) 0 c c first)

  pub first-candidate : Contains (candidates r l) c
  first-candidate =
      All-contains (Contains cs) (filter test cs) c (All-filter test (Contains cs) cs (All-contains_itself cs)) here

  pub first-allowed : judged_at (head_of r l) l c ≡ Fine
  first-allowed =
      fine-is (judged_at (head_of r l) l c)
      (All-contains (λ o. test o ≡ true) (filter test cs) c (filter_passes test cs) here)

  pub first-least : (o : Candidate) → Contains (candidates r l) o → judged_at (head_of r l) l o ≡ Fine → c.map ≤ o.map
  first-least o in_candidates fine =
      All-contains (λ (x : Candidate). test x ≡ true → c.map ≤ x.map) cs o
      (All-from_recursion (λ (x : Candidate). test x ≡ true → c.map ≤ x.map) cs
      (least test cs (rises (head_of r l) r.mem l (entries l.maps) (entries_sorted l.maps)) c first))
      in_candidates (ap is_fine fine)
