-- What is prepared for maps has bytes that may be loaded into them.
use Rattle.std.proofs.Common.{◌≡◌, ℕ, zero, suc, ◌<◌, ◌==◌, ◌||◌, Bool, true, false, cond, List, [], ◌∷◌, length}
use Rattle.std.proofs.Common.{get_or}
use Rattle.std.proofs.Common.{Result, Ok, Err, OnOk, OnErr, Option, Some, None, unwrap_or, refl, sym, ap, ◌∙◌, subst}
use Rattle.std.proofs.Common.{arith}
use Rattle.std.proofs.lemmas.Map.Views.{exact_unsigned_eq}
use Rattle.std.specs.List.{All, AllByRecursion}
use Rattle.std.specs.Ordering.{nat_cmp}
use Rattle.std.specs.FinMap.{FinMap, get, insert, remove, empty, get-empty}
use Rattle.busdma_machine.specs.Bounce.MemoryRuns.{in_run}
use Rattle.busdma_base.specs.declared.scenarios.scenario.PageRun.{PageRun}
use Rattle.busdma_base.specs.Scenarios.PageRuns.{is_own}
use Rattle.busdma_rules.specs.declared.position.Position.{Position}
use Rattle.busdma_rules.specs.Lending.Loans.{Loan, Loans, new_loan, no_loan, unlent_positions}
use Rattle.loan_table.specs.Table.{IsSame, Table}
use Rattle.ideal_lane.proofs.Lookups.{get_cut, get_put}
use Rattle.ideal_wire.specs.Laid.{is_loadable}
use Rattle.lane_state.specs.declared.holdings.Holdings.{Holdings}
use Rattle.lane_state.specs.declared.kept.KeptMemory.{KeptMemory}
use Rattle.lane_state.specs.Awaiting.{AreOfMaps, awaits_map}
use Rattle.lane_state.specs.Ideal.{ideal_of}
use Rattle.lane_state.specs.Kept.{memory_of}
use Rattle.lane_state.proofs.MapValues.{get-map_values}
use Rattle.std.specs.Option.{option_map}

-- what is true of each byte is true of each position that lends none
of-unlent : (P : ℕ → Type 0) (bs : List ℕ) → AllByRecursion P bs → (i : ℕ) (d : Position) → i
    < length (unlent_positions bs) →
    P (get_or (unlent_positions bs) i d).pa
of-unlent P [] h i d inside = absurd (omega arith)
of-unlent P (a ∷ bs) h zero d inside = h.0
of-unlent P (a ∷ bs) h (suc i) d inside = of-unlent P bs h.1 i d (omega arith)

-- a byte that may be loaded into a map of the ideal driver may be loaded into the map
of-map : (h : Holdings) (k a : ℕ) → is_loadable (get (ideal_of h).mems k) (ideal_of h) a ≡ true →
    awaits_map h.pages.now (get h.memories.map k) a ≡ true
of-map h k a loadable =
    by (get h.memories.map k) (sym (ap (λ o. is_loadable o (ideal_of h) a) (get-map_values memory_of h.memories.map k))
    ∙ loadable)
  where
    or-true : (b c : Bool) → c ≡ true → (b || c) ≡ true
    or-true true c e = refl
    or-true false c e = e

    by : (o : Option KeptMemory) → is_loadable (option_map memory_of o) (ideal_of h) a ≡ true →
        awaits_map h.pages.now o a ≡ true
    by None e = e
    by (Some x) e = or-true (is_own h.pages.now a) (in_run x.first.0 x.count a) e

pub all-of-map : (h : Holdings) (k : ℕ) (bs : List ℕ) →
    AllByRecursion (λ a. is_loadable (get (ideal_of h).mems k) (ideal_of h) a ≡ true) bs →
    AllByRecursion (λ a. awaits_map h.pages.now (get h.memories.map k) a ≡ true) bs
all-of-map h k [] are = tt
all-of-map h k (b ∷ bs) are = (of-map h k b are.0, all-of-map h k bs are.1)

module _ (pages : List PageRun) where
  abbrev Of : Option KeptMemory → Option Loan → Type 0
  Of x loan = All (λ p. awaits_map pages x p.pa ≡ true) (unwrap_or loan no_loan).positions

  none-of : (x : Option KeptMemory) → Of x None
  none-of x = λ i d inside. absurd (omega arith)

  pub of-maps-empty : (memories : FinMap nat_cmp KeptMemory) → AreOfMaps pages memories empty
  of-maps-empty memories q = subst (Of (get memories q)) (sym (get-empty nat_cmp q)) (none-of (get memories q))

  module _ (memories : FinMap nat_cmp KeptMemory) (prepared : Loans) (are : AreOfMaps pages memories prepared) where
    -- a loan is prepared for a map, or is not any more
    pub of-maps-more : (k : ℕ) (coherent : Bool) (bytes : List ℕ) →
        AllByRecursion (λ a. awaits_map pages (get memories k) a ≡ true) bytes →
        AreOfMaps pages memories (insert prepared k (new_loan coherent bytes))
    of-maps-more k coherent bytes all q =
        subst (Of (get memories q)) (sym (get_put prepared k (new_loan coherent bytes) q)) (by (q == k) refl)
      where
        by : (b : Bool) → (q == k) ≡ b →
            Of (get memories q) (cond b (Some (new_loan coherent bytes)) (get prepared q))
        by true e =
            subst (λ j. Of (get memories j) (Some (new_loan coherent bytes))) (sym (exact_unsigned_eq q k e))
            (λ i d inside. of-unlent (λ a. awaits_map pages (get memories k) a ≡ true) bytes all i d inside)
        by false e = are q

    pub of-maps-less : (k : ℕ) → AreOfMaps pages memories (remove prepared k)
    of-maps-less k q = subst (Of (get memories q)) (sym (get_cut prepared k q)) (by (q == k))
      where
        by : (b : Bool) → Of (get memories q) (cond b None (get prepared q))
        by true = none-of (get memories q)
        by false = are q

    -- a memory comes, or goes with what is prepared for its map
    pub of-maps-join : (k : ℕ) (x : KeptMemory) → get memories k ≡ None → AreOfMaps pages (insert memories k x) prepared
    of-maps-join k x none q =
        subst (λ o. Of o (get prepared q)) (sym (get_put memories k x q)) (by (q == k) refl)
      where
        or-some : (b c : Bool) → b ≡ true → (b || c) ≡ true
        or-some true c e = refl
        or-some false c e = absurd (cc)

        here : Of (get memories q) (get prepared q) → get memories q ≡ None → Of (Some x) (get prepared q)
        here was gone = λ i d inside. or-some _ _ (subst (λ o. Of o (get prepared q)) gone was i d inside)

        by : (b : Bool) → (q == k) ≡ b → Of (cond b (Some x) (get memories q)) (get prepared q)
        by true e = here (are q) (ap (get memories) (exact_unsigned_eq q k e) ∙ none)
        by false e = are q

    pub of-maps-part : (k : ℕ) → AreOfMaps pages (remove memories k) (remove prepared k)
    of-maps-part k q =
        subst (λ (x : Option KeptMemory × Option Loan). Of x.0 x.1)
        (λ i. (sym (get_cut memories k q) i, sym (get_cut prepared k q) i)) (by (q == k))
      where
        by : (b : Bool) → Of (cond b None (get memories q)) (cond b None (get prepared q))
        by true = none-of None
        by false = are q

-- a loan is prepared for a map, or memory ran out
pub prepared-ready : {T E : Type 0} (h : Holdings) (k : ℕ) (r : Result T E) (t : Table) (coherent : Bool)
    (bytes : List ℕ) → AllByRecursion (λ a. awaits_map h.pages.now (get h.memories.map k) a ≡ true) bytes →
    OnOk r (t.prepared ≡ insert h.loans.prepared k (new_loan coherent bytes)) → OnErr r (IsSame h.loans t) →
    AreOfMaps h.pages.now h.memories.map t.prepared
prepared-ready h k (Ok y) t coherent bytes all more same =
    subst (AreOfMaps h.pages.now h.memories.map) (sym more)
    (of-maps-more h.pages.now h.memories.map h.loans.prepared h.ready k coherent bytes all)
prepared-ready h k (Err e) t coherent bytes all more same =
    subst (AreOfMaps h.pages.now h.memories.map) (sym same.prepared) h.ready
