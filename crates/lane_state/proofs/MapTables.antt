-- What holds of a driver's maps when one of them is put, changed or dropped.
use Rattle.std.proofs.Common.{◌≡◌, ℕ, ◌+◌, ◌≤◌, ◌==◌, Bool, true, false, List, Option, Some, None, not}
use Rattle.std.proofs.Common.{sym, ap, ◌∙◌, arith}
use Rattle.std.specs.Ordering.{nat_cmp}
use Rattle.std.specs.FinMap.{FinMap, get, insert, remove}
use Rattle.std.specs.List.{list_any}
use Rattle.lane_tables.specs.declared.queued.QueuedPage.{QueuedPage}
use Rattle.busdma_rules.specs.Lending.Loans.{Loans}
use Rattle.ideal_lane.proofs.Lookups.{get_put, get_cut, mapped, put_same}
use Rattle.ideal_lane.proofs.Weights.{weigh-new, weigh-cut}
use Rattle.lane_state.specs.declared.holdings.Holdings.{Holdings}
use Rattle.lane_state.specs.declared.kept.KeptMap.{KeptMap}
use Rattle.lane_state.specs.Covered.{AreCoveredLoads, AreReturning, has_load, lends_pages, pages_due}
use Rattle.lane_state.specs.Covered.{is_covered_returning, is_tried}
use Rattle.lane_state.specs.Kept.{due_of}

pub record AreMaps (maps : FinMap nat_cmp KeptMap) (loans : Loans) (returns : List QueuedPage) (owed : ℕ)
    : Type 0 where
  pub loaded : AreCoveredLoads maps loans
  pub unlent : (k : ℕ) → lends_pages (get maps k) ≡ false
  pub promised : pages_due maps ≤ owed
  pub returning : AreReturning maps returns
  pub tried : (k : ℕ) → is_tried (get maps k) ≡ true

module _ {X : Type 0} (f : Option KeptMap → X) (maps : FinMap nat_cmp KeptMap) (k : ℕ) where
  -- a fact of each map stays if a map is put that has the same fact as the one before
  pub told-put : (o : KeptMap) → f (Some o) ≡ f (get maps k) → (q : ℕ) → f (get (insert maps k o) q) ≡ f (get maps q)
  told-put o same q =
      ap f (get_put maps k o q) ∙ mapped f (q == k) (Some o) (get maps q)
      ∙ put_same (λ j. f (get maps j)) k q (f (Some o)) same

  -- a fact of each map stays if a map is removed that has the same fact as no map
  pub told-cut : f None ≡ f (get maps k) → (q : ℕ) → f (get (remove maps k) q) ≡ f (get maps q)
  told-cut same q =
      ap f (get_cut maps k q) ∙ mapped f (q == k) None (get maps q)
      ∙ put_same (λ j. f (get maps j)) k q (f None) same

-- pages of the queue are of maps on their way back, if this was so of the same maps before
pub returns-alike : (maps others : FinMap nat_cmp KeptMap) (returns : List QueuedPage) →
    ((q : ℕ) → is_covered_returning (get others q) ≡ is_covered_returning (get maps q)) → AreReturning maps returns →
    AreReturning others returns
returns-alike maps others returns same are =
    ap (λ (f : ℕ → Bool). list_any (λ q. not (f q.map.made_at)) returns) (λ i q. same q i) ∙ are

module _ (maps : FinMap nat_cmp KeptMap) (loans : Loans) (returns : List QueuedPage) (owed : ℕ)
    (are : AreMaps maps loans returns owed) where
  -- an idle map is put at a place that had none
  pub maps-new : (k : ℕ) (o : KeptMap) → get maps k ≡ None → has_load (Some o) ≡ false →
      lends_pages (Some o) ≡ false → due_of o ≡ 0 → is_covered_returning (Some o) ≡ false → is_tried (Some o) ≡ true →
      AreMaps (insert maps k o) loans returns owed
  maps-new k o none unloaded unlent undue still tried =
      let due : pages_due (insert maps k o) ≡ pages_due maps + due_of o = weigh-new due_of maps k o none in
      record {
        loaded = λ q. are.loaded q
            ∙ sym (told-put has_load maps k o (unloaded ∙ ap has_load (sym none)) q);
        unlent = λ q. told-put lends_pages maps k o (unlent ∙ ap lends_pages (sym none)) q ∙ are.unlent q;
        promised = let few : pages_due maps ≤ owed = are.promised in omega (arith, due, undue, few);
        returning = returns-alike maps (insert maps k o) returns
            (told-put is_covered_returning maps k o (still ∙ ap is_covered_returning (sym none))) are.returning;
        tried = λ q. told-put is_tried maps k o (tried ∙ ap is_tried (sym none)) q ∙ are.tried q;
      }

  -- an idle map is dropped
  pub maps-gone : (k : ℕ) (o : KeptMap) → get maps k ≡ Some o → has_load (Some o) ≡ false →
      lends_pages (Some o) ≡ false → is_covered_returning (Some o) ≡ false → is_tried (Some o) ≡ true →
      AreMaps (remove maps k) loans returns owed
  maps-gone k o there unloaded unlent still tried = record {
    loaded = λ q. are.loaded q ∙ sym (told-cut has_load maps k (sym (ap has_load there ∙ unloaded)) q);
    unlent = λ q. told-cut lends_pages maps k (sym (ap lends_pages there ∙ unlent)) q ∙ are.unlent q;
    promised = let few : pages_due maps ≤ owed = are.promised in
        let less : pages_due (remove maps k) ≤ pages_due maps = weigh-cut due_of maps k o there in omega arith;
    returning = returns-alike maps (remove maps k) returns
        (told-cut is_covered_returning maps k (sym (ap is_covered_returning there ∙ still))) are.returning;
    tried = λ q. told-cut is_tried maps k (sym (ap is_tried there ∙ tried)) q ∙ are.tried q;
  }

-- what holds of the maps of holdings
pub maps-of : (h : Holdings) → AreMaps h.maps.map h.loans.loans h.agenda.returns h.agenda.promised
maps-of h = record {
  loaded = h.loaded;
  unlent = h.unlent;
  promised = h.promised;
  returning = h.returning;
  tried = h.tried;
}
