-- In which list of an account a map that waits is, and that only maps of the scenario's drivers are in its lists.
use Rattle.std.proofs.Common.{◌≡◌, ◌≢◌, ℕ, zero, suc, ◌+◌, ◌<◌, ◌≤◌, ◌==◌, ◌&&◌, Bool, true, false, List, [], ◌∷◌}
use Rattle.std.proofs.Common.{length, refl, sym, ap, ◌∙◌, subst, arith, slice_index_or, All}
use Rattle.std.proofs.lemmas.Bool.{ne_eqb}
use Rattle.std.proofs.lemmas.List.Elements.{All-head, All-tail, All-weaker}
use Rattle.std.proofs.lemmas.List.Sums.{sum_by-cons}
use Rattle.std.specs.List.{count_by, sum_by}
use Rattle.busdma_machine.specs.declared.bounce.hold.HoldEntry.{HoldEntry}
use Rattle.busdma_machine.specs.declared.bounce.zone.Waiter.{Waiter}
use Rattle.busdma_machine.specs.declared.name.MapId.{MapId}
use Rattle.busdma_base.specs.declared.scenarios.scenario.Scenario.{Scenario}
use Rattle.busdma_machine.specs.Bounce.Account.{Account, Zone, zone_at, no_zone, same_map}
use Rattle.busdma_machine.specs.Bounce.Conditions.{times_listed}
use Rattle.busdma_machine.specs.Bounce.History.{account_of}
use Rattle.busdma_base.specs.Scenarios.Opening.{opening}
use Rattle.busdma_machine.specs.Bounce.SameFor.{SameFor}
use Rattle.busdma_machine.specs.Bounce.Share.{is_waiter, waiters}
use Rattle.busdma_machine.specs.Bounce.WellFormed.{Lacks, IsAccountWellFormed}
use Rattle.busdma_machine.proofs.Accounts.Names.{same_map-self}
use Rattle.busdma_machine.proofs.Accounts.ShareLaws.{SameFor-history}
use Rattle.lane_agreement.specs.OwnShare.{share_if}
use Rattle.lane_agreement.proofs.Own.{count-one}
use Rattle.ideal_world.specs.WellFormed.{IsAccountReached}

module _ (m : MapId) (z need : ℕ) where
  abbrev test : Waiter → Bool
  test = is_waiter m z need

  abbrev waiting : Zone → ℕ
  waiting k = count_by test k.wait

  -- the waiting list of another zone has no such waiter
  other : (y : ℕ) (ws : List Waiter) → y ≢ z → All (Lacks y) ws → count_by test ws ≡ 0
  other y [] off h = refl
  other y (x ∷ ws) off h =
      let here : Lacks y x = All-head (Lacks y) x ws h in
      let apart : (x.zone.0 == z) ≡ false = ne_eqb x.zone.0 z (λ e. off (sym here.zone ∙ e)) in
      let no : test x ≡ false = by x (x.need == need) (same_map m x.map) apart in
      omega (arith, count-one test x ws, ap share_if no, other y ws off (All-tail (Lacks y) x ws h))
    where
      by : (x : Waiter) (b c : Bool) → (x.zone.0 == z) ≡ false → (b && ((x.zone.0 == z) && c)) ≡ false
      by x true c e = ap (λ d. d && c) e
      by x false c e = refl

  -- each waiter of these zones is in its own zone's list, if the first of the zones has this number
  abbrev Own : ℕ → List Zone → Type 0
  Own first zs = (j : ℕ) → All (Lacks (first + j)) (slice_index_or zs j no_zone).wait

  own-head : (first : ℕ) (k : Zone) (zs : List Zone) → Own first (k ∷ zs) → All (Lacks first) k.wait
  own-head first k zs h = let e : first + 0 ≡ first = omega arith in subst (λ y. All (Lacks y) k.wait) e (h 0)

  own-tail : (first : ℕ) (k : Zone) (zs : List Zone) → Own first (k ∷ zs) → Own (first + 1) zs
  own-tail first k zs h j =
      let e : first + suc j ≡ (first + 1) + j = omega arith in
      subst (λ y. All (Lacks y) (slice_index_or zs j no_zone).wait) e (h (suc j))

  none-there : (first : ℕ) (zs : List Zone) → z < first → Own first zs → sum_by waiting zs ≡ 0
  none-there first [] low h = refl
  none-there first (k ∷ zs) low h =
      omega (
        arith,
        sum_by-cons waiting k zs,
        other first k.wait (λ e. absurd (omega (arith, e, low))) (own-head first k zs h),
        none-there (first + 1) zs (omega (arith, low)) (own-tail first k zs h),
      )

  one-there : (first i : ℕ) (zs : List Zone) → z ≡ first + i → Own first zs →
      sum_by waiting zs ≡ waiting (slice_index_or zs i no_zone)
  one-there first i [] e h = refl
  one-there first zero (k ∷ zs) e h =
      omega (
        arith,
        sum_by-cons waiting k zs,
        none-there (first + 1) zs (omega (arith, e)) (own-tail first k zs h),
      )
  one-there first (suc i) (k ∷ zs) e h =
      omega (
        arith,
        sum_by-cons waiting k zs,
        other first k.wait (λ q. absurd (omega (arith, e, q))) (own-head first k zs h),
        one-there (first + 1) i zs (omega (arith, e)) (own-tail first k zs h),
      )

  -- if the callback list is empty, the maps that wait for pages of a zone are in its waiting list
  pub in-zone : (a : Account) → IsAccountWellFormed a → a.ready ≡ [] → count_by test (zone_at a z).wait ≡ waiters test a
  in-zone a well none =
      let whole : sum_by waiting a.zones ≡ waiting (zone_at a z) =
      one-there 0 z a.zones (omega arith) (λ j. let e : j ≡ 0 + j = omega arith in
      subst (λ y. All (Lacks y) (zone_at a j).wait) e (well.waits j)) in
      omega (arith, whole, ap (count_by test) none)

-- no map but those of the scenario's drivers is in a list
pub unlisted : (s : Scenario) (a : Account) (m : MapId) → IsAccountReached s a → length s.drivers ≤ m.lane.0 →
    times_listed m a ≡ 0
unlisted s a m r past =
    let others : All (λ e. e.lane.0 ≢ m.lane.0) r.history =
    All-weaker (λ (e : HoldEntry). e.lane.0 < length s.drivers) (λ (e : HoldEntry). e.lane.0 ≢ m.lane.0)
    (λ e low same. absurd (omega (arith, low, same, past))) r.history r.own in
    let same : SameFor m.lane.0 (opening s) (account_of (opening s) r.history) =
    SameFor-history m.lane.0 (opening s) r.history r.sound others in
    let none : times_listed m (opening s) ≡ 0 = refl in
    subst (λ b. times_listed m b ≡ 0) r.leads ((same.names m refl).listed ∙ none)

-- the head of the callback list is in a list
pub head-listed : (a : Account) (w : Waiter) (ws : List Waiter) → a.ready ≡ w ∷ ws → 1 ≤ times_listed w.map a
head-listed a w ws is =
    let test : Waiter → Bool = (λ x. same_map w.map x.map) in
    omega (
      arith,
      ap (count_by test) is,
      count-one test w ws,
      ap share_if (same_map-self w.map),
    )
