-- In a world at rest a zone in which maps wait lacks pages: a loaded map has one, or the first needs too many.
use Rattle.std.proofs.Common.{◌≡◌, ◌≢◌, ℕ, zero, suc, ◌+◌, ◌<◌, ◌≤◌, ◌==◌, ◌&&◌, Bool, true, false, List, [], ◌∷◌, ◌++◌}
use Rattle.std.proofs.Common.{length, Option, Some, None, refl, sym, ap, ◌∙◌, subst, arith, slice_get, nat_lt, All}
use Rattle.std.proofs.lemmas.Bool.{and_parts, eqb-true, eq-eqb}
use Rattle.std.proofs.lemmas.Bool.Decides.{nat_tests}
use Rattle.std.proofs.lemmas.List.Elements.{All-weaker}
use Rattle.std.specs.FinMap.{get}
use Rattle.std.specs.List.{count_by, filter, sum_by}
use Rattle.busdma_machine.specs.declared.bounce.hold.HoldEntry.{HoldEntry}
use Rattle.busdma_machine.specs.declared.bounce.zone.Waiter.{Waiter}
use Rattle.busdma_machine.specs.declared.name.MapId.{MapId}
use Rattle.busdma_base.specs.declared.journals.journal.JournalEntry.{JournalEntry}
use Rattle.busdma_base.specs.declared.journals.journal.Journal.{Journal}
use Rattle.busdma_base.specs.declared.scenarios.scenario.Scenario.{Scenario}
use Rattle.busdma_machine.specs.Bounce.Account.{Account, Held, active, same_map, total, zone_at}
use Rattle.busdma_machine.specs.Bounce.Conditions.{pages_held, times_held}
use Rattle.busdma_machine.specs.Bounce.History.{IsSound, account_of, after_entry}
use Rattle.busdma_machine.specs.Bounce.LatePages.{late_pages, to_call}
use Rattle.busdma_machine.specs.Bounce.SameFor.{SameFor}
use Rattle.busdma_machine.specs.Bounce.Serving.{is_holding}
use Rattle.busdma_base.specs.Scenarios.Opening.{opening}
use Rattle.busdma_base.specs.Scenarios.Valid.{IsValid}
use Rattle.busdma_base.proofs.OpeningLaws.{opening-may_begin}
use Rattle.busdma_machine.proofs.Accounts.LaneEntries.{account_of-append}
use Rattle.busdma_machine.proofs.Accounts.LatePages.{short-of}
use Rattle.busdma_machine.proofs.Accounts.Names.{same_map-self}
use Rattle.busdma_machine.proofs.Accounts.ShareLaws.{SameFor-history}
use Rattle.lane_agreement.specs.OwnShare.{is_return, loaded_page, share_if}
use Rattle.lane_agreement.proofs.Own.{count-less, count-one}
use Rattle.ideal_lane.specs.State.{LaneState, LaneMap, Stage, Idle, Waiting, Loaded, Returning}
use Rattle.ideal_lane.specs.Unloads.{pages_of}
use Rattle.ideal_lane.specs.View.{in_zone, own_map}
use Rattle.ideal_world.specs.Ends.{IsAtRest}
use Rattle.ideal_world.specs.Holds.{journal_holds, step_holds}
use Rattle.ideal_world.specs.Lacking.{HasPageOf, LacksPages, OneIsLoaded, ZoneIsSmall}
use Rattle.ideal_world.specs.Legal.{IsLegal, Leads}
use Rattle.ideal_world.specs.Waiting.{OnlyAwaits}
use Rattle.ideal_world.specs.WellFormed.{IsAccountReached, IsWellFormed}
use Rattle.ideal_world.specs.World.{WorldState, opening_world, step}
use Rattle.ideal_world.proofs.HoldLaws.{holds-lead, holds-sound}
use Rattle.ideal_world.proofs.Keeping.{step-keeps}
use Rattle.ideal_world.proofs.Lanes.{found}
use Rattle.ideal_world.proofs.Legal.{legal-waits}
use Rattle.ideal_world.proofs.Opens.{opens-well}
use Rattle.ideal_world.proofs.Stuck.{only-awaits}

-- a page of a zone that a map holds
record HeldIn (hs : List Held) (z : ℕ) : Type 0 where
  item : Held
  counted : 1 ≤ count_by (is_holding item.map z item.page) hs

held-in : (hs : List Held) (z : ℕ) → 1 ≤ count_by (λ h. h.zone == z) hs → HeldIn hs z
held-in [] z some = absurd (omega (arith, some))
held-in (h ∷ hs) z some = by (h.zone == z) refl (λ k. held-in hs z k)
  where
    further : HeldIn hs z → HeldIn (h ∷ hs) z
    further x = record {
      item = x.item;
      counted = omega (arith, x.counted, count-one (is_holding x.item.map z x.item.page) h hs);
    }

    by : (b : Bool) → (h.zone == z) ≡ b → (1 ≤ count_by (λ k. k.zone == z) hs → HeldIn hs z) → HeldIn (h ∷ hs) z
    by true e more =
        let this : is_holding h.map z h.page h ≡ true = rw (eq-eqb h.page h.page refl, e, same_map-self h.map) refl in
        record { item = h; counted = omega (arith, ap share_if this, count-one (is_holding h.map z h.page) h hs) }
    by false e more =
        further (more (omega (arith, some, ap share_if e, count-one (λ (k : Held). k.zone == z) h hs)))

-- nobody but the scenario's drivers holds a page
unheld : (s : Scenario) (a : Account) (m : MapId) → IsAccountReached s a → length s.drivers ≤ m.lane.0 → pages_held m a
    ≡ 0
unheld s a m r past =
    let others : All (λ e. e.lane.0 ≢ m.lane.0) r.history =
    All-weaker (λ (e : HoldEntry). e.lane.0 < length s.drivers) (λ (e : HoldEntry). e.lane.0 ≢ m.lane.0)
    (λ e low same. absurd (omega (arith, low, same, past))) r.history r.own in
    let same : SameFor m.lane.0 (opening s) (account_of (opening s) r.history) =
    SameFor-history m.lane.0 (opening s) r.history r.sound others in
    let none : pages_held m (opening s) ≡ 0 = refl in
    subst (λ b. pages_held m b ≡ 0) r.leads ((same.names m refl).holds ∙ none)

-- a page of a zone among the pages of a map of a zone
some-page : (p y z : ℕ) (ps : List ℕ) → 1 ≤ count_by (λ q. (q == p) && (y == z)) ps → (y ≡ z) × (1 ≤ length ps)
some-page p y z [] some = absurd (omega (arith, some))
some-page p y z (q ∷ ps) some = by ((q == p) && (y == z)) refl (λ k. some-page p y z ps k)
  where
    by : (b : Bool) → ((q == p) && (y == z)) ≡ b →
        (1 ≤ count_by (λ k. (k == p) && (y == z)) ps → (y ≡ z) × (1 ≤ length ps)) → (y ≡ z) × (1 ≤ length (q ∷ ps))
    by true e more = (eqb-true y z (and_parts (q == p) (y == z) e).1, omega arith)
    by false e more =
        let rest = more (omega (arith, some, ap share_if e, count-one (λ k. (k == p) && (y == z)) q ps)) in
        (rest.0, omega arith)

module _ (s : Scenario) (w : WorldState) (well : IsWellFormed s w) (awaits : OnlyAwaits w) (z : ℕ) where
  -- ---- a page that is held is a page of a loaded map

  module _ (m : MapId) (p : ℕ) (some : 1 ≤ times_held m z p w.account) where
    module _ (l : LaneState) (there : slice_get w.lanes m.lane.0 ≡ Some l) where
      own-page : 1 ≤ loaded_page z p (own_map (get l.maps m.made_at))
      own-page =
          let d = well.each m.lane.0 l there in
          let none : count_by (is_return m.made_at z p) l.returns ≡ 0 =
          ap (count_by (is_return m.made_at z p)) (awaits.each m.lane.0 l there).returns in
          omega (arith, some, none, (d.agrees.names m (sym d.number)).holds_page z p)

      has-page : (o : Option LaneMap) → get l.maps m.made_at ≡ o → 1 ≤ loaded_page z p (own_map o) → HasPageOf w z
      has-page None e h = absurd (omega (arith, h))
      has-page (Some o) e h = zoned o.zone refl h
        where
          staged : (y : ℕ) → o.zone ≡ Some y → (g : Stage) → o.stage ≡ g → 1 ≤ loaded_page z p (in_zone g (Some y)) →
              HasPageOf w z
          staged y at Idle is k = absurd (omega (arith, k))
          staged y at (Waiting x) is k = absurd (omega (arith, k))
          staged y at (Loaded bounced segments pages) is k =
              let r = some-page p y z pages k in
              record {
                lane = m.lane.0;
                driver = l;
                there = there;
                map = m.made_at;
                own = o;
                made = e;
                zone = at ∙ ap (λ x. Some x) r.0;
                pages = subst (λ g. 1 ≤ length (pages_of g)) (sym is) r.1;
              }
          staged y at Returning is k = absurd (omega (arith, k))

          zoned : (y : Option ℕ) → o.zone ≡ y → 1 ≤ loaded_page z p (in_zone o.stage y) → HasPageOf w z
          zoned None at k = absurd (omega (arith, k))
          zoned (Some y) at k = staged y at o.stage refl k

    holder : HasPageOf w z
    holder = by (nat_lt m.lane.0 (length w.lanes)) refl
      where
        by : (b : Bool) → nat_lt m.lane.0 (length w.lanes) ≡ b → HasPageOf w z
        by true t =
            let lt : m.lane.0 < length w.lanes = grind (arith, nat_tests) in
            let at = found w.lanes m.lane.0 lt in
            has-page at.0 at.1 (get at.0.maps m.made_at) refl (own-page at.0 at.1)
        by false t =
            let c = well.count in
            let past : length s.drivers ≤ m.lane.0 = grind (arith, nat_tests) in
            absurd (omega (
              arith,
              some,
              unheld s w.account m well.reached past,
              count-less (is_holding m z p) (λ (h : Held). same_map m h.map) w.account.held
                  (λ h e. (and_parts (h.zone == z) _ (and_parts (h.page == p) _ e).1).1),
            ))

  -- ---- a zone in which maps wait

  module _ (history : List HoldEntry) (sound : IsSound (opening s) history)
      (leads : account_of (opening s) history ≡ w.account) (first : Waiter) (rest : List Waiter)
      (is : (zone_at w.account z).wait ≡ first ∷ rest) where
    abbrev pub late : ℕ
    late = late_pages z (opening s) history

    short : total w.account z < first.need + active w.account z + to_call z w.account + late
    short =
        subst (λ b. total b z < first.need + active b z + to_call z b + late) leads
        (short-of z (opening s) history first rest (opening-may_begin s well.valid) sound
        (subst (λ b. (zone_at b z).wait ≡ first ∷ rest) (sym leads) is))

    none-called : to_call z w.account ≡ 0
    none-called = ap (λ (ws : List Waiter). sum_by (λ x. x.need) (filter (λ x. x.zone.0 == z) ws)) awaits.ready

    pub lacks-pages : LacksPages w z first.need late
    lacks-pages = by (active w.account z) refl
      where
        by : (n : ℕ) → active w.account z ≡ n → LacksPages w z first.need late
        by zero e = ZoneIsSmall (omega (arith, short, none-called, e))
        by (suc n) e =
            let x = held-in w.account.held z (omega (arith, e)) in
            OneIsLoaded (holder x.item.map x.item.page x.counted)

-- ---- the history of a journal

sound-more : (a : Account) (es fs : List HoldEntry) → IsSound a es → IsSound (account_of a es) fs → IsSound a (es ++ fs)
sound-more a [] fs s t = t
sound-more a (e ∷ es) fs s t = (s.0, sound-more (after_entry e a) es fs s.1 t)

record IsLedTo (w : WorldState) (es : List JournalEntry) (end : WorldState) : Type 0 where
  sound : IsSound w.account (journal_holds w es)
  leads : account_of w.account (journal_holds w es) ≡ end.account

led-to : (s : Scenario) (w : WorldState) (es : List JournalEntry) (end : WorldState) → IsWellFormed s w →
    Leads w es end → IsLedTo w es end
led-to s w [] end well leads = record { sound = tt; leads = ap (λ (x : WorldState). x.account) leads }
led-to s w (e ∷ es) end well leads =
    let next : WorldState = (step w e.actor).world in
    let first : account_of w.account (step_holds w e.actor) ≡ next.account = holds-lead w e.actor in
    let rest = led-to s next es end (step-keeps s w well e.actor) leads.1 in
    record {
      sound =
          sound-more w.account (step_holds w e.actor) (journal_holds next es) (holds-sound s w e.actor well)
          (subst (λ a. IsSound a (journal_holds next es)) (sym first) rest.sound);
      leads =
          account_of-append w.account (step_holds w e.actor) (journal_holds next es)
          ∙ ap (λ a. account_of a (journal_holds next es)) first ∙ rest.leads;
    }

pub at-rest-lacks : (s : Scenario) (w : WorldState) (z : ℕ) (history : List HoldEntry) (first : Waiter)
    (rest : List Waiter) → IsWellFormed s w → IsAtRest w → IsSound (opening s) history →
    account_of (opening s) history ≡ w.account → (zone_at w.account z).wait ≡ first ∷ rest →
    LacksPages w z first.need (late_pages z (opening s) history)
at-rest-lacks s w z history first rest well still sound leads is =
    lacks-pages s w well (only-awaits s w well still) z history sound leads first rest is

pub legal-lacks : (s : Scenario) (j : Journal) (h : IsLegal s j) (z : ℕ) (first : Waiter) (rest : List Waiter) →
    IsValid s → (zone_at h.last.account z).wait ≡ first ∷ rest →
    LacksPages h.last z first.need (late_pages z (opening s) (journal_holds (opening_world s) j.entries))
legal-lacks s j h z first rest valid is =
    let x = legal-waits s j h valid in
    let led = led-to s (opening_world s) j.entries h.last (opens-well s valid) h.leads in
    lacks-pages s h.last x.0 x.1 z (journal_holds (opening_world s) j.entries) led.sound led.leads first rest is
