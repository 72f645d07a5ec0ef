-- In each world to which a scenario's opening leads, each live run belongs to a load and has only bytes of its driver.
use Rattle.std.proofs.Common.{◌≡◌, ℕ, suc, ◌+◌, ◌-◌, ◌*◌, ◌/◌, ◌%◌, ◌<◌, ◌≤◌, ◌==◌, ◌&&◌, ◌||◌, Bool, true, false}
use Rattle.std.proofs.Common.{cond, if◌then◌else◌, List, [], ◌∷◌, Option, Some, None, slice_get, nat_le, nat_lt, refl}
use Rattle.std.proofs.Common.{sym, ap, ◌∙◌, subst}
use Rattle.std.proofs.Common.{arith}
use Rattle.std.proofs.lemmas.Bool.{and_parts, eq-eqb, le-leb, leb-true, lt-ltb, ltb-true}
use Rattle.std.proofs.lemmas.List.Sums.{sum_by-cons}
use Rattle.std.proofs.lemmas.Option.{slice_get-map}
use Rattle.std.specs.FinMap.{get}
use Rattle.std.specs.List.{Contains}
use Rattle.std.specs.Option.{option_map, option_map_or}
use Rattle.busdma_machine.specs.declared.bounce.hold.HubCall.{HubCall}
use Rattle.busdma_machine.specs.declared.bounce.hold.HubReply.{HubReply}
use Rattle.busdma_machine.specs.Bounce.Account.{Account}
use Rattle.busdma_machine.specs.Bounce.MemoryRuns.{in_run}
use Rattle.busdma_base.specs.declared.journals.journal.Actor.{Actor}
use Rattle.busdma_base.specs.declared.journals.journal.JournalEntry.{JournalEntry}
use Rattle.busdma_base.specs.declared.journals.journal.Side.{Side}
use Rattle.busdma_base.specs.declared.scenarios.scenario.PageRun.{PageRun}
use Rattle.busdma_base.specs.declared.scenarios.scenario.Scenario.{Scenario}
use Rattle.busdma_base.specs.Scenarios.Opening.{maxmem_of}
use Rattle.busdma_base.specs.Scenarios.PageRuns.{is_own}
use Rattle.busdma_base.specs.Scenarios.Valid.{IsValid}
use Rattle.busdma_rules.specs.declared.position.Position.{Position}
use Rattle.busdma_rules.specs.Iommu.Space.{DeviceRun, frame_of_page, has_page, translated}
use Rattle.busdma_rules.specs.Lending.Loans.{addresses_of, loan_of}
use Rattle.lane_agreement.specs.View.{Return, is_returning, returning}
use Rattle.ideal_lane.specs.Agreement.{AgreesWith}
use Rattle.ideal_lane.specs.Asking.{by_reply}
use Rattle.ideal_lane.specs.Outcomes.{is_loaded}
use Rattle.ideal_lane.specs.Sends.{copied}
use Rattle.ideal_lane.specs.Standing.{Stands}
use Rattle.ideal_lane.specs.State.{LaneState, LaneMap, LaneMemory, Stage, Idle, Waiting, Loaded, Returning}
use Rattle.ideal_lane.specs.Turns.{Turned, lane_step}
use Rattle.ideal_lane.specs.Unloads.{after_return}
use Rattle.ideal_lane.specs.View.{in_zone, own_map}
use Rattle.ideal_lane.proofs.Effects.{Advances, Calls, Declines, Keeps, Leaves, Releases, Resends, Stays, Steps}
use Rattle.ideal_lane.proofs.Stepping.{turn-steps}
use Rattle.ideal_wire.specs.Held.{Holder, IsHeld, ItsMemory, ItsPages, holds}
use Rattle.ideal_wire.specs.Laid.{AreLaid, IsOwnByte, OfMemory, OfPages}
use Rattle.ideal_wire.specs.Machine.{IsInMachine}
use Rattle.ideal_wire.specs.Mapped.{AreMapped}
use Rattle.ideal_wire.specs.Spaced.{AreSpaced}
use Rattle.ideal_wire.proofs.Loads.Begun.{Again, Next}
use Rattle.ideal_wire.proofs.Faithful.CopiedClusters.{copied-laid, copied-machine, copied-spaced}
use Rattle.ideal_wire.proofs.Devices.MappedTurns.{turn-mapped}
use Rattle.ideal_wire.proofs.Faithful.PlacedLoads.{Load, load-of, loadable-own}
use Rattle.ideal_wire.proofs.Laid.Positions.{found_one}
use Rattle.ideal_world.specs.Legal.{Leads}
use Rattle.ideal_world.specs.WellFormed.{IsWellFormed}
use Rattle.ideal_world.specs.Wires.{EachDriver}
use Rattle.ideal_world.specs.World.{WorldState, opening_world, step}
use Rattle.ideal_world.proofs.Isolation.{one-holder}
use Rattle.ideal_world.proofs.Keeping.{step-keeps}
use Rattle.ideal_world.proofs.Lanes.{opening_at}
use Rattle.ideal_world.proofs.Opens.{opens-well}
use Rattle.ideal_world.proofs.Turns.{each-step}
use Rattle.ideal_laws.specs.LoadRuns.{AreLoadRuns}
use Rattle.ideal_laws.proofs.LiveRuns.{in-none}
use Rattle.ideal_laws.proofs.LoadRuns.{makes-used, puts, same-loads, same-runs, touches-used, unloaded-there}

-- ---- a turn

-- the map of a page that goes back is not loaded
module _ (l : LaneState) (back : (k : ℕ) → is_returning (own_map (get l.maps k)) ≡ false → returning k l.returns ≡ 0)
    (q : Return) (rest : List Return) (front : l.returns ≡ q ∷ rest) where
  one-back : 1 ≤ returning q.map l.returns
  one-back =
      let first : cond (q.map == q.map) 1 0 ≡ suc 0 = ap (λ b. cond b 1 0) (eq-eqb q.map q.map refl) in
      let more : 1 ≤ returning q.map (q ∷ rest) =
      omega (arith, first, sum_by-cons (λ (r : Return). cond (r.map == q.map) 1 0) q rest) in
      subst (λ rs. 1 ≤ returning q.map rs) (sym front) more

  unreturning : (bounced : _) (segments : _) (pages : List ℕ) (zone : Option ℕ) →
      is_returning (in_zone (Loaded bounced segments pages) zone) ≡ false
  unreturning bounced segments pages None = refl
  unreturning bounced segments pages (Some z) = refl

  returned-off : (o : LaneMap) → get l.maps q.map ≡ Some o → is_loaded o.stage ≡ false
  returned-off o there = by o.stage refl
    where
      by : (s : Stage) → o.stage ≡ s → is_loaded s ≡ false
      by Idle e = refl
      by (Waiting w) e = refl
      by Returning e = refl
      by (Loaded bounced segments pages) e =
          let none : is_returning (own_map (get l.maps q.map)) ≡ false =
          ap (λ y. is_returning (own_map y)) there ∙ ap (λ s. is_returning (in_zone s o.zone)) e
          ∙ unreturning bounced segments pages o.zone in
          absurd (omega (arith, one-back, back q.map none))

module _ (l : LaneState) (a : Account) (stands : Stands l) (agrees : AgreesWith l a) (laid : AreLaid l)
    (machine : IsInMachine l) (spaced : AreSpaced l) (used : AreLoadRuns l) where
  -- the same loads are in their runs at another place of the script
  placed : (k : LaneState) (place : ℕ) (due : Bool) → AreMapped (record k { place = place; due = due }) → AreMapped k
  placed k place due h = record {
    each = λ m o e d g. let y = h.each m o e d g in record { run = y.run; found = y.found };
    alone = h.alone;
  }

  steps-used : {s : Side} {c : Option HubCall} {r : HubReply} {t : Turned} → Steps l s c r t → AreMapped t.lane →
      AreLoadRuns t.lane
  steps-used (Stays t is) mapped = used
  steps-used {t = t} (Advances {x = x} o at free m) mapped =
      same-loads x.lane t.lane refl refl refl
      (makes-used l stands used laid machine spaced (Next at) m (placed x.lane (l.place + 1) false mapped))
  steps-used {t = t} (Keeps {x = x} o at free s is big held m) mapped =
      same-loads x.lane t.lane refl refl refl
      (makes-used l stands used laid machine spaced (Next at) m (placed x.lane x.lane.place true mapped))
  steps-used {t = t} (Declines s now x why) mapped = same-loads l t.lane refl refl refl used
  steps-used {t = t} (Resends {x = x} s now c told m) mapped =
      same-loads x.lane t.lane refl refl refl
      (makes-used (copied s l) stands (same-loads l (copied s l) refl refl refl used) (copied-laid l s laid)
      (copied-machine l s machine) (copied-spaced l s spaced) (Again s) m (placed x.lane (l.place + 1) false mapped))
  steps-used {t = t} (Leaves {x = x} q rest is m) mapped =
      same-loads x.lane t.lane refl refl refl (touches-used l stands used m)
  steps-used {t = t} (Releases q rest is None there) mapped = same-loads l t.lane refl refl refl used
  steps-used {t = t} (Releases q rest is (Some o) there) mapped =
      puts l stands used t.lane q.map (record o { stage = after_return q.map rest }) refl (λ n ne. refl)
      (unloaded-there l stands used q.map o there (returned-off l agrees.returns q rest is o there))
      (same-runs l stands used t.lane refl)
  steps-used (Calls m pages k) mapped = makes-used l stands used laid machine spaced (Next tt) k mapped

  turn-used : AreMapped l → (s : Side) (r : HubReply) → AreLoadRuns (by_reply (lane_step l s) r).lane
  turn-used mapped s r = steps-used (turn-steps l s r) (turn-mapped l stands laid machine spaced mapped s r)

-- ---- worlds

abbrev AllUsed : WorldState → Type 0
AllUsed w = EachDriver (λ i l. AreLoadRuns l) w

pub opens-used : (s : Scenario) → AllUsed (opening_world s)
opens-used s i l there t run live =
    let o = opening_at 0 (maxmem_of s.frames) s.drivers i l there in
    absurd (in-none run (subst (λ (k : LaneState). Contains (k.spaces t).runs run) o.opens live))

pub step-used : (s : Scenario) (w : WorldState) (actor : Actor) → IsWellFormed s w → AllUsed w →
    AllUsed (step w actor).world
step-used s w actor well all =
    each-step (λ i l. AreLoadRuns l) w actor
    (λ l o there. let d = well.each actor.lane.0 l there in
    turn-used l w.account d.stands d.agrees d.laid d.machine d.spaced (all actor.lane.0 l there) d.mapped actor.side
    o.reply)
    (λ j n off there. all j n there)

lead-used : (s : Scenario) (w : WorldState) (es : List JournalEntry) (end : WorldState) → IsWellFormed s w → AllUsed w →
    Leads w es end → AllUsed end
lead-used s w [] end well all h = subst AllUsed h all
lead-used s w (e ∷ es) end well all h =
    lead-used s (step w e.actor).world es end (step-keeps s w well e.actor) (step-used s w e.actor well all) h.1

pub journal-used : (s : Scenario) (es : List JournalEntry) (end : WorldState) → IsValid s →
    Leads (opening_world s) es end → AllUsed end
journal-used s es end valid h = lead-used s (opening_world s) es end (opens-well s valid) (opens-used s) h

-- ---- isolation

-- a page that is mapped to a frame is in a live run
record IsOfRun (rs : List DeviceRun) (f : ℕ) : Type 0 where
  run : DeviceRun
  live : Contains rs run
  place : ℕ
  at : slice_get run.frames place ≡ Some f

page-of-run : (rs : List DeviceRun) (p f : ℕ) → frame_of_page rs p ≡ Some f → IsOfRun rs f
page-of-run [] p f e = absurd (cc)
page-of-run (r ∷ rs) p f e = by (has_page p r) (page-of-run rs p f) e
  where
    by : (b : Bool) → (frame_of_page rs p ≡ Some f → IsOfRun rs f) →
        (if b then slice_get r.frames (p - r.first) else frame_of_page rs p) ≡ Some f → IsOfRun (r ∷ rs) f
    by true rest e = record { run = r; live = (0, omega arith, refl); place = p - r.first; at = e }
    by false rest e =
        let h = rest e in record {
          run = h.run;
          live = (suc h.live.0, omega (arith, h.live.1), h.live.2);
          place = h.place;
          at = h.at;
        }

-- a byte of a frame of the driver's is its own
pages-frame : (runs : List PageRun) (a b : ℕ) → a / 4096 ≡ b / 4096 → is_own runs a ≡ true → is_own runs b ≡ true
pages-frame [] a b e h = absurd (cc)
pages-frame (r ∷ rs) a b e h = by (within a) refl (pages-frame rs a b e) h
  where
    within : ℕ → Bool
    within x = nat_le (4096 * r.frame) x && nat_lt x (4096 * (r.frame + r.count))

    same : within a ≡ true → within b ≡ true
    same h =
        let parts = and_parts (nat_le (4096 * r.frame) a) (nat_lt a (4096 * (r.frame + r.count))) h in
        let low : 4096 * r.frame ≤ a = leb-true (4096 * r.frame) a parts.0 in
        let high : a < 4096 * (r.frame + r.count) = ltb-true a (4096 * (r.frame + r.count)) parts.1 in
        let low' : 4096 * r.frame ≤ b = omega (arith, low, e) in
        let high' : b < 4096 * (r.frame + r.count) = omega (arith, high, e) in
        rw (le-leb (4096 * r.frame) b low', lt-ltb b (4096 * (r.frame + r.count)) high') refl

    or-true : (x y : Bool) → y ≡ true → (x || y) ≡ true
    or-true true y h = refl
    or-true false y h = h

    by : (x : Bool) → within a ≡ x → (is_own rs a ≡ true → is_own rs b ≡ true) → (x || is_own rs a) ≡ true →
        is_own (r ∷ rs) b ≡ true
    by true q rest h = ap (λ x. x || is_own rs b) (same q)
    by false q rest h = or-true (within b) (is_own rs b) (rest h)

run-frame : (first count a b : ℕ) → first % 4096 ≡ 0 → a / 4096 ≡ b / 4096 → in_run first count a ≡ true →
    in_run first count b ≡ true
run-frame first count a b whole e h =
    let parts = and_parts (nat_le first a) (nat_lt a (first + 4096 * count)) h in
    let low : first ≤ a = leb-true first a parts.0 in
    let high : a < first + 4096 * count = ltb-true a (first + 4096 * count) parts.1 in
    let low' : first ≤ b = omega (arith, low, e, whole) in
    let high' : b < first + 4096 * count = omega (arith, high, e, whole) in
    rw (le-leb first b low', lt-ltb b (first + 4096 * count) high') refl

module _ (l : LaneState) (laid : AreLaid l) where
  own-frame : (a b : ℕ) → a / 4096 ≡ b / 4096 → IsOwnByte l a → IsHeld l b
  own-frame a b e (OfPages h) = record { by = ItsPages; held = pages-frame l.pages a b e h }
  own-frame a b e (OfMemory k x there h) = record {
    by = ItsMemory k;
    held =
        ap (λ o. option_map_or (λ (y : LaneMemory). in_run y.first y.count b) o false) there
        ∙ run-frame x.first x.count a b (laid.runs k x there).whole e h;
  }

  -- a byte of a load is the driver's own
  load-own : (m k a : ℕ) → slice_get (addresses_of (loan_of l.loans m).positions) k ≡ Some a →
      IsOwnByte l a
  load-own m k a at =
      by (slice_get (loan_of l.loans m).positions k) refl
      (sym (slice_get-map (λ (p : Position). p.pa) (loan_of l.loans m).positions k) ∙ at)
    where
      by : (o : Option Position) → slice_get (loan_of l.loans m).positions k ≡ o →
          option_map (λ (p : Position). p.pa) o ≡ Some a → IsOwnByte l a
      by None e g = absurd (cc)
      by (Some p) e g =
          let h : Load l laid m = load-of l laid m k p e in
          subst (IsOwnByte l) (found_one (Some p.pa) p.pa a refl g) (loadable-own l laid m p.pa (h.load.bytes k p e))

  device-held : AreLoadRuns l → (t addr byte : ℕ) → translated (l.spaces t) addr ≡ Some byte → IsHeld l byte
  device-held used t addr byte e = by (frame_of_page (l.spaces t).runs (addr / 4096)) refl e
    where
      by : (o : Option ℕ) → frame_of_page (l.spaces t).runs (addr / 4096) ≡ o →
          option_map (λ f. 4096 * f + addr % 4096) o ≡ Some byte → IsHeld l byte
      by None q e = absurd (cc)
      by (Some f) q e =
          let h = page-of-run (l.spaces t).runs (addr / 4096) f q in
          let u = used t h.run h.live in
          let x = u.frames h.place f h.at in
          let is : 4096 * f + addr % 4096 ≡ byte =
          found_one (Some (4096 * f + addr % 4096)) (4096 * f + addr % 4096) byte refl e in
          let same : x.byte / 4096 ≡ byte / 4096 = omega (arith, x.frame, is) in
          own-frame x.byte byte same (load-own u.map x.place x.byte x.at)

pub page-held : (s : Scenario) (w : WorldState) (i : ℕ) (l : LaneState) (t addr byte : ℕ) → IsWellFormed s w →
    AllUsed w →
    slice_get w.lanes i ≡ Some l → translated (l.spaces t) addr ≡ Some byte → IsHeld l byte
page-held s w i l t addr byte well all there e = device-held l (well.each i l there).laid (all i l there) t addr byte e

pub page-own : (s : Scenario) (w : WorldState) (i j : ℕ) (l k : LaneState) (t addr byte : ℕ) (other : Holder) →
    IsWellFormed s w → AllUsed w → slice_get w.lanes i ≡ Some l → slice_get w.lanes j ≡ Some k →
    translated (l.spaces t) addr ≡ Some byte → holds k other byte ≡ true → i ≡ j
page-own s w i j l k t addr byte other well all there too e h =
    let x = page-held s w i l t addr byte well all there e in
    (one-holder s w well i j l k there too x.by other byte x.held h).0
