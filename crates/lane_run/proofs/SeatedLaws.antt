-- The drivers with which a scenario opens may be seated, and rounds leave all in their places.
use Rattle.std.proofs.Common.{◌≡◌, ℕ, suc, ◌+◌, ◌<◌, ◌≤◌, List, [], ◌∷◌, ◌++◌, length, map, All, Option, Some, refl}
use Rattle.std.proofs.Common.{sym, ap, ◌∙◌, subst, arith, slice_get, slice_index_or, eq-eqb}
use Rattle.std.proofs.lemmas.List.Elements.{All-nil, All-cons}
use Rattle.busdma_machine.specs.declared.bounce.hold.HoldEntry.{HoldEntry}
use Rattle.busdma_base.specs.declared.scenarios.scenario.Scenario.{Scenario}
use Rattle.busdma_machine.specs.Bounce.Account.{Account}
use Rattle.busdma_machine.specs.Bounce.LaneEntries.{of_lane}
use Rattle.busdma_base.specs.Scenarios.Opening.{maxmem_of, opening}
use Rattle.busdma_base.specs.Scenarios.Valid.{IsValid}
use Rattle.busdma_base.proofs.OpeningLaws.{below-opening}
use Rattle.busdma_base.proofs.OpeningLaws.{opening-may_begin}
use Rattle.turnstile.specs.declared.view.Start.{Start}
use Rattle.turnstile.specs.Pass.{SplitsOff}
use Rattle.turnstile.specs.Start.{start_of}
use Rattle.ideal_lane.specs.Agreement.{AgreesWith}
use Rattle.ideal_lane.specs.Opening.{opening_lane}
use Rattle.ideal_lane.specs.State.{LaneState}
use Rattle.ideal_lane.proofs.OpeningLaws.{opens-agreeing}
use Rattle.ideal_world.specs.World.{opening_world}
use Rattle.ideal_world.proofs.Lanes.{length-opening_lanes, opening_at}
use Rattle.lane_core.specs.declared.lane.Lane.{Lane}
use Rattle.lane_core.specs.LaneIdeal.{ideal}
use Rattle.lane_state.specs.Served.{IsServed}
use Rattle.lane_threads.specs.Closing.{LanePass}
use Rattle.lane_threads.specs.PassDoor as pass
use Rattle.lane_threads.specs.PassDoor.{seen_from}
use Rattle.lane_rounds.specs.AtWork.{GoesOn, Place, Works}
use Rattle.lane_run.specs.Seated.{AreFresh, AreSeated, IsFreshlySeated, IsSeated, Seat}

-- the start of a turnstile round the hub with which a scenario opens
abbrev pub started : ℕ → Scenario → Option (Start HoldEntry Account)
started names s = Some (start_of names [] (opening s))

module _ (s : Scenario) (valid : IsValid s) (names : ℕ) (first : LanePass) (start : first.start ≡ started names s)
    (front : first.front ≡ []) where
  fresh-driver : (i : ℕ) (l : LaneState) → slice_get (opening_world s).lanes i ≡ Some l → IsFreshlySeated first i l
  fresh-driver i l there =
      let o = opening_at 0 (maxmem_of s.frames) s.drivers i l there in
      let zero_plus : 0 + i ≡ i = omega arith in
      let number : l.id ≡ i = ap (λ (x : LaneState). x.id) o.opens ∙ zero_plus in
      let opens : l ≡ opening_lane i (maxmem_of s.frames) o.driver =
      o.opens ∙ ap (λ n. opening_lane n (maxmem_of s.frames) o.driver) zero_plus in
      let begins = opening-may_begin s valid in
      let served : IsServed l (seen_from (started names s) (i + 1) []) = record {
        served = eq-eqb (l.id + 1) (i + 1) (ap (λ n. n + 1) number);
        opening = begins;
        below = below-opening s;
        sound = tt;
        agrees =
            subst (λ (x : LaneState). AgreesWith x (opening s)) (sym opens)
            (opens-agreeing s i o.driver begins o.there);
      } in
      record {
        number = number;
        served = subst (λ (x : Option (Start HoldEntry Account) × List (ℕ × HoldEntry)). IsServed l
            (seen_from x.0 (i + 1) x.1))
            (λ k. (sym start k, sym front k)) served;
        none = (λ k. of_lane l.id (seen_from (start k) (i + 1) (front k)).history);
      }

  fresh-from : (j : ℕ) (ls : List Lane) →
      ((i : ℕ) (l : LaneState) → slice_get (map ideal ls) i ≡ Some l → IsFreshlySeated first (j + i) l) →
      AreFresh first j ls
  fresh-from j [] f = tt
  fresh-from j (l ∷ ls) f =
      let here : j + 0 ≡ j = omega arith in (
        subst (λ n. IsFreshlySeated first n (ideal l)) here (f 0 (ideal l) refl),
        fresh-from (j + 1) ls (λ i k there.
            let next : j + suc i ≡ (j + 1) + i = omega arith in subst (λ n. IsFreshlySeated first n k) next
            (f (suc i) k there)),
      )

  -- all drivers of the scenario may be seated
  pub fresh : (ls : List Lane) → map ideal ls ≡ (opening_world s).lanes → AreFresh first 0 ls
  fresh ls opened =
      fresh-from 0 ls (λ i l there.
      let zero_plus : i ≡ 0 + i = omega arith in
      subst (λ n. IsFreshlySeated first n l) zero_plus
      (fresh-driver i l (ap (λ ks. slice_get ks i) (sym opened) ∙ there)))

-- a scenario has few drivers
pub few-lanes : (s : Scenario) (ls : List Lane) → IsValid s → map ideal ls ≡ (opening_world s).lanes → length ls ≤ 16
few-lanes s ls valid opened =
    omega (
      arith,
      ap length opened,
      length-ideal ls,
      length-opening_lanes 0 (maxmem_of s.frames) s.drivers,
      valid.few_drivers,
    )
  where
    length-ideal : (ks : List Lane) → length (map ideal ks) ≡ length ks
    length-ideal [] = refl
    length-ideal (k ∷ ks) = ap suc (length-ideal ks)

-- ---- one driver is seated

module _ (first new : LanePass) (name i : ℕ) (l : LaneState) (split : SplitsOff name first new) (number : name ≡ i + 1)
    (fresh : IsFreshlySeated first i l) where
  same-seen : pass.seen new ≡ seen_from first.start (i + 1) first.front
  same-seen = ap pass.seen split.is ∙ ap (λ n. seen_from first.start n first.front) number

  pub seat-served : IsServed l (pass.seen new)
  seat-served = subst (IsServed l) (sym same-seen) fresh.served

  pub seat-none : of_lane l.id (pass.seen new).history ≡ []
  seat-none = ap (λ d. of_lane l.id d.history) same-seen ∙ fresh.none

pub seated-more : (first : LanePass) (ls : List Lane) (ws : List Seat) (l : Lane) (w : Seat) →
    AreSeated first ls ws → IsSeated first l w → AreSeated first (ls ++ l ∷ []) (ws ++ w ∷ [])
seated-more first [] [] l w h one = (one, tt)
seated-more first (k ∷ ls) (v ∷ ws) l w h one = (h.0, seated-more first ls ws l w h.1 one)
seated-more first _ _ l w h one = absurd h

-- all are at work
pub seated-work : (first : LanePass) (ls : List Lane) (ws : List Seat) → AreSeated first ls ws → All (Works pass.seen)
    ws
seated-work first [] [] h = All-nil (Works pass.seen)
seated-work first (l ∷ ls) (w ∷ ws) h = All-cons (Works pass.seen) w ws h.0.works (seated-work first ls ws h.1)
seated-work first _ _ h = absurd h

-- ---- rounds

abbrev pub Rounded : List Seat → List Seat → Type 0
Rounded before after =
    (i : ℕ) (w : Seat) → i < length before →
    GoesOn pass.seen pass.door_place (slice_index_or before i w) (slice_index_or after i w)

pub rounded-first : (ws : List Seat) → All (Works pass.seen) ws → Rounded ws ws
rounded-first ws works = λ i w below. record { works = works i w below; place = refl }

pub rounded-next : (us vs ws : List Seat) → length vs ≡ length us → Rounded us vs → Rounded vs ws → Rounded us ws
rounded-next us vs ws count first next = λ i w below.
    let a = first i w below in let b = next i w (omega (arith, below, count)) in
    record { works = b.works; place = b.place ∙ a.place }

pub rounded-works : (us vs : List Seat) → length vs ≡ length us → Rounded us vs → All (Works pass.seen) vs
rounded-works us vs count h = λ i w below. (h i w (omega (arith, below, count))).works

-- rounds leave all in their places
pub seated-stays : (first : LanePass) (ls : List Lane) (ws vs : List Seat) → AreSeated first ls ws →
    length vs ≡ length ws → Rounded ws vs → AreSeated first ls vs
seated-stays first [] [] [] h n same = tt
seated-stays first [] [] (v ∷ vs) h n same = absurd (let z : suc (length vs) ≡ 0 = n in omega arith)
seated-stays first (l ∷ ls) (w ∷ ws) [] h n same = absurd (let z : 0 ≡ suc (length ws) = n in omega arith)
seated-stays first (l ∷ ls) (w ∷ ws) (v ∷ vs) h n same =
    let e : GoesOn pass.seen pass.door_place w v = same 0 w (omega arith) in (
      record {
        works = e.works;
        began = ap (λ (p : Place pass.Place). p.first) e.place ∙ h.0.began;
        turnstile = ap (λ (p : Place pass.Place). p.fixed.turnstile) e.place ∙ h.0.turnstile;
        start = ap (λ (p : Place pass.Place). p.fixed.start) e.place ∙ h.0.start;
      },
      seated-stays first ls ws vs h.1 (omega (arith, n)) (λ i u below. same (suc i) u (omega (arith, below))),
    )
seated-stays first _ _ vs h n same = absurd h
