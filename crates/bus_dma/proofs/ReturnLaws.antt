-- How pages go back to their zones.
use Rattle.std.proofs.Common.{◌≡◌, ℕ, ◌+◌, Bool, true, false, List, [], ◌∷◌, length, Option, Some, None, refl, sym}
use Rattle.std.proofs.Common.{ap}
use Rattle.std.proofs.Common.{arith, subst, inl, inr, ◌&&◌, ◌==◌, not, is_some, slice_get}
use Rattle.std.specs.FinMap.{get}
use Rattle.busdma_base.specs.declared.journals.journal.Side.TheVariants as side
use Rattle.busdma_machine.specs.declared.bounce.hold.HubCall.TheVariants.{Release, TakeCallback}
use Rattle.busdma_machine.specs.Bounce.Door.{Seen}
use Rattle.ideal_lane.specs.State.{LaneState, LaneMap, Stage, named}
use Rattle.ideal_lane.specs.Turns.{Turned, lane_step, script_turn}
use Rattle.ideal_lane.specs.Unloads.{given_back, restaged}
use Rattle.driver_laws.specs.Steps.{KeepsContents}
use Rattle.driver_laws.proofs.Differing.{then-keeps}
use Rattle.lane_agreement.specs.View.{Return}
use Rattle.lane_core.specs.Appending.{is_ready}
use Rattle.lane_turns.specs.TakenTurns.{IsTurned}
use Rattle.bus_dma.specs.Returns.{IsReleased, IsReturned, is_at_end}

-- ---- readiness

-- a driver whose script has ended is ready once no page is to go back
pub ready-empty : (l : LaneState) → is_at_end l ≡ true → l.returns ≡ [] → is_ready l ≡ true
ready-empty l ended empty = by (l.place == length l.script) (not l.due) l.returns ended empty
  where
    by : {X : Type 0} (a b : Bool) (rs : List X) → (a && b) ≡ true → rs ≡ [] →
        (a && (b && not (is_some (slice_get rs 0)))) ≡ true
    by true true [] e f = refl
    by true true (r ∷ rs) e f = absurd (cc)
    by true false rs e f = absurd (cc)
    by false b rs e f = absurd (cc)

-- one that is not ready has a page to give back
pub unready-some : (l : LaneState) → is_at_end l ≡ true → is_ready l ≡ false → l.returns ≡ [] → ⊥
unready-some l ended unready empty = let on : is_ready l ≡ true = ready-empty l ended empty in absurd (cc)

-- ---- a page goes back

restaged-ended : (m : ℕ) (o : Option LaneMap) (s : Stage) (l : LaneState) (rest : List Return) →
    is_at_end l ≡ true → is_at_end (record (restaged m o s l) { returns = rest }) ≡ true
restaged-ended m None s l rest e = e
restaged-ended m (Some o) s l rest e = e

pub given-ended : (r : Return) (rest : List Return) (l : LaneState) → is_at_end l ≡ true →
    is_at_end (given_back r rest l) ≡ true
given-ended r rest l e = restaged-ended r.map (get l.maps r.map) _ l rest e

module _ (d e : Seen) (l : LaneState) (x : Turned) (held : Bool) where
  abbrev Turns : Type 0
  Turns = IsTurned d l.id (lane_step l side.Script) x held e

  turned-at : (rs : List Return) → l.returns ≡ rs → Turns → IsTurned d l.id (script_turn rs l) x held e
  turned-at rs is t = subst (λ rs. IsTurned d l.id (script_turn rs l) x held e) is t

  first-released : (rs : List Return) → (rs ≡ [] → ⊥) → IsTurned d l.id (script_turn rs l) x held e →
      IsReleased rs d l x.lane e
  first-released [] some t = absurd (some refl)
  first-released (r ∷ rest) some (inl t) =
      record { reply = t.1.reply; holds = t.1.holds; is = ap (λ (t : Turned). t.lane) t.1.is }
  first-released (r ∷ rest) some (inr t) =
      let off : Release (named l r.map) (record { 0 = r.zone }) (record { 0 = r.page }) ≡ TakeCallback = t.1.callback in
      absurd (cc)

  pub turn-released : (l.returns ≡ [] → ⊥) → Turns → IsReleased l.returns d l x.lane e
  turn-released some t = first-released l.returns some t

-- the driver after it
pub released-is : (rs : List Return) (d e : Seen) (l n : LaneState) → IsReleased rs d l n e →
    (r : Return) × ((rest : List Return) × ((rs ≡ r ∷ rest) × (n ≡ given_back r rest l)))
released-is [] d e l n t = absurd t
released-is (r ∷ rest) d e l n t = (r, (rest, (refl, t.is)))

pub released-ended : (rs : List Return) (d e : Seen) (l n : LaneState) → IsReleased rs d l n e → is_at_end l ≡ true →
    is_at_end n ≡ true
released-ended rs d e l n t ended =
    let is = released-is rs d e l n t in
    subst (λ m. is_at_end m ≡ true) (sym is.1.1.1) (given-ended is.0 is.1.0 l ended)

-- it has one page fewer to give back
pub released-fewer : (rs : List Return) (d e : Seen) (l n : LaneState) → IsReleased rs d l n e →
    length rs ≡ length n.returns + 1
released-fewer rs d e l n t =
    let is = released-is rs d e l n t in
    omega (arith, ap length is.1.1.0, ap (λ (m : LaneState). length m.returns) is.1.1.1)

-- one more page, and then the others
pub returned-next : (rs : List Return) (d e f : Seen) (l m n : LaneState) → IsReleased rs d l m e →
    IsReturned m.returns e m n f → IsReturned rs d l n f
returned-next [] d e f l m n one rest = absurd one
returned-next (r ∷ rs) d e f l m n one rest =
    let P : List Return → Type 0 = λ rs. IsReturned rs e m n f in
    (m, (e, (one, subst P (ap (λ (x : LaneState). x.returns) one.is) rest)))

-- no page is left
pub returned-none : (rs : List Return) (d : Seen) (l : LaneState) → rs ≡ [] → IsReturned rs d l l d
returned-none [] d l e = (refl, refl)
returned-none (r ∷ rs) d l e = absurd (cc)

-- ---- pages that go back change no byte

restaged-keeps : (m : ℕ) (o : Option LaneMap) (s : Stage) (l : LaneState) (rest : List Return) →
    KeepsContents l (record (restaged m o s l) { returns = rest })
restaged-keeps m None s l rest = record { pages = refl; mems = refl; memory = refl }
restaged-keeps m (Some o) s l rest = record { pages = refl; mems = refl; memory = refl }

pub returned-keeps : (rs : List Return) (d : Seen) (l n : LaneState) (e : Seen) → IsReturned rs d l n e →
    KeepsContents l n
returned-keeps [] d l n e back = record {
  pages = ap (λ (x : LaneState). x.pages) back.0;
  mems = ap (λ (x : LaneState). x.mems) back.0;
  memory = ap (λ (x : LaneState). x.memory) back.0;
}
returned-keeps (r ∷ rest) d l n e back =
    let m : LaneState = back.0 in
    let released : m ≡ given_back r rest l = back.1.1.0.is in
    then-keeps l m n (subst (KeepsContents l) (sym released) (restaged-keeps r.map (get l.maps r.map) _ l rest))
    (returned-keeps rest back.1.0 m n e back.1.1.1)
