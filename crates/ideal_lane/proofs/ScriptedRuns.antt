-- A run of a driver is one of the driver with more operations, as long as no turn finds the end of the script; and the
-- converse.
use Rattle.std.proofs.Common.{◌≡◌, ℕ, zero, suc, ◌<◌, Bool, true, false, if◌then◌else◌, List, [], ◌∷◌, ◌++◌, length}
use Rattle.std.proofs.Common.{Option, Some, None, refl, ap, sym, ◌∙◌, map, nat_lt, slice_get, subst, arith}
use Rattle.std.proofs.lemmas.Bool.Decides.{nat_tests}
use Rattle.std.specs.Option.{option_and_then}
use Rattle.busdma_machine.specs.declared.bounce.hold.HubCall.{HubCall}
use Rattle.busdma_machine.specs.declared.bounce.hold.HubReply.{HubReply}
use Rattle.busdma_base.specs.declared.journals.journal.Side.{Side}
use Rattle.busdma_base.specs.declared.journals.journal.Side.TheVariants as side
use Rattle.busdma_base.specs.declared.scenarios.script.Op.{Op}
use Rattle.lane_agreement.specs.View.{Return}
use Rattle.ideal_lane.specs.Asking.{Asking, Gives, Asks, by_reply, goes_on}
use Rattle.ideal_lane.specs.Callbacks.{IsRun, MadeStep}
use Rattle.ideal_lane.specs.Scripts.{AreBelow, LooksSame, NoneEnded, is_ended, is_step_below, looks_same, made_under}
use Rattle.ideal_lane.specs.Scripts.{turned_under, with_script}
use Rattle.ideal_lane.specs.Sends as sends
use Rattle.ideal_lane.specs.State.{LaneState}
use Rattle.ideal_lane.specs.Turns.{Turned, due_turn, lane_step, next_operation, operation, script_turn, waits, went_on}
use Rattle.ideal_lane.specs.Turns as turns
use Rattle.ideal_lane.proofs.Effects.{Steps, Stays, Advances, Keeps, Declines, Resends, Releases, IsStay}
use Rattle.ideal_lane.proofs.Effects.{NothingLeft}
use Rattle.ideal_lane.proofs.Own.{turn-own}
use Rattle.ideal_lane.proofs.ScriptLaws.{turn-same, waits-same}
use Rattle.ideal_lane.proofs.Stepping.{turn-steps}

-- ---- what a longer list has at a place

pub found-before : {X : Type 0} (xs ys : List X) (k : ℕ) (x : X) → slice_get xs k ≡ Some x →
    slice_get (xs ++ ys) k ≡ Some x
found-before [] ys k x e = absurd (cc)
found-before (z ∷ xs) ys zero x e = e
found-before (z ∷ xs) ys (suc k) x e = found-before xs ys k x e

pub same-before : {X : Type 0} (xs ys : List X) (k : ℕ) → k < length xs → slice_get (xs ++ ys) k ≡ slice_get xs k
same-before [] ys k lt = absurd (omega (arith, lt))
same-before (z ∷ xs) ys zero lt = refl
same-before (z ∷ xs) ys (suc k) lt = same-before xs ys k (omega (arith, lt))

pub found-behind : {X : Type 0} (xs : List X) (x : X) → slice_get (xs ++ x ∷ []) (length xs) ≡ Some x
found-behind [] x = refl
found-behind (z ∷ xs) x = found-behind xs x

-- the result of a step that is made into another thing
pub by-other : {X Y : Type 0} (f : X → Y) (x : Asking X) (r : HubReply) → by_reply (goes_on f x) r ≡ f (by_reply x r)
by-other f (Gives x) r = refl
by-other f (Asks c k) r = refl

-- ---- one step

module _ (l : LaneState) (r : HubReply) where
  -- if the script has no operation at its place, and no page is to go back, its turn finds the end
  ends : slice_get l.script l.place ≡ None → is_ended (by_reply (due_turn (sends.due_send l) l) r).turn ≡ true
  ends none =
      ap (λ q. is_ended (by_reply (due_turn q l) r).turn) undue
      ∙ ap (λ o. is_ended (by_reply (next_operation o l) r).turn) none
    where
      by : (b : Bool) → (if b then option_and_then sends.send_of None else None) ≡ None
      by true = refl
      by false = refl

      undue : sends.due_send l ≡ None
      undue = ap (λ o. if l.due then option_and_then sends.send_of o else None) none ∙ by l.due

  module _ (more : List Op) where
    next-looks : (o : Option Op) → slice_get l.script l.place ≡ o →
        is_ended (by_reply (due_turn (sends.due_send l) l) r).turn ≡ false →
        slice_get (l.script ++ more) l.place ≡ slice_get l.script l.place
    next-looks None e going = let over = ends e in absurd (cc)
    next-looks (Some o) e going = found-before l.script more l.place o e ∙ sym e

    script-looks : (rs : List Return) → is_ended (by_reply (script_turn rs l) r).turn ≡ false →
        looks_same side.Script rs (l.script ++ more) l
    script-looks [] going = next-looks (slice_get l.script l.place) refl going
    script-looks (q ∷ rest) going = tt

    -- a turn that does not find the end of the script looks at nothing after it
    pub looks : (s : Side) → is_ended (by_reply (lane_step l s) r).turn ≡ false → LooksSame s (l.script ++ more) l
    looks side.Script going = script-looks l.returns going
    looks side.Transfer going = tt
    looks side.Callback going = tt

  -- a step of the script that is below n, with no page to go back, is at a place below n
  module _ (n : ℕ) where
    no-stay : {c : Option HubCall} {t : turns.Turn} → IsStay c r t → is_step_below n t ≡ true → l.place < n
    no-stay NothingLeft below = absurd (cc)
    no-stay _ below = absurd (cc)

    lower : nat_lt l.place n ≡ true → l.place < n
    lower e = grind (arith, nat_tests, e)

    at-below : {c : Option HubCall} {t : Turned} → Steps l side.Script c r t → l.returns ≡ [] →
        is_step_below n t.turn ≡ true → l.place < n
    at-below (Stays t is) none below = no-stay is below
    at-below (Advances o at free m) none below = lower below
    at-below (Keeps o at free s is big held m) none below = lower below
    at-below (Declines s now x declined) none below = lower below
    at-below (Resends s now k untold m) none below = lower below
    at-below (Releases q rest e o there) none below = let off : [] ≡ q ∷ rest = sym none ∙ e in absurd (cc)

  -- a step below n looks at nothing after the n operations of a shorter script
  pub looks-below : (base more : List Op) → l.script ≡ base ++ more → (s : Side) →
      is_step_below (length base) (by_reply (lane_step l s) r).turn ≡ true → LooksSame s base l
  looks-below base more is s low = at s (turn-steps l s r) low
    where
      at : (s : Side) {c : Option HubCall} {t : Turned} → Steps l s c r t →
          is_step_below (length base) t.turn ≡ true → LooksSame s base l
      at side.Script k low = by l.returns refl
        where
          by : (rs : List Return) → l.returns ≡ rs → looks_same side.Script rs base l
          by [] e =
              sym (same-before base more l.place (at-below (length base) k e low))
              ∙ ap (λ s. slice_get s l.place) (sym is)
          by (q ∷ rest) e = tt
      at side.Transfer k low = tt
      at side.Callback k low = tt

-- ---- runs

module _ (base more : List Op) where
  abbrev whole : List Op
  whole = base ++ more

  -- a driver whose script is the shorter one
  pub runs-longer : (l : LaneState) (ms : List MadeStep) → l.script ≡ base → IsRun l ms → NoneEnded ms →
      IsRun (with_script whole l) (map (made_under whole) ms)
  runs-longer l [] is run going = tt
  runs-longer l (m ∷ ms) is run going =
      let open-turn : is_ended (by_reply (lane_step l m.side) m.reply).turn ≡ false =
      ap (λ t. is_ended t.turn) (sym run.0) ∙ going.0 in
      let at : LooksSame m.side whole l =
      subst (λ s. LooksSame m.side (s ++ more) l) is (looks l m.reply more m.side open-turn) in
      let step : lane_step (with_script whole l) m.side ≡ goes_on (turned_under whole) (lane_step l m.side) =
      turn-same whole l m.side at in
      let turned : turned_under whole m.turned ≡ by_reply (lane_step (with_script whole l) m.side) m.reply =
      ap (turned_under whole) run.0
      ∙ (sym (by-other (turned_under whole) (lane_step l m.side) m.reply) ∙ ap (λ x. by_reply x m.reply) (sym step)) in
      let own = turn-own l m.side m.reply in
      let same : m.turned.lane.script ≡ base = ap (λ t. t.lane.script) run.0 ∙ (own.later.same_script ∙ is) in
      (turned, runs-longer m.turned.lane ms same run.1 going.1)

  -- a driver whose script is the longer one
  pub runs-shorter : (l : LaneState) (ms : List MadeStep) → l.script ≡ whole → IsRun l ms → AreBelow (length base) ms →
      IsRun (with_script base l) (map (made_under base) ms)
  runs-shorter l [] is run below = tt
  runs-shorter l (m ∷ ms) is run below =
      let own = turn-own l m.side m.reply in
      let same : m.turned.lane.script ≡ whole = ap (λ t. t.lane.script) run.0 ∙ (own.later.same_script ∙ is) in
      let step : lane_step (with_script base l) m.side ≡ goes_on (turned_under base) (lane_step l m.side) =
      turn-same base l m.side (looks-below l m.reply base more is m.side
      (ap (λ t. is_step_below (length base) t.turn) (sym run.0) ∙ below.0)) in
      let turned : turned_under base m.turned ≡ by_reply (lane_step (with_script base l) m.side) m.reply =
      ap (turned_under base) run.0
      ∙ (sym (by-other (turned_under base) (lane_step l m.side) m.reply) ∙ ap (λ x. by_reply x m.reply) (sym step)) in
      (turned, runs-shorter m.turned.lane ms same run.1 below.1)

-- ---- a driver whose script has ended gets one more operation

module _ (l : LaneState) (o : Op) where
  -- the added operation is the driver's next
  abbrev next : LaneState
  next = with_script (l.script ++ o ∷ []) l

  pub next-is : l.place ≡ length l.script → l.returns ≡ [] → l.due ≡ false → waits o l ≡ false →
      lane_step next side.Script ≡ goes_on (went_on o l.place) (operation o next)
  next-is at none undue free =
      let there : slice_get (l.script ++ o ∷ []) l.place ≡ Some o =
      ap (slice_get (l.script ++ o ∷ [])) at ∙ found-behind l.script o in
      ap (λ rs. script_turn rs next) none
      ∙ (ap (λ b. due_turn (if b then sends.send_at next.script l.place else None) next) undue
      ∙ (ap (λ q. next_operation q next) there
      ∙ ap (λ b. if b then Gives (turns.stays turns.Blocked next) else goes_on (went_on o l.place) (operation o next))
      (waits-same next.script l o ∙ free)))
