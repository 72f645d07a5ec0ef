-- What a driver does, and what it calls, follows from whose turns it were and from the replies to its own calls.
use Rattle.std.proofs.Common.{◌≡◌, List, [], ◌∷◌, Some, None, refl, sym, ap, ◌∙◌, subst, unwrap_or}
use Rattle.busdma_machine.specs.declared.bounce.hold.HoldEntry.{HoldEntry}
use Rattle.busdma_machine.specs.declared.bounce.hold.HubReply.TheVariants.{Nothing}
use Rattle.busdma_base.specs.declared.journals.journal.JournalEntry.{JournalEntry}
use Rattle.ideal_lane.specs.Asking.{call_of, by_reply}
use Rattle.ideal_lane.specs.State.{LaneState}
use Rattle.ideal_lane.specs.Turns.{Turned, Stepped, lane_step}
use Rattle.ideal_runs.specs.declared.logged_step.LoggedStep.TheVariants.{Local, Held}
use Rattle.ideal_runs.specs.Runs.{Log, Runs, StepsAlone, StepsBy}
use Rattle.ideal_runs.specs.Sides.{sides_of, hold_calls, replies_of}

abbrev stepped : LaneState → JournalEntry → Turned
stepped m e = record { lane = m; turn = Stepped e }

-- one turn leaves one state and has one entry
one-lane : (k j : LaneState) (e f : JournalEntry) → stepped k e ≡ stepped j f → k ≡ j
one-lane k j e f same = ap (λ (t : Turned). t.lane) same

one-entry : (k j : LaneState) (e f : JournalEntry) → stepped k e ≡ stepped j f → e ≡ f
one-entry k j e f same = by (ap (λ (t : Turned). t.turn) same)
  where
    by : Stepped e ≡ Stepped f → e ≡ f
    by h = cc

-- a step that makes no call is no step that holds
no-call : (l : LaneState) (e f : JournalEntry) (k j : LaneState) (h : HoldEntry) → e.actor.side ≡ f.actor.side →
    StepsAlone l e k → StepsBy h l f j → ⊥
no-call l e f k j h same alone by =
    let gone : None ≡ Some h.call =
    sym (ap call_of alone) ∙ ap (λ d. call_of (lane_step l d)) same ∙ by.call in
    cc

-- the logs, the calls and the last states of two runs are the same
pub record AreOne (log log' : Log) (hs hs' : List HoldEntry) (m m' : LaneState) : Type 0 where
  pub steps : log ≡ log'
  pub calls : hold_calls hs ≡ hold_calls hs'
  pub last : m ≡ m'

pub runs-agree : (log log' : Log) (hs hs' : List HoldEntry) (l m m' : LaneState) → Runs l log hs m →
    Runs l log' hs' m' → sides_of log ≡ sides_of log' → replies_of hs ≡ replies_of hs' → AreOne log log' hs hs' m m'
runs-agree [] [] [] [] l m m' r r' sides replies = record { steps = refl; calls = refl; last = sym r ∙ r' }
runs-agree [] [] [] (g ∷ hs') l m m' r r' sides replies = absurd r'
runs-agree [] [] (h ∷ hs) hs' l m m' r r' sides replies = absurd r
runs-agree [] (y ∷ log') hs hs' l m m' r r' sides replies = absurd (cc)
runs-agree (x ∷ log) [] hs hs' l m m' r r' sides replies = absurd (cc)
runs-agree (Local e ∷ log) (Local f ∷ log') hs hs' l m m' r r' sides replies =
    let side : e.actor.side ≡ f.actor.side = cc in
    let tail : sides_of log ≡ sides_of log' = cc in
    let one : stepped r.0 e ≡ stepped r'.0 f =
    ap (λ x. by_reply x Nothing) (sym r.1 ∙ ap (lane_step l) side ∙ r'.1) in
    let rest = runs-agree log log' hs hs' r.0 m m' r.2
    (subst (λ k. Runs k log' hs' m') (sym (one-lane r.0 r'.0 e f one)) r'.2) tail replies in
    record {
      steps = ap (λ x. Local x ∷ log) (one-entry r.0 r'.0 e f one) ∙ ap (λ t. Local f ∷ t) rest.steps;
      calls = rest.calls;
      last = rest.last;
    }
runs-agree (Local e ∷ log) (Held f ∷ log') hs [] l m m' r r' sides replies = absurd r'
runs-agree (Local e ∷ log) (Held f ∷ log') hs (g ∷ hs') l m m' r r' sides replies =
    let side : e.actor.side ≡ f.actor.side = cc in
    absurd (no-call l e f r.0 r'.0 g side r.1 r'.1)
runs-agree (Held e ∷ log) (Local f ∷ log') [] hs' l m m' r r' sides replies = absurd r
runs-agree (Held e ∷ log) (Local f ∷ log') (h ∷ hs) hs' l m m' r r' sides replies =
    let side : f.actor.side ≡ e.actor.side = cc in
    absurd (no-call l f e r'.0 r.0 h side r'.1 r.1)
runs-agree (Held e ∷ log) (Held f ∷ log') [] hs' l m m' r r' sides replies = absurd r
runs-agree (Held e ∷ log) (Held f ∷ log') (h ∷ hs) [] l m m' r r' sides replies = absurd r'
runs-agree (Held e ∷ log) (Held f ∷ log') (h ∷ hs) (g ∷ hs') l m m' r r' sides replies =
    let side : e.actor.side ≡ f.actor.side = cc in
    let tail : sides_of log ≡ sides_of log' = cc in
    let reply : h.reply ≡ g.reply = cc in
    let more : replies_of hs ≡ replies_of hs' = cc in
    let one : stepped r.0 e ≡ stepped r'.0 f = sym r.1.turned
    ∙ ap (λ d. by_reply (lane_step l d) h.reply) side
    ∙ ap (by_reply (lane_step l f.actor.side)) reply ∙ r'.1.turned in
    let called : Some h.call ≡ Some g.call =
    sym r.1.call ∙ ap (λ d. call_of (lane_step l d)) side ∙ r'.1.call in
    let rest = runs-agree log log' hs hs' r.0 m m' r.2
    (subst (λ k. Runs k log' hs' m') (sym (one-lane r.0 r'.0 e f one)) r'.2) tail more in
    record {
      steps = ap (λ x. Held x ∷ log) (one-entry r.0 r'.0 e f one) ∙ ap (λ t. Held f ∷ t) rest.steps;
      calls = ap (λ c. c ∷ hold_calls hs) (ap (λ o. unwrap_or o h.call) called) ∙ ap (λ t. g.call ∷ t) rest.calls;
      last = rest.last;
    }
