-- What a turn whose answer is an errno, or that could make no tag or map, leaves of the world.
use Rattle.std.proofs.Common.{◌≡◌, ℕ, ◌+◌, Bool, true, false, if◌then◌else◌, List, [], ◌∷◌, drop, Option, Some, None}
use Rattle.std.proofs.Common.{is_some, refl, sym}
use Rattle.std.proofs.Common.{ap, ◌∙◌, subst, slice_get, slice_set}
use Rattle.std.specs.FinMap.{get}
use Rattle.std.specs.Option.{option_and_then, option_map, option_map_or}
use Rattle.busdma_machine.specs.declared.bounce.hold.HubCall.TheVariants.{TakeCallback}
use Rattle.busdma_machine.specs.declared.bounce.hold.HubReply.{HubReply}
use Rattle.busdma_machine.specs.declared.bounce.hold.HubReply.TheVariants as reply
use Rattle.busdma_machine.specs.declared.bounce.zone.Grown.{Grown as GrownBy}
use Rattle.busdma_machine.specs.declared.machine.address.Pa.{Pa}
use Rattle.busdma_machine.specs.declared.name.MapId.{MapId}
use Rattle.busdma_machine.specs.declared.report.Errno.{Errno}
use Rattle.busdma_machine.specs.declared.report.Errno.TheVariants as errno
use Rattle.busdma_machine.specs.declared.tags.tag.TagLimits.{TagLimits}
use Rattle.busdma_machine.specs.Bounce.Account.{Account}
use Rattle.busdma_machine.specs.Bounce.AccountStep.{AccountReply, account_step}
use Rattle.busdma_base.specs.declared.journals.answer.Answer.{Answer}
use Rattle.busdma_base.specs.declared.journals.answer.Answer.TheVariants as answer
use Rattle.busdma_base.specs.declared.journals.journal.Actor.{Actor}
use Rattle.busdma_base.specs.declared.journals.journal.Did.{Did}
use Rattle.busdma_base.specs.declared.journals.journal.Did.TheVariants as did
use Rattle.busdma_base.specs.declared.journals.journal.JournalEntry.{JournalEntry}
use Rattle.busdma_base.specs.declared.journals.journal.Side.{Side}
use Rattle.busdma_base.specs.declared.journals.journal.Side.TheVariants as side
use Rattle.busdma_base.specs.declared.scenarios.queued.QueuedItem.{QueuedItem}
use Rattle.busdma_base.specs.declared.scenarios.scenario.Scenario.{Scenario}
use Rattle.busdma_base.specs.declared.scenarios.script.Op.{Op}
use Rattle.busdma_base.specs.Scenarios.Operations.{items_of}
use Rattle.lane_agreement.specs.After.{addresses_of_pages}
use Rattle.lane_agreement.specs.View.{Return}
use Rattle.ideal_lane.specs.Asking.{Asking, Gives, Asks, goes_on}
use Rattle.ideal_lane.specs.Loads.{unpaged}
use Rattle.ideal_lane.specs.Outcomes.{Outcome}
use Rattle.ideal_lane.specs.Reported.{behind, gone_on}
use Rattle.ideal_lane.specs.Sends.{Send, copied, due_send, is_kept, is_too_big, resend, send_at, send_of}
use Rattle.ideal_lane.specs.State.{LaneState, LaneMap}
use Rattle.ideal_lane.specs.Turns.{Turn, Turned, Stepped, Blocked, Ended, advanced, at_next, called, called_back}
use Rattle.ideal_lane.specs.Turns.{due_turn, kept}
use Rattle.ideal_lane.specs.Turns.{lane_step, left_queue, next_operation, operation, resent, script_turn, stays}
use Rattle.ideal_lane.specs.Turns.{transfer}
use Rattle.ideal_lane.specs.Turns.{transfer_turn, waits, went_on}
use Rattle.ideal_wire.specs.Answered.{Load, load_asked_by}
use Rattle.ideal_world.specs.WellFormed.{IsWellFormed}
use Rattle.ideal_world.specs.World.{WorldState, WorldTurned, entry_of, replied, step, step_entry, step_of}
use Rattle.ideal_world.proofs.Keeping.{fits}
use Rattle.ideal_laws.specs.Refusals.{IsDeferred, IsTooBig, IsUnmade, Leaves, map_loaded, refused_load, tried_at}
use Rattle.ideal_laws.specs.Refusals.{tried_by}
use Rattle.ideal_laws.proofs.Leaving.{Agreed, Left, LeftBy, LeftErrno, LeftIn, Loading, OfLoad, OfNone}
use Rattle.ideal_laws.proofs.Leaving.{loading_map, loading_of, loads-map, of-operation, operation-left}
use Rattle.ideal_laws.proofs.LeavingAgain.{callback-left, loading_again, loading_called, resend-left}
use Rattle.ideal_laws.proofs.Plain.{PlainBy, PlainErrno, PlainIn, transfer-plain}
use Rattle.ideal_laws.proofs.Leaving.{Awaits, Overfull, Unmade}

-- a map that was tried changes no place
tried-place : (q : Option ℕ) (l : LaneState) → (tried_by q l).place ≡ l.place
tried-place None l = refl
tried-place (Some m) l = by (get l.maps m)
  where
    by : (o : Option LaneMap) → (tried_at m o l).place ≡ l.place
    by None = refl
    by (Some o) = refl

module _ (l : LaneState) (a : Account) where
  -- what holds of the driver and of the account after a step of a side that does this and answers so
  abbrev ErrnoLeaves : Side → Did → Errno → LaneState → Account → Type 0
  ErrnoLeaves s d errno.EBUSY after b = (after ≡ gone_on s l) × (b ≡ a)
  ErrnoLeaves s d errno.EINVAL after b = (after ≡ gone_on s (refused_load d l)) × (b ≡ a)
  ErrnoLeaves s d errno.ENOMEM after b = (after ≡ gone_on s (refused_load d l)) × (b ≡ a)
  ErrnoLeaves s d errno.EFBIG after b = Agreed l a → IsTooBig l a d after b
  ErrnoLeaves s d errno.EINPROGRESS after b = ⊥

  abbrev AnswerLeaves : Side → Did → Answer → LaneState → Account → Type 0
  AnswerLeaves s d (answer.Refused e) after b = ErrnoLeaves s d e after b
  AnswerLeaves s d (answer.InProgress have need) after b = IsDeferred l a have need after b
  AnswerLeaves s d (answer.Grown g) after b = g.made ≡ false → IsUnmade l a g after b
  AnswerLeaves s d _ after b = Unit {0}

  abbrev TurnLeaves : Side → Turn → LaneState → Account → Type 0
  TurnLeaves s (Stepped e) after b = AnswerLeaves s e.did e.answer after b
  TurnLeaves s Blocked after b = Unit {0}
  TurnLeaves s Ended after b = Unit {0}

  abbrev TurnedLeaves : Side → Turned → Account → Type 0
  TurnedLeaves s t b = TurnLeaves s t.turn t.lane b

  -- a turn with the account's reply to its call
  abbrev StepLeaves : Side → Asking Turned → Type 0
  StepLeaves s (Gives t) = TurnedLeaves s t a
  StepLeaves s (Asks c k) =
      let r : AccountReply = account_step l.id c a in TurnedLeaves s (k r.reply) r.account

  -- ---- operations

  -- only a send's first load that is too big is kept
  unkept : (q : Option Send) (r : Answer) → is_too_big r ≡ false → is_kept q r ≡ false
  unkept None r e = refl
  unkept (Some s) r e = e

  -- the operation of the script at the driver's place
  module _ (o : Op) (at : slice_get l.script l.place ≡ Some o) where
    maps-same : loading_map (loading_of l a o) ≡ map_loaded l (did.Op l.place)
    maps-same =
        sym (loads-map l a o)
        ∙ sym (ap (λ q. option_map (λ (x : Load). x.map) (option_and_then (λ o. load_asked_by o l) q)) at)

    sends-same : send_at l.script l.place ≡ send_of o
    sends-same = ap (option_and_then send_of) at

    -- the driver after an outcome of it
    abbrev went : Bool → LaneState → LaneState
    went held n = if held then record n { due = true } else at_next l.place n

    gone-tried : (after : LaneState) → after ≡ tried_by (loading_map (loading_of l a o)) l →
        at_next l.place after ≡ gone_on side.Script (refused_load (did.Op l.place) l)
    gone-tried after e =
        ap (at_next l.place) (e ∙ ap (λ q. tried_by q l) maps-same)
        ∙ ap (λ p. record (tried_by (map_loaded l (did.Op l.place)) l) { place = p + 1; due = false })
        (sym (tried-place (map_loaded l (did.Op l.place)) l))

    -- what the load is, if there is one
    module _ (P : Loading → Type 0) (Q : Type 0) (on : (q : Loading) → loading_of l a o ≡ Some q → P q → Q) where
      of-load : OfLoad l a P (loading_of l a o) → Q
      of-load h = by (loading_of l a o) refl h
        where
          by : (q : Option Loading) → loading_of l a o ≡ q → OfLoad l a P q → Q
          by None e h = absurd h
          by (Some q) e h = on q e h

    of-none : (P : Type 0) → OfNone l a P (loading_of l a o) → P
    of-none P h = by (loading_of l a o) h
      where
        by : (q : Option Loading) → OfNone l a P q → P
        by None h = h
        by (Some q) h = absurd h

    went-errno : (e : Errno) (after : LaneState) (b : Account) (held : Bool) → is_kept (send_of o) (answer.Refused e)
        ≡ held →
        LeftErrno l a (loading_of l a o) a.ready e after b → ErrnoLeaves side.Script (did.Op l.place) e
        (went held after) b
    went-errno errno.EBUSY after b true k h =
        let none : is_kept (send_of o) (answer.Refused errno.EBUSY) ≡ false = unkept (send_of o) _ refl in absurd (cc)
    went-errno errno.EBUSY after b false k h =
        let r = of-none ((after ≡ l) × (b ≡ a)) h in (ap (at_next l.place) r.0, r.1)
    went-errno errno.EINVAL after b true k h =
        let none : is_kept (send_of o) (answer.Refused errno.EINVAL) ≡ false = unkept (send_of o) _ refl in absurd (cc)
    went-errno errno.EINVAL after b false k h = (gone-tried after h.0, h.1)
    went-errno errno.ENOMEM after b true k h =
        let none : is_kept (send_of o) (answer.Refused errno.ENOMEM) ≡ false = unkept (send_of o) _ refl in absurd (cc)
    went-errno errno.ENOMEM after b false k h = (gone-tried after h.0, h.1)
    went-errno errno.EINPROGRESS after b held k h = h
    went-errno errno.EFBIG after b held k h = λ agreed.
        of-load (λ q. Overfull l a a.ready q.map after b) (IsTooBig l a (did.Op l.place) (went held after) b)
        (λ q e f. record {
          map = q.map;
          loaded = sym maps-same ∙ ap loading_map e;
          own = f.own;
          there = f.there;
          pages = f.pages;
          first = f.first;
          lane =
              ap (went held) f.lane
              ∙ ap (λ y. if y then record (unpaged q.map f.own f.pages l) { due = true }
              else gone_on side.Script (unpaged q.map f.own f.pages l)) (sym held-is);
          account = f.account;
        }) (h agreed)
      where
        some-kept : (q : Option Send) → is_some q ≡ is_kept q (answer.Refused errno.EFBIG)
        some-kept None = refl
        some-kept (Some s) = refl

        held-is : is_some (send_at l.script l.place) ≡ held
        held-is = ap is_some sends-same ∙ some-kept (send_of o) ∙ k

    went-leaves : (x : Outcome) (b : Account) → Left l a (loading_of l a o) a.ready x b →
        TurnedLeaves side.Script (went_on o l.place x) b
    went-leaves x b h = by x.answer (is_kept (send_of o) x.answer) refl h
      where
        answers : (r : Answer) (held : Bool) → is_kept (send_of o) r ≡ held →
            LeftBy l a (loading_of l a o) a.ready r x.lane b →
            AnswerLeaves side.Script (did.Op l.place) r (went held x.lane) b
        answers (answer.Refused e) held k h = went-errno e x.lane b held k h
        answers (answer.InProgress have need) true k h =
            let none : is_kept (send_of o) (answer.InProgress have need) ≡ false = unkept (send_of o) _ refl in
            absurd (cc)
        answers (answer.InProgress have need) false k h =
            of-load (λ q. Awaits l a q have need x.lane b) (IsDeferred l a have need (at_next l.place x.lane) b)
            (λ q e f.
            let same = of-operation l a o q e in record {
              map = q.map;
              own = f.own;
              there = f.there;
              load = f.load;
              place = f.place;
              bytes =
                  ap (option_and_then (λ o. load_asked_by o l)) at ∙ same.bytes
                  ∙ ap (λ y. Some (record { map = q.map; bio = y })) (sym f.bytes);
              items = ap (option_map items_of) at ∙ ap Some (same.items ∙ sym f.items);
              needs = f.needs;
              free = f.is_free;
              lane = ap (at_next l.place) f.lane;
              account = f.account;
            }) h
        answers (answer.Grown g) true k h =
            let none : is_kept (send_of o) (answer.Grown g) ≡ false = unkept (send_of o) _ refl in absurd (cc)
        answers (answer.Grown g) false k h = λ made.
            let r = of-none (g.made ≡ false → (t : TagLimits) × Unmade l a t g.zone.0 g.added x.lane b) h made in
            record { limits = r.0; lane = ap (at_next l.place) r.1.0; account = r.1.1 }
        answers _ held k h = tt

        by : (r : Answer) (held : Bool) → is_kept (send_of o) r ≡ held → LeftBy l a (loading_of l a o) a.ready r x.lane
            b →
            TurnedLeaves side.Script (if held then kept l.place (record { lane = x.lane; answer = r })
            else advanced l.place (record { lane = x.lane; answer = r })) b
        by r true k h = answers r true k h
        by r false k h = answers r false k h

  pub next-leaves : (q : Option Op) → slice_get l.script l.place ≡ q → StepLeaves side.Script (next_operation q l)
  next-leaves None at = tt
  next-leaves (Some o) at = by (waits o l) (operation o l) (operation-left l a o)
    where
      by : (w : Bool) (x : Asking Outcome) → LeftIn l a (loading_of l a o) x →
          StepLeaves side.Script (if w then Gives (stays Blocked l) else goes_on (went_on o l.place) x)
      by true x h = tt
      by false (Gives x) h = went-leaves o at x a h
      by false (Asks c k) h =
          went-leaves o at (k (account_step l.id c a).reply) (account_step l.id c a).account h

  -- ---- resends

  module _ (s : Send) (due : due_send l ≡ Some s) where
    send-is : send_at l.script l.place ≡ Some s
    send-is = by l.due due
      where
        by : (b : Bool) → (if b then send_at l.script l.place else None) ≡ Some s → send_at l.script l.place ≡ Some s
        by true e = e
        by false e = absurd (cc)

    begun-is : option_map_or (λ s. copied s l) (send_at l.script l.place) l ≡ copied s l
    begun-is = ap (λ q. option_map_or (λ s. copied s l) q l) send-is

    again-tried : (after : LaneState) → after ≡ tried_by (Some s.map) (copied s l) →
        at_next l.place after ≡ gone_on side.Script (refused_load (did.Again l.place) l)
    again-tried after e =
        ap (at_next l.place) e
        ∙ ap (λ p. record (tried_by (Some s.map) (copied s l)) { place = p + 1; due = false })
        (sym (tried-place (Some s.map) (copied s l)))
        ∙ (λ i. gone_on side.Script (tried_by (option_map (λ (s : Send). s.map) (sym send-is i)) (sym begun-is i)))

    again-errno : (e : Errno) (after : LaneState) (b : Account) →
        LeftErrno (copied s l) a (Some (loading_again s)) a.ready e after b →
        ErrnoLeaves side.Script (did.Again l.place) e (at_next l.place after) b
    again-errno errno.EBUSY after b h = absurd h
    again-errno errno.EINVAL after b h = (again-tried after h.0, h.1)
    again-errno errno.ENOMEM after b h = (again-tried after h.0, h.1)
    again-errno errno.EINPROGRESS after b h = h
    again-errno errno.EFBIG after b h = λ agreed.
        let f = h agreed in record {
          map = s.map;
          loaded = ap (option_map (λ (s : Send). s.map)) send-is;
          own = f.own;
          there = f.there;
          pages = f.pages;
          first = f.first;
          lane =
              ap (at_next l.place) f.lane
              ∙ ap (λ n. gone_on side.Script (unpaged s.map f.own f.pages n)) (sym begun-is);
          account = f.account;
        }

    again-leaves : (x : Outcome) (b : Account) → Left (copied s l) a (Some (loading_again s)) a.ready x b →
        TurnedLeaves side.Script (resent l.place x) b
    again-leaves x b h = by x.answer h
      where
        by : (r : Answer) → LeftBy (copied s l) a (Some (loading_again s)) a.ready r x.lane b →
            AnswerLeaves side.Script (did.Again l.place) r (at_next l.place x.lane) b
        by (answer.Refused e) h = again-errno e x.lane b h
        by (answer.InProgress have need) h = let must : true ≡ false = h.may in absurd (cc)
        by (answer.Grown g) h = absurd h
        by _ h = tt

    resend-leaves : StepLeaves side.Script (goes_on (resent l.place) (resend s l))
    resend-leaves = by (resend s l) (resend-left l a s)
      where
        by : (x : Asking Outcome) → LeftIn (copied s l) a (Some (loading_again s)) x →
            StepLeaves side.Script (goes_on (resent l.place) x)
        by (Gives x) h = again-leaves x a h
        by (Asks c k) h = again-leaves (k (account_step l.id c a).reply) (account_step l.id c a).account h

  due-leaves : (q : Option Send) → due_send l ≡ q → StepLeaves side.Script (due_turn q l)
  due-leaves None e = next-leaves (slice_get l.script l.place) refl
  due-leaves (Some s) e = resend-leaves s e

  script-leaves : (rs : List Return) → StepLeaves side.Script (script_turn rs l)
  script-leaves [] = due-leaves (due_send l) refl
  script-leaves (r ∷ rest) = tt

  -- ---- items

  item-leaves : (q : QueuedItem) (rest : List QueuedItem) → l.queue ≡ q ∷ rest → (x : Outcome) →
      PlainBy l x.answer x.lane → TurnedLeaves side.Transfer (left_queue q rest x) a
  item-leaves q rest front x h = by x.answer h
    where
      refusal : (e : Errno) → PlainErrno l e x.lane →
          ErrnoLeaves side.Transfer (did.Item q.load_at q.place) e (record x.lane { queue = rest }) a
      refusal errno.EINVAL h = (
        ap (λ (n : LaneState). record n { queue = rest }) h ∙ ap (λ qs. record l { queue = behind qs }) (sym front),
        refl,
      )
      refusal errno.EFBIG h = absurd h
      refusal errno.ENOMEM h = absurd h
      refusal errno.EINPROGRESS h = absurd h
      refusal errno.EBUSY h = absurd h

      by : (r : Answer) → PlainBy l r x.lane →
          AnswerLeaves side.Transfer (did.Item q.load_at q.place) r (record x.lane { queue = rest }) a
      by (answer.Refused e) h = refusal e h
      by (answer.InProgress have need) h = absurd h
      by (answer.Grown g) h = absurd h
      by _ h = tt

  queue-leaves : (qs : List QueuedItem) → l.queue ≡ qs → StepLeaves side.Transfer (transfer_turn qs l)
  queue-leaves [] e = tt
  queue-leaves (q ∷ rest) e = by (transfer q.item l) (transfer-plain l q.item)
    where
      by : (x : Asking Outcome) → PlainIn l x → StepLeaves side.Transfer (goes_on (left_queue q rest) x)
      by (Gives x) h = item-leaves q rest e x h
      by (Asks c k) h = absurd h

  -- ---- callbacks

  module _ (n : MapId) (pages : List Pa) where
    called-errno : (e : Errno) (after : LaneState) (b : Account) →
        LeftErrno l a (Some (loading_called l a n pages)) (drop 1 a.ready) e after b →
        ErrnoLeaves side.Callback (did.Callback n) e after b
    called-errno errno.EBUSY after b h = absurd h
    called-errno errno.EINVAL after b h = h
    called-errno errno.ENOMEM after b h = h
    called-errno errno.EINPROGRESS after b h = h
    called-errno errno.EFBIG after b h = λ agreed.
        let f = h agreed in record {
          map = n.made_at;
          loaded = refl;
          own = f.own;
          there = f.there;
          pages = f.pages;
          first = f.first;
          lane = f.lane;
          account = f.account;
        }

    called-answers : (r : Answer) (after : LaneState) (b : Account) →
        LeftBy l a (Some (loading_called l a n pages)) (drop 1 a.ready) r after b →
        AnswerLeaves side.Callback (did.Callback n) r after b
    called-answers (answer.Refused e) after b h = called-errno e after b h
    called-answers (answer.InProgress have need) after b h = let must : true ≡ false = h.may in absurd (cc)
    called-answers (answer.Grown g) after b h = absurd h
    called-answers _ after b h = tt

  callback-leaves : (r : HubReply) → (account_step l.id TakeCallback a).reply ≡ r →
      TurnedLeaves side.Callback (called_back l r) (account_step l.id TakeCallback a).account
  callback-leaves (reply.Called n pages) e =
      let x : Outcome = called n.made_at (get l.maps n.made_at) (addresses_of_pages pages) l in
      called-answers n pages x.answer x.lane (account_step l.id TakeCallback a).account (callback-left l a n pages e)
  callback-leaves _ e = tt

  step-leaves : (s : Side) → StepLeaves s (lane_step l s)
  step-leaves side.Script = script-leaves l.returns
  step-leaves side.Transfer = queue-leaves l.queue refl
  step-leaves side.Callback = callback-leaves (account_step l.id TakeCallback a).reply refl

-- ---- worlds

module _ (w : WorldState) (actor : Actor) (l : LaneState) (e : JournalEntry)
    (there : slice_get w.lanes actor.lane.0 ≡ Some l) (is : step_entry w actor ≡ Some e) where
  -- the turn leaves what the entry's answer says
  record After : Type 0 where
    lane : LaneState
    account : Account
    world : (step w actor).world ≡ record { lanes = slice_set w.lanes actor.lane.0 lane; account = account }
    left : AnswerLeaves l w.account actor.side e.did e.answer lane account

  abbrev here : step w actor ≡ replied w actor.lane.0 l (lane_step l actor.side)
  here = ap (step_of w actor) there

  turn-left : (s : Side) (t : Turn) (after : LaneState) (b : Account) → entry_of t ≡ Some e →
      TurnLeaves l w.account s t after b → AnswerLeaves l w.account s e.did e.answer after b
  turn-left s (Stepped f) after b h left =
      let same : f ≡ e = cc in
      subst (λ (z : JournalEntry). AnswerLeaves l w.account s z.did z.answer after b) same left
  turn-left s Blocked after b h left = absurd (cc)
  turn-left s Ended after b h left = absurd (cc)

  after : After
  after = by (lane_step l actor.side) refl (step-leaves l w.account actor.side)
    where
      entry : (x : Asking Turned) → lane_step l actor.side ≡ x →
          entry_of (replied w actor.lane.0 l x).turn ≡ Some e
      entry x q =
          sym (ap (λ (y : WorldTurned). entry_of y.turn) (here ∙ ap (λ z. replied w actor.lane.0 l z) q)) ∙ is

      by : (x : Asking Turned) → lane_step l actor.side ≡ x → StepLeaves l w.account actor.side x → After
      by (Gives t) q h = record {
        lane = t.lane;
        account = w.account;
        world = ap (λ (y : WorldTurned). y.world) (here ∙ ap (λ z. replied w actor.lane.0 l z) q);
        left = turn-left actor.side t.turn t.lane w.account (entry (Gives t) q) h;
      }
      by (Asks c k) q h =
          let r : AccountReply = account_step l.id c w.account in
          record {
            lane = (k r.reply).lane;
            account = r.account;
            world = ap (λ (y : WorldTurned). y.world) (here ∙ ap (λ z. replied w actor.lane.0 l z) q);
            left = turn-left actor.side (k r.reply).turn (k r.reply).lane r.account (entry (Asks c k) q) h;
          }

  abbrev with_lane : LaneState → WorldState
  with_lane n = record w { lanes = slice_set w.lanes actor.lane.0 n }

  same-world : (n : LaneState) → (after.lane ≡ n) × (after.account ≡ w.account) → (step w actor).world ≡ with_lane n
  same-world n h =
      after.world ∙ (λ i. record { lanes = slice_set w.lanes actor.lane.0 (h.0 i); account = h.1 i })

  pub busy-leaves : e.answer ≡ answer.Refused errno.EBUSY → (step w actor).world ≡ with_lane (gone_on actor.side l)
  busy-leaves r =
      same-world (gone_on actor.side l)
      (subst (λ z. AnswerLeaves l w.account actor.side e.did z after.lane after.account) r after.left)

  pub invalid-leaves : e.answer ≡ answer.Refused errno.EINVAL →
      (step w actor).world ≡ with_lane (gone_on actor.side (refused_load e.did l))
  invalid-leaves r =
      same-world (gone_on actor.side (refused_load e.did l))
      (subst (λ z. AnswerLeaves l w.account actor.side e.did z after.lane after.account) r after.left)

  pub no_memory-leaves : e.answer ≡ answer.Refused errno.ENOMEM →
      (step w actor).world ≡ with_lane (gone_on actor.side (refused_load e.did l))
  no_memory-leaves r =
      same-world (gone_on actor.side (refused_load e.did l))
      (subst (λ z. AnswerLeaves l w.account actor.side e.did z after.lane after.account) r after.left)

  pub in_progress-refused : e.answer ≡ answer.Refused errno.EINPROGRESS → ⊥
  in_progress-refused r =
      subst (λ z. AnswerLeaves l w.account actor.side e.did z after.lane after.account) r after.left

  pub too_big-leaves : (s : Scenario) → IsWellFormed s w → e.answer ≡ answer.Refused errno.EFBIG →
      Leaves w actor (IsTooBig l w.account e.did)
  too_big-leaves s well r = record {
    lane = after.lane;
    account = after.account;
    world = after.world;
    left =
        subst (λ z. AnswerLeaves l w.account actor.side e.did z after.lane after.account) r after.left
        (fits s w well, (well.each actor.lane.0 l there).agrees);
  }

  pub in_progress-leaves : (have need : ℕ) → e.answer ≡ answer.InProgress have need →
      Leaves w actor (IsDeferred l w.account have need)
  in_progress-leaves have need r = record {
    lane = after.lane;
    account = after.account;
    world = after.world;
    left = subst (λ z. AnswerLeaves l w.account actor.side e.did z after.lane after.account) r after.left;
  }

  pub unmade-leaves : (g : GrownBy) → e.answer ≡ answer.Grown g → g.made ≡ false →
      Leaves w actor (IsUnmade l w.account g)
  unmade-leaves g r made = record {
    lane = after.lane;
    account = after.account;
    world = after.world;
    left = subst (λ z. AnswerLeaves l w.account actor.side e.did z after.lane after.account) r after.left made;
  }
