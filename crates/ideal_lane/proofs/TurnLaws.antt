-- Each turn keeps the agreement of its driver and the account, which allows the turn's call.
use Rattle.std.proofs.Common.{◌≡◌, ℕ, ◌==◌, Bool, true, false, cond, if◌then◌else◌, List, ◌∷◌, Option, Some, None}
use Rattle.std.proofs.Common.{refl, ap, sym, ◌∙◌, subst}
use Rattle.std.specs.FinMap.{get, contains_key}
use Rattle.busdma_machine.specs.declared.bounce.hold.HubCall.{HubCall}
use Rattle.busdma_machine.specs.declared.bounce.hold.HubCall.TheVariants as call
use Rattle.busdma_machine.specs.declared.bounce.hold.HubReply.{HubReply}
use Rattle.busdma_machine.specs.declared.bounce.hold.HubReply.TheVariants as reply
use Rattle.busdma_base.specs.declared.journals.journal.Side.{Side}
use Rattle.busdma_machine.specs.declared.machine.chunk.Chunk.{Chunk}
use Rattle.busdma_machine.specs.Bounce.Account.{Account}
use Rattle.busdma_machine.specs.Bounce.AccountStep.{account_step}
use Rattle.lane_agreement.specs.View as view
use Rattle.lane_agreement.specs.View.{Return, OwnMap}
use Rattle.lane_agreement.specs.After.{IsLike, after, addresses_of_pages, IsFront}
use Rattle.lane_agreement.specs.After as calls
use Rattle.lane_agreement.specs.Agreement.{Agrees, IsFit}
use Rattle.lane_agreement.proofs.Asking.{agrees-may}
use Rattle.lane_agreement.proofs.Left.{agrees-like}
use Rattle.lane_agreement.proofs.Whole.{agrees-step, called-length}
use Rattle.ideal_lane.specs.State.{LaneState, LaneMap, Stage, Idle, Waiting, Loaded, Returning, WaitingLoad}
use Rattle.ideal_lane.specs.Asking.{Asking, Gives, Asks, call_of, by_reply}
use Rattle.ideal_lane.specs.Outcomes.{Outcome}
use Rattle.ideal_lane.specs.Agreement.{IsAllowed, KeepsAgreement}
use Rattle.ideal_lane.specs.Standing.{Stands}
use Rattle.ideal_lane.specs.View.{view_of, own_map, own_frames, in_zone, stage_of}
use Rattle.ideal_lane.specs.Loads.{Asked, asked, chunks_for}
use Rattle.ideal_lane.specs.Sends.{Send, copied}
use Rattle.ideal_lane.specs.Turns.{Turned, waits, lane_step}
use Rattle.ideal_lane.specs.Unloads.{restaged, after_return}
use Rattle.ideal_lane.proofs.Effects.{Declines, Keeps, Resends}
use Rattle.ideal_lane.proofs.Effects.{Advances, Callback, Called, Calls, IsReplyOf, IsUncalled, IsUnwaited}
use Rattle.ideal_lane.proofs.Effects.{IsUnwaiting, Leaves, Loads, Makes, NoneCalled, NothingLeft, NothingNow}
use Rattle.ideal_lane.proofs.Effects.{Overflows, Refuses, Releases, Stays, Steps, Unwaited, Vain, asks}
use Rattle.ideal_lane.proofs.Stepping.{turn-steps}
use Rattle.ideal_lane.proofs.Lookups.{same_at}
use Rattle.ideal_lane.proofs.ViewLaws.{map_put, zoned}
use Rattle.ideal_lane.proofs.Endings.{fitting, too_big}
use Rattle.ideal_lane.proofs.Keeping.{Following, KeptBy, keeps, touches-keep, ended-like}
use Rattle.busdma_machine.specs.declared.name.MapId.{MapId}
use Rattle.busdma_machine.specs.declared.machine.address.Pa.{Pa}

followed : (l n : LaneState) (c : HubCall) (a : Account) → IsFit a → Agrees (view_of l) a → calls.MayAsk (view_of l) c →
    Following l c (account_step l.id c a).reply n → Agrees (view_of n) (account_step l.id c a).account
followed l n c a fit g asks f =
    agrees-like (after f.fits (view_of l) c (account_step l.id c a).reply) (view_of n)
    (account_step l.id c a).account f.like
    (agrees-step f.fits (view_of l) c a fit g asks)

-- a page has gone back
back-like : (l : LaneState) (r : Return) (rest : List Return) →
    (x : Option LaneMap) → get l.maps r.map ≡ x → IsLike (view.view_given_back (view_of l) (r ∷ rest))
    (view_of (record (restaged r.map x (after_return r.map rest) l) { returns = rest }))
back-like l r rest = by
  where
    by : (x : Option LaneMap) → get l.maps r.map ≡ x →
        IsLike (view.view_given_back (view_of l) (r ∷ rest))
        (view_of (record (restaged r.map x (after_return r.map rest) l) { returns = rest }))
    by None e = record {
      id = refl;
      maxmem = refl;
      maps = λ j. same_at (λ k. own_map (get l.maps k)) r.map j
          ∙ ap (λ y. cond (j == r.map) y (own_map (get l.maps j))) (ap own_map e
          ∙ sym
          (ap (λ y. view.view_restaged y (if view.returning r.map rest == 0 then view.Idle else view.Returning))
          (ap own_map e)));
      mems = λ j. same_at (λ k. own_frames (get l.mems k)) r.map j;
      returns = refl;
      own_frame = λ f. refl;
    }
    by (Some o) e = record {
      id = refl;
      maxmem = refl;
      maps = λ j. map_put l.maps r.map (record o { stage = after_return r.map rest }) j
          ∙ ap (λ y. cond (j == r.map) y (own_map (get l.maps j)))
          (stages o.zone (view.returning r.map rest == 0)
          ∙ sym
          (ap (λ y. view.view_restaged y (if view.returning r.map rest == 0 then view.Idle else view.Returning))
          (ap own_map e)));
      mems = λ j. same_at (λ k. own_frames (get l.mems k)) r.map j;
      returns = refl;
      own_frame = λ f. refl;
    }
      where
        stages : (zone : Option ℕ) (b : Bool) →
            in_zone (if b then Idle else Returning) zone
            ≡ view.view_restaged (in_zone o.stage zone) (if b then view.Idle else view.Returning)
        stages None b = refl
        stages (Some z) true = refl
        stages (Some z) false = refl

-- a map that the account sees waiting
pub record WaitsAt (l : LaneState) (k z need : ℕ) : Type 0 where
  pub map : LaneMap
  pub load : WaitingLoad
  pub found : get l.maps k ≡ Some map
  pub zone : map.zone ≡ Some z
  pub stage : map.stage ≡ Waiting load
  pub counted : load.need ≡ need

abbrev stage_in : Option OwnMap → view.SeenStage
stage_in None = view.Idle
stage_in (Some m) = m.stage

abbrev need_in : view.SeenStage → ℕ
need_in view.Idle = 0
need_in (view.Waiting need) = need
need_in (view.Loaded pages) = 0
need_in view.Returning = 0

pub waits-at : (l : LaneState) (k z need : ℕ) →
    own_map (get l.maps k) ≡ Some (record { zone = z; stage = view.Waiting need }) → WaitsAt l k z need
waits-at l k z need h = by (get l.maps k) refl h
  where
    in-stage : (o : LaneMap) → get l.maps k ≡ Some o → (s : Stage) → o.stage ≡ s → (zone : Option ℕ) → o.zone ≡ zone →
        in_zone s zone ≡ Some (record { zone = z; stage = view.Waiting need }) → WaitsAt l k z need
    in-stage o e s st None zn h = absurd (cc)
    in-stage o e (Waiting w) st (Some y) zn h =
        let same : y ≡ z = ap view.zone_in h in
        record {
          map = o;
          load = w;
          found = e;
          zone = zn ∙ ap (λ v. Some v) same;
          stage = st;
          counted = ap (λ x. need_in (stage_in x)) h;
        }
    in-stage o e Idle st (Some y) zn h = absurd (let d : stage_of Idle ≡ view.Waiting need = ap stage_in h in cc)
    in-stage o e (Loaded b g p) st (Some y) zn h =
        absurd (let d : stage_of (Loaded b g p) ≡ view.Waiting need = ap stage_in h in cc)
    in-stage o e Returning st (Some y) zn h =
        absurd (let d : stage_of Returning ≡ view.Waiting need = ap stage_in h in cc)

    by : (x : Option LaneMap) → get l.maps k ≡ x →
        own_map x ≡ Some (record { zone = z; stage = view.Waiting need }) → WaitsAt l k z need
    by None e h = absurd (cc)
    by (Some o) e h = in-stage o e o.stage refl o.zone refl h

-- the zone of a map, if there is one
abbrev zone_at : Option LaneMap → Option ℕ
zone_at None = None
zone_at (Some o) = o.zone

-- a callback that comes is for a map that waits
pub callback-waits : (l : LaneState) (a : Account) (m : MapId) (pages : List Pa) → IsFit a → Agrees (view_of l) a →
    (account_step l.id call.TakeCallback a).reply ≡ reply.Called m pages →
    (z need : ℕ) × WaitsAt l m.made_at z need
callback-waits l a m pages fit g e =
    let c = called-length (view_of l) a.ready a m pages fit.well g refl e in
    (c.2, c.0, waits-at l m.made_at c.2 c.0 c.3)

-- ---- turns

module _ (l : LaneState) (s : Stands l) where
  -- the driver's state allows the call, if one is made
  abbrev IsAsked : Option HubCall → Type 0
  IsAsked None = Unit {0}
  IsAsked (Some c) = calls.MayAsk (view_of l) c

  asked-by : (c : Option HubCall) (r : HubReply) (n : LaneState) → KeptBy l c r n → IsAsked c
  asked-by None r n h = tt
  asked-by (Some c) r n h = h.0

  -- what is kept from the state after the copy of a send is kept from the state before it
  uncopied : (d : Send) (c : Option HubCall) (r : HubReply) (n : LaneState) → KeptBy (copied d l) c r n →
      KeptBy l c r n
  uncopied d None r n h = h
  uncopied d (Some c) r n h = (h.0, record { fits = h.1.fits; like = h.1.like })

  steps-asked : {d : Side} {c : Option HubCall} {r : HubReply} {t : Turned} → Steps l d c r t → IsAsked c
  steps-asked (Stays t (NoneCalled u)) = tt
  steps-asked (Stays t _) = tt
  steps-asked {c = c} {r = r} (Advances {x = x} o at free m) = asked-by c r x.lane (keeps l s m)
  steps-asked {c = c} {r = r} (Keeps {x = x} o at free d is big held m) = asked-by c r x.lane (keeps l s m)
  steps-asked (Declines d now x declined) = tt
  steps-asked {c = c} {r = r} (Resends {x = x} d now k untold m) =
      asked-by c r x.lane (uncopied d c r x.lane (keeps (copied d l) s m))
  steps-asked (Leaves q rest e t) = tt
  steps-asked (Releases q rest e y there) =
      (refl, subst (λ rs. IsFront rs q.map q.zone q.page) (sym e) (refl, refl, refl))
  steps-asked (Calls m pages k) = tt

  module _ (a : Account) (fit : IsFit a) (g : Agrees (view_of l) a) where
    -- the account after a call, if one was made
    abbrev account_after : Option HubCall → Account
    account_after None = a
    account_after (Some c) = (account_step l.id c a).account

    kept-by : (c : Option HubCall) (r : HubReply) (n : LaneState) → IsReplyOf l.id a c r → KeptBy l c r n →
        Agrees (view_of n) (account_after c)
    kept-by None r n e h = h a g
    kept-by (Some c) r n e h = followed l n c a fit g h.0 (subst (λ q. Following l c q n) (sym e) h.1)

    -- a callback
    step : (b : Bool) (r : HubReply) → (account_step l.id call.TakeCallback a).reply ≡ r →
        Agrees (after b (view_of l) call.TakeCallback r) (account_after (Some call.TakeCallback))
    step b r e =
        subst (λ q. Agrees (after b (view_of l) call.TakeCallback q) (account_after (Some call.TakeCallback))) e
        (agrees-step b (view_of l) call.TakeCallback a fit g tt)

    uncalled : (r : HubReply) → IsUncalled r → after true (view_of l) call.TakeCallback r ≡ view_of l
    uncalled (reply.Called m pages) u = absurd u
    uncalled _ u = refl

    module _ (m : MapId) (pages : List Pa) (e : (account_step l.id call.TakeCallback a).reply ≡ reply.Called m pages)
      where
        waited : (z need : ℕ) × WaitsAt l m.made_at z need
        waited = callback-waits l a m pages fit g e

        module _ (o : LaneMap) (v : WaitingLoad) (there : get l.maps m.made_at ≡ Some o) (b : Bool) where
          abbrev x : Asked
          x = asked m.made_at v.bio false v.items l

          abbrev cut : List Chunk
          cut = chunks_for l o (contains_key l.mems m.made_at) x.entries

          abbrev ended : Outcome
          ended = if b then fitting l m.made_at o v.load_at x cut (addresses_of_pages pages)
              else too_big l m.made_at o v.load_at x cut (addresses_of_pages pages)

          ends-kept : Agrees (view_of ended.lane) (account_after (Some call.TakeCallback))
          ends-kept =
              let w = waited.2 in
              let zone : o.zone ≡ Some waited.0 = ap zone_at (sym there ∙ w.found) ∙ w.zone in
              let zone-is : waited.0 ≡ view.zone_in (own_map (get l.maps m.made_at)) =
              sym (ap (λ y. view.zone_in (own_map y)) there ∙ ap view.zone_in (zoned o.stage o waited.0 zone)) in
              agrees-like (after b (view_of l) call.TakeCallback (reply.Called m pages)) (view_of ended.lane)
              (account_after (Some call.TakeCallback))
              (subst (λ y. IsLike (view.view_ended b (view_of l) m.made_at y (addresses_of_pages pages))
              (view_of ended.lane)) zone-is
              (ended-like l m.made_at o v.load_at x cut (addresses_of_pages pages) waited.0 zone b))
              (step b (reply.Called m pages) e)

    called-kept : {n m : MapId} {pages : List Pa} {x : Outcome} →
        (account_step l.id call.TakeCallback a).reply ≡ reply.Called m pages →
        Makes l (Callback n) (Some call.TakeCallback) (reply.Called m pages) x →
        Agrees (view_of x.lane) (account_after (Some call.TakeCallback))
    called-kept e (Vain (Unwaited m pages u) v q) =
        let w = (waited m pages e).2 in absurd (subst IsUnwaiting w.stage (subst IsUnwaited w.found u))
    called-kept e (Refuses b over v) = elim over [ ]
    called-kept e (Loads (Called m pages o v there waits) f) = ends-kept m pages e o v there true
    called-kept e (Overflows (Called m pages o v there waits) f) = ends-kept m pages e o v there false

    steps-kept : {d : Side} {c : Option HubCall} {r : HubReply} {t : Turned} → IsReplyOf l.id a c r →
        Steps l d c r t → Agrees (view_of t.lane) (account_after c)
    steps-kept e (Stays t NothingNow) = g
    steps-kept e (Stays t NothingLeft) = g
    steps-kept {r = r} e (Stays t (NoneCalled u)) =
        subst (λ v. Agrees v (account_after (Some call.TakeCallback))) (uncalled r u) (step true r e)
    steps-kept {c = c} {r = r} e (Advances {x = x} o at free m) = kept-by c r x.lane e (keeps l s m)
    steps-kept {c = c} {r = r} e (Keeps {x = y} o at free d is big held m) = kept-by c r y.lane e (keeps l s m)
    steps-kept e (Declines d now y declined) = g
    steps-kept {c = c} {r = r} e (Resends {x = y} d now k untold m) =
        kept-by c r y.lane e (uncopied d c r y.lane (keeps (copied d l) s m))
    steps-kept e (Leaves q rest is t) = touches-keep l s t a g
    steps-kept {c = c} {r = r} {t = t} e (Releases q rest is y there) =
        kept-by c r t.lane e (
          (refl, subst (λ rs. IsFront rs q.map q.zone q.page) (sym is) (refl, refl, refl)),
          record {
            fits = true;
            like =
                subst (λ rs. IsLike (view.view_given_back (view_of l) rs) (view_of t.lane)) (sym is)
                (back-like l q rest y there);
          },
        )
    steps-kept e (Calls m pages k) = called-kept e k

pub turn-allowed : (l : LaneState) (s : Side) (a : Account) → Stands l →
    Agrees (view_of l) a → IsAllowed l.id a (lane_step l s)
turn-allowed l s a st g = by (lane_step l s) (turn-steps l s)
  where
    by : (x : Asking Turned) → ((r : HubReply) → Steps l s (call_of x) r (by_reply x r)) → IsAllowed l.id a x
    by (Gives t) h = tt
    by (Asks c k) h = agrees-may (view_of l) a c g (steps-asked l st (h reply.Nothing))

pub turn-kept : (l : LaneState) (s : Side) (a : Account) → Stands l → IsFit a →
    Agrees (view_of l) a → KeepsAgreement l.id a (lane_step l s)
turn-kept l s a st fit g = by (lane_step l s) (turn-steps l s)
  where
    by : (x : Asking Turned) → ((r : HubReply) → Steps l s (call_of x) r (by_reply x r)) → KeepsAgreement l.id a x
    by (Gives t) h = steps-kept l st a fit g tt (h reply.Nothing)
    by (Asks c k) h = steps-kept l st a fit g refl (h (account_step l.id c a).reply)
