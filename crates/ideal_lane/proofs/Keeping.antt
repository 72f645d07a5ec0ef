-- Each operation keeps the agreement of its driver and the account.
use Rattle.std.proofs.Common.{◌≡◌, ℕ, ◌≤◌, ◌==◌, ◌++◌, Bool, true, false, if◌then◌else◌, List, [], Option, Some}
use Rattle.std.proofs.Common.{None, refl, ap, sym, ◌∙◌, arith, is_some, unwrap_or, subst, zero, suc}
use Rattle.std.proofs.lemmas.Bool.{and_parts}
use Rattle.std.specs.FinMap.{get, insert}
use Rattle.busdma_machine.specs.declared.bounce.hold.HubCall.{HubCall}
use Rattle.busdma_machine.specs.declared.bounce.hold.HubReply.{HubReply}
use Rattle.busdma_machine.specs.declared.bounce.hold.HubReply.TheVariants as reply
use Rattle.busdma_machine.specs.declared.report.Judged.TheVariants.{Fine}
use Rattle.busdma_machine.specs.declared.machine.bio.Bio.TheVariants as bio
use Rattle.busdma_machine.specs.declared.machine.chunk.Chunk.{Chunk}
use Rattle.busdma_machine.specs.Bounce.Account.{Account}
use Rattle.busdma_machine.specs.Tags.Tag.{could_bounce}
use Rattle.busdma_machine.specs.Tags.TagFlags.{allocnow}
use Rattle.busdma_rules.specs.Segments.Chunks.{need_of}
use Rattle.lane_agreement.specs.View as view
use Rattle.lane_agreement.specs.After.{IsLike, after, addresses_of_pages}
use Rattle.lane_agreement.specs.After as calls
use Rattle.lane_agreement.specs.Agreement.{Agrees}
use Rattle.lane_agreement.proofs.Left.{agrees-like}
use Rattle.lane_agreement.proofs.Steps.{agrees-unloaded}
use Rattle.lane_agreement.proofs.Whole.{agrees-loaded}
use Rattle.ideal_lane.specs.State.{LaneState, LaneMap, Stage, Idle, Waiting, Loaded, Returning}
use Rattle.ideal_lane.specs.Outcomes.{Outcome, is_idle, is_loaded}
use Rattle.ideal_lane.specs.Standing.{Stands, IsPageless}
use Rattle.ideal_lane.specs.View.{view_of, own_map, own_frames, in_zone, stage_of}
use Rattle.ideal_lane.specs.Tags.{with_tag}
use Rattle.ideal_lane.specs.Maps.{with_map, without_map}
use Rattle.ideal_lane.specs.Loads.{Asked, zone_of_map, staged, unpaged, emptied}
use Rattle.ideal_lane.specs.Unloads.{pages_of}
use Rattle.std.proofs.Common.{not}
use Rattle.busdma_rules.specs.Iommu.Device.{device_chunks}
use Rattle.ideal_lane.specs.Loads.{is_device}
use Rattle.ideal_lane.proofs.Effects.{Device, NoRun}
use Rattle.ideal_lane.proofs.Effects.{AtOnce, Attaches, Begins, Creates, Frees, Granted, IsUngranted, IsUnmade}
use Rattle.ideal_lane.proofs.Effects.{IsUnplaced, Loads, Makes, Maps, Operation, Overflows, Places, Refuses, Same}
use Rattle.ideal_lane.proofs.Effects.{TooLong, Touched, Touches, Unattached, Uncreated, Ungranted, Unloads, Unmaps}
use Rattle.ideal_lane.proofs.Effects.{Unplaced, Vain, Waits, Work, asks, chunks, end_call, grab, waits_for}
use Rattle.ideal_lane.proofs.ViewLaws.{like-refl, like-unseen, like-staged, like-unloaded, like-gone, like-unseen_gone}
use Rattle.ideal_lane.proofs.ViewLaws.{like-memory, like-no_memory, like-unpaged, stage-emptied, zoned}
use Rattle.ideal_lane.proofs.Direct.{need-direct}
use Rattle.ideal_lane.proofs.Endings.{fitting, too_big, bounced_in, segments_of}
use Rattle.lane_agreement.specs.View.{View}
use Rattle.busdma_base.specs.declared.scenarios.script.Op.{Op}

-- after the reply the account sees this driver
pub record Following (l : LaneState) (c : HubCall) (r : HubReply) (n : LaneState) : Type 0 where
  pub fits : Bool
  pub like : IsLike (after fits (view_of l) c r) (view_of n)

-- without a call, agreement with each account is kept; a call is one that the driver's state allows, and the driver
-- follows its reply
abbrev pub KeptBy : LaneState → Option HubCall → HubReply → LaneState → Type 0
KeptBy l None r n = (a : Account) → Agrees (view_of l) a → Agrees (view_of n) a
KeptBy l (Some c) r n = calls.MayAsk (view_of l) c × Following l c r n

alike : (l n : LaneState) → IsLike (view_of l) (view_of n) → (a : Account) →
    Agrees (view_of l) a → Agrees (view_of n) a
alike l n like a h = agrees-like (view_of l) (view_of n) a like h

-- ---- stages

pub idle-is : (s : Stage) → is_idle s ≡ true → s ≡ Idle
idle-is Idle e = refl
idle-is (Waiting w) e = absurd (cc)
idle-is (Loaded bounced segments pages) e = absurd (cc)
idle-is Returning e = absurd (cc)

loaded-is : (s : Stage) → is_loaded s ≡ true → stage_of s ≡ view.Loaded (pages_of s)
loaded-is Idle e = absurd (cc)
loaded-is (Waiting w) e = absurd (cc)
loaded-is (Loaded bounced segments pages) e = refl
loaded-is Returning e = absurd (cc)

pub pageless-pages : (s : Stage) → IsPageless s → pages_of s ≡ []
pageless-pages Idle h = refl
pageless-pages (Waiting w) h = refl
pageless-pages (Loaded bounced segments pages) h = h
pageless-pages Returning h = refl

-- the account's view of the map at a place
seen : (l : LaneState) (m : ℕ) (o : LaneMap) → get l.maps m ≡ Some o → own_map (get l.maps m) ≡ in_zone o.stage o.zone
seen l m o e = ap own_map e

seen-in : (l : LaneState) (m z : ℕ) (o : LaneMap) (s : view.SeenStage) → get l.maps m ≡ Some o →
    o.zone ≡ Some z → stage_of o.stage ≡ s →
    own_map (get l.maps m) ≡ Some (record { zone = z; stage = s })
seen-in l m z o s e zone st =
    seen l m o e ∙ (zoned o.stage o z zone ∙ ap (λ t. Some (record { zone = z; stage = t })) st)

seen-out : (l : LaneState) (m : ℕ) (o : LaneMap) → get l.maps m ≡ Some o →
    o.zone ≡ None → own_map (get l.maps m) ≡ None
seen-out l m o e zone = seen l m o e ∙ ap (in_zone o.stage) zone

-- ---- replies that bring nothing

uncreated : (v : View) (k : ℕ) (r : HubReply) → IsUnmade r → calls.after_create v k r ≡ v
uncreated v k (reply.Grown g) u = ap (λ b. if b then view.view_staged v k g.zone.0 view.Idle else v) u
uncreated v k _ u = refl

unplaced : (v : View) (k : ℕ) (r : HubReply) → IsUnplaced r → calls.after_mem_alloc v k r ≡ v
unplaced v k (reply.Run first count) u = absurd u
unplaced v k _ u = refl

ungranted : (v : View) (k z need : ℕ) (r : HubReply) → IsUngranted r → calls.after_grab true v k z need r ≡ v
ungranted v k z need (reply.Granted pages) u = absurd u
ungranted v k z need (reply.Queued have) u = absurd u
ungranted v k z need _ u = refl

vain : (l : LaneState) (v : View) → v ≡ view_of l → IsLike v (view_of l)
vain l v e = subst (λ y. IsLike y (view_of l)) (sym e) (like-refl (view_of l))

-- ---- how a load ends

module _ (l : LaneState) (m : ℕ) (o : LaneMap) (at : ℕ) (x : Asked) (chunks : List Chunk) (pages : List ℕ) where
  -- if the map has a zone
  pub ended-like : (z : ℕ) → o.zone ≡ Some z → (b : Bool) →
      IsLike (view.view_ended b (view_of l) m z pages)
      (view_of (if b then fitting l m o at x chunks pages else too_big l m o at x chunks pages).lane)
  ended-like z zone true =
      like-staged l m (record o {
        tried = true;
        stage = Loaded (bounced_in l m o at x chunks pages)
            (segments_of l m o at x chunks pages) pages;
      }) z (view.Loaded pages)
      (ap (in_zone (Loaded (bounced_in l m o at x chunks pages) (segments_of l m o at x chunks pages) pages)) zone)
  ended-like z zone false =
      subst (λ y. IsLike (view.unloaded (view_of l) m z pages)
      (view_of (record l {
        maps = insert l.maps m (record o { tried = true; stage = emptied pages });
        returns = l.returns ++ view.queued_back m y pages;
      })))
      (sym (ap (λ w. unwrap_or w 0) zone))
      (like-unloaded l m (record o { tried = true; stage = emptied pages }) z pages (zoned (emptied pages) o z zone
      ∙ ap (λ s. Some (record { zone = z; stage = s })) (stage-emptied pages)))

some-need : (n : ℕ) → (n == 0) ≡ false → 1 ≤ n
some-need zero e = absurd (cc)
some-need (suc n) e = omega arith

abbrev pub no_asked : Asked
no_asked = record { bio = bio.Vector []; judged = Fine; entries = []; len = 0; nowait = false; items = [] }

module _ (l : LaneState) (s : Stands l) where
  no-map : get l.maps l.place ≡ None
  no-map = s.no_map l.place (omega arith)

  no-memory : own_frames (get l.mems l.place) ≡ None
  no-memory = ap own_frames (s.no_memory l.place (omega arith))

  pub touches-keep : {d : Work} {x : Outcome} → Touches l d x → (a : Account) → Agrees (view_of l) a →
      Agrees (view_of x.lane) a
  touches-keep (Same v q u) a g = g
  touches-keep _ a g = g

  -- ---- the end of a map
  unmaps-keep : (m : ℕ) (o : LaneMap) → get l.maps m ≡ Some o → is_idle o.stage ≡ true → (r : HubReply)
      (zone : Option ℕ) → o.zone ≡ zone → KeptBy l (end_call l m zone) r (without_map m l)
  unmaps-keep m o e i r None zone = alike l (without_map m l) (like-unseen_gone l m (seen-out l m o e zone))
  unmaps-keep m o e i r (Some z) zone = (
    (refl, seen-in l m z o view.Idle e zone (ap stage_of (idle-is o.stage i))),
    record { fits = true; like = like-gone l m },
  )

  -- ---- loads
  module _ {d : Work} (b : Begins l d) where
    -- the account sees the map of a refused load as before
    back : IsLike (view_of l) (view_of (staged b.m b.o Idle l))
    back =
        like-unseen l b.m (record b.o { tried = true; stage = Idle })
        (sym (seen l b.m b.o b.there ∙ ap (λ t. in_zone t b.o.zone) (idle-is b.o.stage b.idle)))

    seen-idle : (z : ℕ) → b.o.zone ≡ Some z →
        own_map (get l.maps b.m) ≡ Some (record { zone = z; stage = view.Idle })
    seen-idle z zone = seen-in l b.m z b.o view.Idle b.there zone (ap stage_of (idle-is b.o.stage b.idle))

    module _ (plain : is_device l b.o ≡ false) (some : (need_of (chunks b) == 0) ≡ false) where
      zone-at : (zone : Option ℕ) → b.o.zone ≡ zone → b.o.zone ≡ Some (zone_of_map b.o)
      zone-at (Some z) e = e ∙ ap (λ w. Some w) (sym (ap (λ w. unwrap_or w 0) e))
      zone-at None e =
          let none : need_of (chunks b) ≡ 0 = need-direct l b.m b.o (asks b).entries (s.each b.m b.o b.there) plain e in
          let more : 1 ≤ need_of (chunks b) = some-need (need_of (chunks b)) some in
          absurd (omega (arith, none, more))

      zone-is : b.o.zone ≡ Some (zone_of_map b.o)
      zone-is = zone-at b.o.zone refl

      asks-grab : calls.MayAsk (view_of l) (grab b)
      asks-grab = (refl, some-need (need_of (chunks b)) some, seen-idle (zone_of_map b.o) zone-is)

    -- a load without pages
    loads-pageless : (cs : List Chunk) (a : Account) → Agrees (view_of l) a → (zone : Option ℕ) → b.o.zone ≡ zone →
        Agrees (view_of (fitting l b.m b.o l.place (asks b) cs []).lane) a
    loads-pageless cs a g None zone =
        let t : Stage = Loaded (bounced_in l b.m b.o l.place (asks b) cs [])
        (segments_of l b.m b.o l.place (asks b) cs []) [] in
        alike l (staged b.m b.o t l) (like-unseen l b.m (record b.o { tried = true; stage = t }) (ap (in_zone t) zone
        ∙ sym (seen-out l b.m b.o b.there zone))) a g
    loads-pageless cs a g (Some z) zone =
        agrees-like (view.view_staged (view_of l) b.m z (view.Loaded []))
        (view_of (fitting l b.m b.o l.place (asks b) cs []).lane) a
        (ended-like l b.m b.o l.place (asks b) cs [] z zone true)
        (agrees-loaded (view_of l) b.m z a g (seen-idle z zone))

    overflows-pageless : (a : Account) → Agrees (view_of l) a → Agrees (view_of (unpaged b.m b.o [] l)) a
    overflows-pageless =
        alike l (unpaged b.m b.o [] l) (like-unpaged l b.m (zone_of_map b.o) (record b.o { tried = true; stage = Idle })
        (sym (seen l b.m b.o b.there ∙ ap (λ t. in_zone t b.o.zone) (idle-is b.o.stage b.idle))))

  unloads-keep : (m : ℕ) (o : LaneMap) → get l.maps m ≡ Some o → is_loaded o.stage ≡ true → (a : Account) →
      Agrees (view_of l) a → Agrees (view_of (unpaged m o (pages_of o.stage) l)) a
  unloads-keep m o e i a g = by o e i a g o.zone refl
    where
      by : (o : LaneMap) → get l.maps m ≡ Some o → is_loaded o.stage ≡ true → (a : Account) →
          Agrees (view_of l) a → (zone : Option ℕ) → o.zone ≡ zone →
          Agrees (view_of (unpaged m o (pages_of o.stage) l)) a
      by o e i a g None zone =
          let none : pages_of o.stage ≡ [] = pageless-pages o.stage ((s.each m o e).pageless zone) in
          subst (λ ps. Agrees (view_of (unpaged m o ps l)) a) (sym none)
          (alike l (unpaged m o [] l) (like-unpaged l m (zone_of_map o) (record o { tried = true; stage = Idle })
          (ap (in_zone Idle) zone ∙ sym (seen-out l m o e zone))) a g)
      by o e i a g (Some z) zone =
          let pages : List ℕ = pages_of o.stage in
          agrees-like (view.unloaded (view_of l) m z pages) (view_of (unpaged m o pages l)) a
          (ended-like l m o 0 no_asked [] pages z zone false)
          (agrees-unloaded (view_of l) m z pages a g (seen-in l m z o (view.Loaded pages) e zone (loaded-is o.stage i)))

  -- ---- each effect of an operation
  pub keeps : {o : Op} {c : Option HubCall} {r : HubReply} {x : Outcome} → Makes l (Operation o) c r x →
      KeptBy l c r x.lane
  keeps (Touched t) = touches-keep t
  keeps (Vain (Unattached t b u) v q) =
      let p = and_parts (could_bounce t l.maxmem) (allocnow t.flags) b in
      ((p.0, p.1), record { fits = true; like = like-refl (view_of l) })
  keeps {r = r} (Vain (Uncreated g b u) v q) = (
    (refl, (and_parts (not g.device) (could_bounce g.limits l.maxmem) b).1, ap own_map no-map),
    record { fits = true; like = vain l _ (uncreated (view_of l) l.place r u) },
  )
  keeps {r = r} (Vain (Unplaced g u) v q) =
      ((refl, no-memory), record { fits = true; like = vain l _ (unplaced (view_of l) l.place r u) })
  keeps (Attaches name parent limits t n b g e) =
      let p = and_parts (could_bounce t l.maxmem) (allocnow t.flags) b in
      ((p.0, p.1), record { fits = true; like = like-refl (view_of l) })
  keeps (Maps name t g there b) =
      alike l (with_map t None l) (like-unseen l l.place
      (record { tag = t; zone = None; tried = false; stage = Idle }) (sym (ap own_map no-map)))
  keeps (Creates name t g there b n e) = (
    (refl, (and_parts (not g.device) (could_bounce g.limits l.maxmem) b).1, ap own_map no-map),
    record {
      fits = true;
      like =
          subst (λ y. IsLike (if y then view.view_staged (view_of l) l.place n.zone.0 view.Idle else view_of l)
          (view_of (with_tag t g.limits true (with_map t (Some n.zone.0) l)))) (sym e)
          (like-staged l l.place (record { tag = t; zone = Some n.zone.0; tried = false; stage = Idle }) n.zone.0
          view.Idle refl);
    },
  )
  keeps {r = r} (Unmaps m o there i) = unmaps-keep m o there i r o.zone refl
  keeps (Places name t flags g there first count) = (
    (refl, no-memory),
    record {
      fits = true;
      like =
          like-memory l l.place (record { tag = t; zone = None; tried = false; stage = Idle })
          (record { tag = t; first = first.0; count = count; len = g.limits.maxsize; coherent = _ })
          (sym (ap own_map no-map));
    },
  )
  keeps (Frees m x f o e i) = (
    (refl, _, ap own_frames f),
    record { fits = true; like = like-no_memory l m (seen-out l m o e ((s.each m o e).memory (ap is_some f))) },
  )
  keeps (Refuses b (TooLong long) v) = alike l (staged b.m b.o Idle l) (back b)
  keeps (Refuses b (NoRun device none) v) = alike l (staged b.m b.o Idle l) (back b)
  keeps {r = r} (Refuses b (Ungranted plain some u) v) = (
    asks-grab b plain some,
    record {
      fits = true;
      like =
          subst (λ y. IsLike y (view_of (staged b.m b.o Idle l)))
          (sym (ungranted (view_of l) b.m (zone_of_map b.o) (need_of (chunks b)) r u)) (back b);
    },
  )
  keeps (Waits b plain some have) = (
    asks-grab b plain some,
    record {
      fits = true;
      like =
          like-staged l b.m (record b.o { tried = true; stage = Waiting (waits_for b) }) (zone_of_map b.o)
          (view.Waiting (need_of (chunks b)))
          (ap (in_zone (Waiting (waits_for b))) (zone-is b plain some));
    },
  )
  keeps (Loads (AtOnce b plain none) f) = λ a g. loads-pageless b (chunks b) a g b.o.zone refl
  keeps (Loads (Device b device first spaces taken) f) =
      λ a g. loads-pageless b (device_chunks first 0 (asks b).entries) a g b.o.zone refl
  keeps (Loads (Granted b plain some pages) f) = (
    asks-grab b plain some,
    record {
      fits = true;
      like = ended-like l b.m b.o l.place (asks b) (chunks b) (addresses_of_pages pages) (zone_of_map b.o)
          (zone-is b plain some) true;
    },
  )
  keeps (Overflows (AtOnce b plain none) f) = overflows-pageless b
  keeps (Overflows (Device b device first spaces taken) f) = overflows-pageless b
  keeps (Overflows (Granted b plain some pages) f) = (
    asks-grab b plain some,
    record {
      fits = false;
      like = ended-like l b.m b.o l.place (asks b) (chunks b) (addresses_of_pages pages) (zone_of_map b.o)
          (zone-is b plain some) false;
    },
  )
  keeps (Unloads m o there i) = unloads-keep m o there i
  keeps _ = λ a g. g
