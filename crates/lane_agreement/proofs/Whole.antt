-- All calls of a driver, and what its replies bring.
use Rattle.std.proofs.Common.{◌≡◌, ℕ, ◌%◌, Bool, true, false, not, List, [], ◌∷◌, take, length, refl, sym, ap, ◌∙◌}
use Rattle.std.proofs.Common.{subst, arith, eqb, leb, if◌then◌else◌, ◌==◌, Option, Some, None, All}
use Rattle.std.proofs.lemmas.Bool.{eqb-true, eq-eqb, leb-true}
use Rattle.std.proofs.lemmas.List.{length-take-le}
use Rattle.std.proofs.lemmas.List.Elements.{All-head, All-tail}
use Rattle.std.specs.List.{count_by}
use Rattle.busdma_machine.specs.declared.machine.address.Pa.{Pa}
use Rattle.busdma_machine.specs.declared.name.MapId.{MapId}
use Rattle.busdma_machine.specs.declared.bounce.zone.Waiter.{Waiter}
use Rattle.busdma_machine.specs.declared.bounce.hold.HubCall.{HubCall}
use Rattle.busdma_machine.specs.declared.bounce.hold.HubCall.TheVariants.{AttachTag, CreateMap, DestroyMap, Grab}
use Rattle.busdma_machine.specs.declared.bounce.hold.HubCall.TheVariants.{Release}
use Rattle.busdma_machine.specs.declared.bounce.hold.HubCall.TheVariants.{TakeCallback, MemAlloc, MemFree}
use Rattle.busdma_machine.specs.declared.bounce.hold.HoldEntry.{HoldEntry}
use Rattle.busdma_machine.specs.Bounce.Account.{Account, zone_at, free}
use Rattle.busdma_machine.specs.Bounce.MemoryRuns.{frames_for, lowest_run}
use Rattle.busdma_machine.specs.Bounce.AccountStep.{AccountReply, account_step, as_pages}
use Rattle.busdma_machine.specs.Bounce.AccountStep.{grabbed, called_from, released}
use Rattle.busdma_machine.specs.Bounce.AccountStep.{memory_placed}
use Rattle.busdma_machine.specs.Bounce.Serving.{handed, waiting_at_tail}
use Rattle.busdma_machine.specs.declared.bounce.hold.HubReply.TheVariants.{Nothing, Granted, Queued, NoPages, Called}
use Rattle.lane_agreement.proofs.Places.{no-returns, waits-tells, head-waits}
use Rattle.busdma_machine.specs.Bounce.Conditions.{MayCall, times_held}
use Rattle.busdma_machine.specs.Bounce.History.{IsFrame, IsOpening, IsSound, account_of}
use Rattle.busdma_machine.specs.Bounce.Places.{times}
use Rattle.busdma_machine.specs.Bounce.WellFormed.{IsAccountWellFormed}
use Rattle.busdma_machine.proofs.Accounts.Counts.{in_zones, shorter-enough}
use Rattle.busdma_machine.proofs.Accounts.Places.{where-history, places-opening, times-rising}
use Rattle.busdma_machine.proofs.Accounts.WellFormed.{account-well, well-opening}
use Rattle.busdma_machine.proofs.Accounts.Rising.{bank-rises}
use Rattle.lane_agreement.specs.View.{View, Return, Idle, Waiting}
use Rattle.lane_agreement.specs.View.{Loaded, view_staged, view_given_back, is_astray, zone_in}
use Rattle.busdma_machine.specs.Bounce.Share.{Same, share}
use Rattle.lane_agreement.specs.OwnShare.{share_of, share_if}
use Rattle.lane_agreement.specs.Agreement.{Agrees, IsFit}
use Rattle.lane_agreement.specs.After.{after, after_mem_alloc, MayAsk, IsFront, IsFresh}
use Rattle.busdma_machine.proofs.Accounts.Names.{Same-refl, name-attached}
use Rattle.lane_agreement.proofs.Own.{count-one}
use Rattle.lane_agreement.proofs.Asking.{known, agrees-may}
use Rattle.lane_agreement.proofs.Steps.{Stepped, stepped, agrees-kept, agrees-changed, its_map, agrees-back}
use Rattle.lane_agreement.proofs.Steps.{agrees-grab, agrees-callback, agrees-create, agrees-destroy}
use Rattle.lane_agreement.proofs.Steps.{agrees-with_memory, agrees-without_memory}
use Rattle.lane_agreement.proofs.Runs.{lowest_run-frames}

release : (l : View) (m : MapId) (z page : ℕ) (rs : List Return) (a : Account) → Agrees l a → m.lane.0 ≡ l.id →
    l.returns ≡ rs → IsFront rs m.made_at z page
    → times_held m z page a ≡ 1 → Stepped a (released m z page a).account →
    Agrees (view_given_back l rs) (released m z page a).account
release l m z page [] a agrees own is f = absurd f
release l m z page (r ∷ rs) a agrees own is f =
    let same : its_map l r rs a agrees is ≡ m =
    ap (λ k. record { lane = record { 0 = k }; made_at = r.map }) (sym own)
    ∙ ap (λ k. record { lane = m.lane; made_at = k }) f.0 in
    subst (λ (n : MapId). times_held n z page a ≡ 1 → Stepped a (released n z page a).account →
    Agrees (view_given_back l (r ∷ rs)) (released n z page a).account) same
    (subst (λ k. times_held (its_map l r rs a agrees is) k page a ≡ 1 →
    Stepped a (released (its_map l r rs a agrees is) k page a).account →
    Agrees (view_given_back l (r ∷ rs)) (released (its_map l r rs a agrees is) k page a).account) f.1
    (subst (λ k. times_held (its_map l r rs a agrees is) r.zone k a ≡ 1 →
    Stepped a (released (its_map l r rs a agrees is) r.zone k a).account →
    Agrees (view_given_back l (r ∷ rs)) (released (its_map l r rs a agrees is) r.zone k a).account) f.2
    (agrees-back l r rs a agrees is)))

allocate : (l : View) (m : MapId) (len boundary limit : ℕ) (first : Option ℕ) (a : Account) → IsFit a → Agrees l a →
    m.lane.0 ≡ l.id → l.mem_at m.made_at ≡ None → lowest_run len boundary limit a.bank ≡ first
    → Stepped a (memory_placed m (frames_for len) first a).account →
    Agrees (after_mem_alloc l m.made_at (memory_placed m (frames_for len) first a).reply)
    (memory_placed m (frames_for len) first a).account
allocate l m len boundary limit None a fit agrees own here is s = agrees
allocate l m len boundary limit (Some first) a fit agrees own here is s =
    let whole : count_by (λ f. not (f % 4096 == 0)) a.bank ≡ 0 = omega (arith, fit.whole) in
    agrees-with_memory l m first (frames_for len) _ a agrees own here
    (lowest_run-frames len boundary limit first a.bank fit.rising whole is) s

-- after its own call, the driver that has followed the reply agrees with the new account
pub agrees-step : (fits : Bool) (l : View) (c : HubCall) (a : Account) → IsFit a → Agrees l a → MayAsk l c →
    Agrees (after fits l c (account_step l.id c a).reply) (account_step l.id c a).account
agrees-step fits l c a fit agrees asks =
    step c asks (agrees-may l a c agrees asks) (stepped l.id c a (agrees-may l a c agrees asks) fit.well)
  where
    step : (c : HubCall) → MayAsk l c → MayCall l.id c a → Stepped a (account_step l.id c a).account →
        Agrees (after fits l c (account_step l.id c a).reply) (account_step l.id c a).account
    step (AttachTag t) asks may s = agrees-kept l a _ agrees s (λ m. name-attached m t a)
    step (CreateMap m t first_done) asks may s = agrees-create l m t first_done a agrees asks.0 asks.2 s
    step (DestroyMap m z) asks may s = agrees-destroy l m z.0 a agrees asks.0 (in_zones a m z.0 may.1) asks.1 s
    step (Grab m z need nowait) asks may s =
        agrees-grab fits l m z.0 need nowait a agrees asks.0 (in_zones a m z.0 may.2) asks.2 s
    step (Release m z page) asks may s = release l m z.0 page.0 l.returns a agrees asks.0 refl asks.1 may.1 s
    step TakeCallback asks may s = agrees-callback fits l a.ready a agrees refl s
    step (MemAlloc m t) asks may s =
        allocate l m t.maxsize t.boundary t.lowaddr.0
        (lowest_run t.maxsize t.boundary t.lowaddr.0 a.bank) a fit agrees asks.0 asks.1 refl s
    step (MemFree m) asks may s = agrees-without_memory l m a agrees asks.0 s

-- what holds of every account that a sound history leads to
whole_frames : (fs : List ℕ) → All IsFrame fs → count_by (λ f. not (f % 4096 == 0)) fs ≡ 0
whole_frames [] all = refl
whole_frames (f ∷ fs) all =
    let here : (f % 4096 == 0) ≡ true = eq-eqb (f % 4096) 0 (All-head IsFrame f fs all).whole in
    omega (
      arith,
      count-one (λ f. not (f % 4096 == 0)) f fs,
      ap (λ b. share_if (not b)) here,
      whole_frames fs (All-tail IsFrame f fs all),
    )

pub fit-reached : (o : Account) (es : List HoldEntry) → IsOpening o → IsSound o es → IsFit (account_of o es)
fit-reached o es opening sound = record {
  well = account-well o es opening sound;
  rising = bank-rises o es opening sound;
  whole = where-history (λ f. not (f % 4096 == 0)) o es (well-opening o opening) sound
      ∙ rw (opening.zones, opening.held, opening.mems) (omega (arith, whole_frames o.bank opening.frames));
}

-- a load that needs no page calls nobody
pub agrees-loaded : (l : View) (k z : ℕ) (a : Account) → Agrees l a →
    l.map_at k ≡ Some (record { zone = z; stage = Idle }) → Agrees (view_staged l k z (Loaded [])) a
agrees-loaded l k z a agrees here =
    let n : MapId = record { lane = record { 0 = l.id }; made_at = k } in
    let g : Same (share_of k (Some (record { zone = z; stage = Idle })) (l.mem_at k) l.returns) (share n a) =
    known l a n _ agrees refl here in
    agrees-changed l n _ _ l.returns a a agrees refl (record { places = λ f. refl; maxmem = refl })
    (λ m off. Same-refl (share m a)) (no-returns k l.returns)
    (record {
      made = g.made;
      in_zones = g.in_zones;
      holds = g.holds;
      holds_page = g.holds_page;
      waits = g.waits;
      listed = g.listed;
      mems = g.mems;
      frames = g.frames;
    }) (λ h. agrees.returns k (rw here refl))
    (subst (λ o. count_by (is_astray k (zone_in o)) l.returns ≡ 0) here (agrees.zones k))

-- a fresh driver agrees with an opening that has none of its frames
pub agrees-opening : (l : View) (a : Account) → IsFresh l → IsOpening a → l.maxmem ≡ a.maxmem →
    ((f : ℕ) → l.own_frame f ≡ true → times f a.bank ≡ 0) → Agrees l a
agrees-opening l a fresh opening maxmem off = record {
  apart = λ f e. places-opening f a opening ∙ off f e;
  one = λ f. omega (arith, places-opening f a opening, times-rising f a.bank opening.rising);
  maxmem = maxmem;
  names = λ m own. rw (fresh.maps m.made_at, fresh.mems m.made_at, fresh.returns) (empty m);
  returns = λ k e. rw fresh.returns refl;
  zones = λ k. rw fresh.returns refl;
}
  where
    empty : (m : MapId) → Same (share_of m.made_at None None []) (share m a)
    empty m = record {
      made = λ z. rw opening.zones refl;
      in_zones = rw opening.zones refl;
      holds = rw opening.held refl;
      holds_page = λ z p. rw opening.held refl;
      waits = λ z d. rw (opening.zones, opening.ready) refl;
      listed = rw (opening.zones, opening.ready) refl;
      mems = rw opening.mems refl;
      frames = rw opening.mems refl;
    }

-- a load gets as many pages as it needs
pages_length : (ps : List ℕ) → length (as_pages ps) ≡ length ps
pages_length [] = refl
pages_length (p ∷ ps) = omega (arith, pages_length ps)

pub granted-length : (n : MapId) (z need : ℕ) (nowait : Bool) (a : Account) (pages : List Pa) →
    (grabbed n z need nowait a).reply ≡ Granted pages → length pages ≡ need
granted-length n z need nowait a pages =
    (elim (leb need (free a z)) as (λ v. leb need (free a z) ≡ v →
    (let o : AccountReply = if v then record {
      account = handed a n z need;
      reply = Granted (as_pages (take need (zone_at a z).avail));
    }
    else (if nowait then record { account = a; reply = NoPages }
    else record { account = waiting_at_tail a n z need; reply = Queued (free a z) }) in
    o.reply ≡ Granted pages → length pages ≡ need)) [
      | true ↦ λ t e. (let is : as_pages (take need (zone_at a z).avail) ≡ pages = cc in
          omega (
            arith,
            ap length is,
            pages_length (take need (zone_at a z).avail),
            length-take-le need (zone_at a z).avail (omega (arith, leb-true need (free a z) t)),
          ))
      | false ↦
          (elim nowait as (λ v. leb need (free a z) ≡ false →
          (let o : AccountReply = if v then record { account = a; reply = NoPages }
          else record { account = waiting_at_tail a n z need; reply = Queued (free a z) } in
          o.reply ≡ Granted pages → length pages ≡ need)) [
            | true ↦ λ t e. cc
            | false ↦ λ t e. cc
          ])
    ]) refl

abbrev pub Called_for : View → List Pa → MapId → Type 0
Called_for l pages n = (need : ℕ) × (n.lane.0 ≡ l.id) × (z : ℕ)
    × (l.map_at n.made_at ≡ Some (record { zone = z; stage = Waiting need })) × (length pages ≡ need)

pub called-length : (l : View) (ws : List Waiter) (a : Account) (m : MapId) (pages : List Pa) → IsAccountWellFormed a →
    Agrees l a → a.ready ≡ ws → (called_from ws l.id a).reply ≡ Called m pages
    → Called_for l pages m
called-length l [] a m pages well agrees is = λ e. absurd (none e)
  where
    none : Nothing ≡ Called m pages → ⊥
    none e = cc
called-length l (w ∷ ws) a m pages well agrees is =
    (elim (eqb w.map.lane.0 l.id) as (λ v. eqb w.map.lane.0 l.id ≡ v →
    (let o : AccountReply = if v then record {
      account = handed (record a { ready = ws }) w.map w.zone.0 w.need;
      reply = Called w.map (as_pages (take w.need (zone_at a w.zone.0).avail));
    } else record {
      account = a;
      reply =
          Nothing;
    } in o.reply ≡ Called m pages → Called_for l pages m)) [
      | true ↦ λ t e.
          (let own : w.map.lane.0 ≡ l.id = eqb-true w.map.lane.0 l.id t in
          let here : l.map_at w.map.made_at ≡ Some (record { zone = w.zone.0; stage = Waiting w.need }) =
          waits-tells (l.map_at w.map.made_at) w.zone.0 w.need
          (omega (arith, head-waits w ws a is, (agrees.names w.map own).waits w.zone.0 w.need)) in
          let map_is : w.map ≡ m = cc in
          let pages_are : as_pages (take w.need (zone_at a w.zone.0).avail) ≡ pages = cc in
          subst (Called_for l pages) map_is (
            w.need,
            own,
            w.zone.0,
            here,
            omega (
              arith,
              ap length pages_are,
              pages_length (take w.need (zone_at a w.zone.0).avail),
              length-take-le w.need (zone_at a w.zone.0).avail (omega (arith, shorter-enough a w ws is well)),
            ),
          ))
      | false ↦ λ t e. absurd (none e)
    ]) refl
  where
    none : Nothing ≡ Called m pages → ⊥
    none e = cc
