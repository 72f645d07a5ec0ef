-- A driver with one more operation at the end of its script still has all that a lane keeps. Nothing of that looks past
-- the driver's place, except for what is asked of each single operation.
use Rattle.std.proofs.Common.{◌≡◌, ℕ, zero, suc, ◌+◌, ◌≤◌, Bool, true, false, if◌then◌else◌, List, [], ◌∷◌, ◌++◌}
use Rattle.std.proofs.Common.{length}
use Rattle.std.proofs.Common.{drop, map, Option, Some, None, IfSome, refl, sym, ap, ◌∙◌, subst, arith, slice_get}
use Rattle.std.proofs.Common.{◌==◌, ◌&&◌, not, is_some}
use Rattle.std.proofs.lemmas.Bool.{and_parts, eqb-true}
use Rattle.std.proofs.lemmas.List.Sums.{sum_by-cons}
use Rattle.std.specs.FinMap.{get}
use Rattle.std.specs.List.{AllByRecursion, sum_by}
use Rattle.std.specs.Option.{option_and_then, option_map}
use Rattle.busdma_base.specs.declared.scenarios.script.Op.{Op}
use Rattle.busdma_base.specs.declared.scenarios.script.Op.TheVariants as op
use Rattle.busdma_base.specs.Scenarios.Buffers.{HasClusters}
use Rattle.busdma_base.specs.Scenarios.Limits.{buffer_limit, loaded_limit}
use Rattle.busdma_base.specs.Scenarios.Operations.{about, items_of, loaded_by}
use Rattle.busdma_base.specs.Scenarios.Valid.{LoadsFrom}
use Rattle.busdma_machine.specs.Machine.Wire.{Wire, with_bytes_of}
use Rattle.phys_memory.specs.Memory.{wire}
use Rattle.ideal_lane.specs.Ahead.{items_ahead, maps_items}
use Rattle.ideal_lane.specs.Scripts.{with_script}
use Rattle.ideal_lane.specs.Sends.{HaveClusters, Send, due_send, send_at, send_of}
use Rattle.ideal_lane.specs.Standing.{Stands}
use Rattle.ideal_lane.specs.State.{LaneState, LaneMap, Stage, Idle, Waiting, Loaded, Returning, WaitingLoad}
use Rattle.ideal_lane.proofs.ScriptLaws.{same-bio}
use Rattle.ideal_lane.proofs.ScriptedRuns.{found-before}
use Rattle.ideal_wire.specs.Answered.{Load, load_asked_by, load_at}
use Rattle.ideal_wire.specs.Apart.{IsApart}
use Rattle.ideal_wire.specs.Centre.{IsFaithful}
use Rattle.ideal_wire.specs.Laid.{AreLaid, IsAwaited, IsLaid, IsOwnByte, LiesIn, OfMemory, OfPages}
use Rattle.ideal_wire.specs.Machine.{IsInMachine}
use Rattle.ideal_wire.specs.Mapped.{AreMapped, IsMapped}
use Rattle.ideal_wire.specs.Spaced.{AreSpaced}
use Rattle.ideal_wire.specs.Traces.{stage_at}
use Rattle.lane_state.specs.declared.holdings.Holdings.{Holdings}
use Rattle.lane_state.specs.Covered.{pages_due}
use Rattle.lane_state.specs.Held.{devices_of, held}
use Rattle.lane_state.specs.Ideal.{ideal_of}
use Rattle.lane_state.specs.Kept.{map_of, memory_of, return_of}
use Rattle.lane_state.specs.Kept.{kept_ring, kept_share, spaces_of, tag_of}
use Rattle.lane_state.specs.MapValues.{map_values}
use Rattle.lane_state.specs.SmallLoads.{HasSmallLoads, bytes_ahead, loaded_once}
use Rattle.lane_state.specs.Wire.{IsWired, held_pages, wire_of}
use Rattle.lane_core.specs.Appending.{KeepsButScript, MayFollow, is_ready, with_next}
use Rattle.std.proofs.Common.{Result, Ok, Err, OnOk, OnErr}
use Rattle.busdma_machine.specs.Bounce.Door.{Seen}
use Rattle.busdma_base.specs.declared.journals.journal.Side.TheVariants as side
use Rattle.ideal_lane.specs.Asking.{goes_on}
use Rattle.ideal_lane.specs.Turns.{Turned, lane_step, operation, waits, went_on}
use Rattle.ideal_lane.proofs.ScriptedRuns.{next-is}
use Rattle.lane_state.specs.Served.{IsServed}
use Rattle.lane_tables.specs.declared.queued.QueuedPage.{QueuedPage}
use Rattle.lane_tables.specs.Schedule.{Schedule}
use Rattle.lane_turns.specs.TakenTurns.{IsTurned}
use Rattle.lane_core.proofs.LaneCalls.{IsLane}
use mathlib.Core.Logic.{∥∥₁_map}

-- ---- lists

all-more : {X : Type 0} (P : X → Type 0) (xs : List X) (x : X) → AllByRecursion P xs → P x →
    AllByRecursion P (xs ++ x ∷ [])
all-more P [] x h p = (p, tt)
all-more P (y ∷ xs) x h p = (h.0, all-more P xs x h.1 p)

drop-more : {X : Type 0} (xs : List X) (x : X) → drop (length xs) (xs ++ x ∷ []) ≡ x ∷ []
drop-more [] x = refl
drop-more (y ∷ xs) x = drop-more xs x

-- what holds at each place, and of the new thing, holds at each place of the longer list
each-more : {X : Type 0} (P : X → Type 0) (xs : List X) (x : X) → ((p : ℕ) (y : X) → slice_get xs p ≡ Some y → P y) →
    P x →
    (p : ℕ) (y : X) → slice_get (xs ++ x ∷ []) p ≡ Some y → P y
each-more P [] x each new zero y e = let same : x ≡ y = cc in subst P same new
each-more P [] x each new (suc p) y e = absurd (cc)
each-more P (z ∷ xs) x each new zero y e = each zero y e
each-more P (z ∷ xs) x each new (suc p) y e = each-more P xs x (λ q w there. each (suc q) w there) new p y e

-- ---- the ideal driver

module _ (l : LaneState) (o : Op) where
  abbrev n : LaneState
  n = with_next o l

  undue-none : (b : Bool) (q : Option Send) → b ≡ false → (if b then q else None) ≡ None
  undue-none true q e = absurd (cc)
  undue-none false q e = refl

  due-none : l.due ≡ false → due_send n ≡ None
  due-none e = undue-none l.due (send_at n.script l.place) e

  longer-machine : IsInMachine l → l.due ≡ false → LoadsFrom l.pages o → IfSome (about o).loads HasClusters →
      IsInMachine n
  longer-machine h undue bios clusters = record {
    numbered = h.numbered;
    pages = h.pages;
    mems = h.mems;
    tags = h.tags;
    bios = all-more (LoadsFrom l.pages) l.script o h.bios bios;
    clusters = all-more (λ o. IfSome (about o).loads HasClusters) l.script o h.clusters clusters;
    unlike = h.unlike;
    due = λ s e. let off : None ≡ Some s = sym (due-none undue) ∙ e in absurd (cc);
  }

  -- a load at a place of the script is still there, whatever the driver does
  asked-same : (q : Op) (s : LaneState) (script : List Op) → load_asked_by q (with_script script s) ≡ load_asked_by q s
  asked-same (op.Load m b flags items) s script =
      ap (option_map (λ x. record { map = m; bio = x })) (same-bio script s b)
  asked-same (op.Tag name parent limits) s script = refl
  asked-same (op.IommuTag name limits) s script = refl
  asked-same (op.TagDestroy t) s script = refl
  asked-same (op.Map name t) s script = refl
  asked-same (op.MapDestroy m) s script = refl
  asked-same (op.Dmamem name t flags) s script = refl
  asked-same (op.DmamemFree m) s script = refl
  asked-same (op.Unload m) s script = refl
  asked-same (op.Sync m ops) s script = refl
  asked-same (op.SyncRange m off len ops) s script = refl
  asked-same (op.CpuRead p len) s script = refl
  asked-same (op.CpuWrite p bytes) s script = refl
  asked-same (op.Await m) s script = refl
  asked-same (op.Ring name mem slots) s script = refl
  asked-same (op.RingPost k slot m off len kind fill) s script = refl
  asked-same (op.Kick k steps) s script = refl

  told-more : (k : ℕ) (x : Load) (s : LaneState) → s.script ≡ n.script →
      load_at (with_script l.script s) k ≡ Some x → load_at s k ≡ Some x
  told-more k x s is told = by (slice_get l.script k) refl told
    where
      by : (q : Option Op) → slice_get l.script k ≡ q →
          option_and_then (λ o. load_asked_by o (with_script l.script s)) q ≡ Some x → load_at s k ≡ Some x
      by None e h = absurd (cc)
      by (Some q) e h =
          ap (λ ops. option_and_then (λ o. load_asked_by o s) (slice_get ops k)) is
          ∙ (ap (option_and_then (λ o. load_asked_by o s)) (found-before l.script (o ∷ []) k q e)
          ∙ (sym (asked-same q s l.script) ∙ h))

  own-more : (a : ℕ) → IsOwnByte n a → IsOwnByte l a
  own-more a (OfPages is) = OfPages is
  own-more a (OfMemory k x there inside) = OfMemory k x there inside

  own-less : (a : ℕ) → IsOwnByte l a → IsOwnByte n a
  own-less a (OfPages is) = OfPages is
  own-less a (OfMemory k x there inside) = OfMemory k x there inside

  lies-more : (m : ℕ) (s : Stage) → LiesIn l m s → LiesIn n m s
  lies-more m Idle h = h
  lies-more m (Waiting w) h = record {
    unlent = h.unlent;
    some = h.some;
    named = h.named;
    own = h.own;
    counted = h.counted;
    told = λ s is. told-more w.load_at (record { map = m; bio = w.bio }) s is (h.told (with_script l.script s) refl);
  }
  lies-more m (Loaded bounced segments pages) h = record {
    coherent = h.coherent;
    bytes = λ i p at. loadable (get l.mems m) p.pa (h.bytes i p at);
    first = h.first;
    direct = h.direct;
    paged = h.paged;
    extents = h.extents;
    chunks = h.chunks;
    trace = h.trace;
  }
    where
      loadable : (x : _) (a : ℕ) → Rattle.ideal_wire.specs.Laid.is_loadable x l a ≡ true →
          Rattle.ideal_wire.specs.Laid.is_loadable x n a ≡ true
      loadable None a e = e
      loadable (Some x) a e = e
  lies-more m Returning h = h

  longer-laid : AreLaid l → AreLaid n
  longer-laid h = record {
    owned = λ a own. h.owned a (own-more a own);
    only = λ a is. ∥∥₁_map (h.only a is) (own-less a);
    runs = h.runs;
    reached = h.reached;
    each = λ m. lies-more m (stage_at l m) (h.each m);
  }

  longer-apart : IsApart l → IsApart n
  longer-apart h = record { away = h.away; one = h.one; pages = h.pages; memories = h.memories }

  longer-spaced : AreSpaced l → AreSpaced n
  longer-spaced h = record { each = h.each; none = h.none }

  longer-mapped : AreMapped l → AreMapped n
  longer-mapped h = record {
    each = λ m o there device loaded.
        let x = h.each m o there device loaded in record { run = x.run; found = x.found };
    alone = h.alone;
  }

  longer-items : l.place ≡ length l.script → items_ahead n ≡ length (items_of o) + maps_items l.maps
  longer-items at =
      let rest : drop l.place (l.script ++ o ∷ []) ≡ o ∷ [] =
      ap (λ k. drop k (l.script ++ o ∷ [])) at ∙ drop-more l.script o in
      let one = sum_by-cons (λ (q : Op). length (items_of q)) o [] in
      omega (arith, ap (sum_by (λ (q : Op). length (items_of q))) rest, one)

-- ---- what is held

module _ (script : List Op) (h k : Holdings) (s : KeepsButScript h k) (is : k.script ≡ script) where
  pub same-but-script : ideal_of k ≡ with_script script (ideal_of h)
  same-but-script = λ i. record {
    id = (s.id i).0;
    maxmem = s.maxmem i;
    script = is i;
    place = s.place i;
    due = s.due i;
    pages = (s.pages i).now;
    tags = map_values tag_of (s.tags i);
    maps = map_values map_of (s.maps i);
    mems = map_values memory_of (s.memories i);
    rings = map_values kept_ring (s.rings i);
    memory = held (s.loans i).bytes (s.loans i).loans (devices_of (s.maps i)) (s.memory i).memory;
    loans = (s.loans i).loans;
    queue = s.queue i;
    returns = map return_of (s.returns i);
    shares = kept_share (s.shares i).items;
    spaces = spaces_of (s.tags i);
  }

pub same-wire : (h k : Holdings) → KeepsButScript h k → wire_of k ≡ wire_of h
same-wire h k s = λ i. with_bytes_of (held_pages (s.maps i)) (wire (s.memory i).memory)

-- what is true of a driver that is ready
pub record IsReadyFor (l : LaneState) : Type 0 where
  pub ended : l.place ≡ length l.script
  pub undue : l.due ≡ false
  pub none : l.returns ≡ []

pub ready-for : (l : LaneState) → is_ready l ≡ true → IsReadyFor l
ready-for l e =
    let a = and_parts (l.place == length l.script) (not l.due && not (is_some (slice_get l.returns 0))) e in
    let b = and_parts (not l.due) (not (is_some (slice_get l.returns 0))) a.1 in
    record {
      ended = eqb-true l.place (length l.script) a.0;
      undue = off l.due b.0;
      none = nothing l.returns b.1;
    }
  where
    off : (b : Bool) → not b ≡ true → b ≡ false
    off true e = absurd (cc)
    off false e = refl

    nothing : {X : Type 0} (rs : List X) → not (is_some (slice_get rs 0)) ≡ true → rs ≡ []
    nothing [] e = refl
    nothing (r ∷ rest) e = absurd (cc)

module _ (h k : Holdings) (s : KeepsButScript h k) (o : Op) (is : k.script ≡ h.script ++ o ∷ [])
    (may : MayFollow o (ideal_of h) h.agenda.promised) where
  abbrev l : LaneState
  l = ideal_of h

  at : IsReadyFor l
  at = ready-for l may.ready

  next : ideal_of k ≡ with_next o l
  next = same-but-script (h.script ++ o ∷ []) h k s is

  pub appended-wired : IsWired h → IsWired k
  appended-wired w = record {
    machine = subst IsInMachine (sym next) (longer-machine l o w.machine at.undue may.bios may.clusters);
    laid = subst AreLaid (sym next) (longer-laid l o w.laid);
    apart = subst IsApart (sym next) (longer-apart l o w.apart);
    spaced = subst AreSpaced (sym next) (longer-spaced l o w.spaced);
    mapped = subst (λ n. ∥ AreMapped n ∥₁) (sym next) (∥∥₁_map w.mapped (longer-mapped l o));
    faithful = subst (λ n. IsFaithful n (wire_of k)) (sym next)
        (subst (IsFaithful (with_next o l)) (sym (same-wire h k s)) w.faithful);
  }

  pub appended-stands : ∥ Stands l ∥₁ → ∥ Stands (ideal_of k) ∥₁
  appended-stands h = subst (λ n. ∥ Stands n ∥₁) (sym next) h

  pub appended-small : HasSmallLoads h → HasSmallLoads k
  appended-small small = record {
    each = subst (λ ops. (p : ℕ) (q : Op) → slice_get ops p ≡ Some q → loaded_once q ≤ buffer_limit) (sym is)
        (each-more (λ q. loaded_once q ≤ buffer_limit) h.script o small.each may.small);
    due = omega (arith, small.due, s.promised, ap pages_due s.maps);
    few =
        let ahead : bytes_ahead (due_send (ideal_of k)) k.agenda.place k.script ≡ loaded_by o =
        (λ i. bytes_ahead (due_send (next i)) (s.place i) (is i))
        ∙ (ap (λ q. bytes_ahead q h.agenda.place (h.script ++ o ∷ [])) (due-none l o at.undue)
        ∙ (ap (sum_by loaded_by) (ap (λ p. drop p (h.script ++ o ∷ [])) at.ended ∙ drop-more h.script o)
        ∙ one)) in
        let few = may.few (omega (arith, small.few)) in
        omega (arith, ahead, few, s.promised);
  }
    where
      one : sum_by loaded_by (o ∷ []) ≡ loaded_by o
      one = let x = sum_by-cons loaded_by o [] in omega (arith, x)

  pub appended-room : items_ahead l ≤ h.agenda.room → h.agenda.room + length (items_of o) ≤ k.agenda.room →
      items_ahead (ideal_of k) ≤ k.agenda.room
  appended-room few room =
      let ahead = ap items_ahead next in
      let more = longer-items l o at.ended in
      let rest : maps_items l.maps ≤ items_ahead l = omega arith in
      omega (arith, ahead, more, rest, few, room)

-- ---- if memory runs out

module _ (h k : Holdings) (s : KeepsButScript h k) (is : k.script ≡ h.script) where
  pub same-ideal : ideal_of k ≡ ideal_of h
  same-ideal = same-but-script h.script h k s is

  pub kept-wired : IsWired h → IsWired k
  kept-wired w = record {
    machine = subst IsInMachine (sym same-ideal) w.machine;
    laid = subst AreLaid (sym same-ideal) w.laid;
    apart = subst IsApart (sym same-ideal) w.apart;
    spaced = subst AreSpaced (sym same-ideal) w.spaced;
    mapped = subst (λ n. ∥ AreMapped n ∥₁) (sym same-ideal) w.mapped;
    faithful = subst (λ n. IsFaithful n (wire_of k)) (sym same-ideal)
        (subst (IsFaithful (ideal_of h)) (sym (same-wire h k s)) w.faithful);
  }

  pub kept-small : HasSmallLoads h → HasSmallLoads k
  kept-small small = record {
    each = subst (λ ops. (p : ℕ) (q : Op) → slice_get ops p ≡ Some q → loaded_once q ≤ buffer_limit) (sym is)
        small.each;
    due = omega (arith, small.due, s.promised, ap pages_due s.maps);
    few =
        let ahead : bytes_ahead (due_send (ideal_of k)) k.agenda.place k.script
        ≡ bytes_ahead (due_send (ideal_of h)) h.agenda.place h.script =
        (λ i. bytes_ahead (due_send (same-ideal i)) (s.place i) (is i)) in
        omega (arith, ahead, small.few, s.promised);
  }

  pub kept-room : items_ahead (ideal_of h) ≤ h.agenda.room → h.agenda.room ≤ k.agenda.room →
      items_ahead (ideal_of k) ≤ k.agenda.room
  kept-room few room = let same = ap items_ahead same-ideal in omega (arith, same, few, room)

-- ---- after the call

module _ {A E : Type 0} (h k : Holdings) (s : KeepsButScript h k) (o : Op)
    (may : MayFollow o (ideal_of h) h.agenda.promised) where
  pub lane-after : (r : Result A E) → OnOk r (k.script ≡ h.script ++ o ∷ []) → OnErr r (k.script ≡ h.script) →
      IsLane h → k.agenda.length ≡ length k.script →
      OnOk r (h.agenda.room + length (items_of o) ≤ k.agenda.room) → OnErr r (h.agenda.room ≤ k.agenda.room) → IsLane k
  lane-after (Ok a) is off lane long room less = record {
    wired = appended-wired h k s o is may lane.wired;
    stands = appended-stands h k s o is may lane.stands;
    small = appended-small h k s o is may lane.small;
    length = long;
    room = appended-room h k s o is may lane.room room;
  }
  lane-after (Err e) is off lane long room less = record {
    wired = kept-wired h k s off lane.wired;
    stands = subst (λ n. ∥ Stands n ∥₁) (sym (same-ideal h k s off)) lane.stands;
    small = kept-small h k s off lane.small;
    length = long;
    room = kept-room h k s off lane.room less;
  }

  pub ideal-after : (r : Result A E) → OnOk r (k.script ≡ h.script ++ o ∷ []) →
      OnOk r (ideal_of k ≡ with_next o (ideal_of h))
  ideal-after (Ok a) is = same-but-script (h.script ++ o ∷ []) h k s is
  ideal-after (Err e) is = tt

  pub ideal-kept : (r : Result A E) → OnErr r (k.script ≡ h.script) → OnErr r (ideal_of k ≡ ideal_of h)
  ideal-kept (Ok a) off = tt
  ideal-kept (Err e) off = same-ideal h k s off

-- the account agrees with a driver, whatever the driver's script is
pub next-served : (l : LaneState) (o : Op) (d : Seen) → IsServed l d → IsServed (with_next o l) d
next-served l o d s = record {
  served = s.served;
  opening = s.opening;
  below = s.below;
  sound = s.sound;
  agrees =
      s.agrees;
}

-- the script's turn does the operation that the driver got
pub next-turned : (l n : LaneState) (o : Op) → n ≡ with_next o l → is_ready l ≡ true → waits o l ≡ false → (d e : Seen)
    (x : Turned) (held : Bool) → IsTurned d n.id (lane_step n side.Script) x held e →
    IsTurned d l.id (goes_on (went_on o l.place) (operation o (with_next o l))) x held e
next-turned l n o is ready free d e x held t =
    let at = ready-for l ready in
    let now : IsTurned d l.id (lane_step (with_next o l) side.Script) x held e =
    subst (λ (n : LaneState). IsTurned d n.id (lane_step n side.Script) x held e) is t in
    subst (λ s. IsTurned d l.id s x held e) (next-is l o at.ended at.none at.undue free) now

pub first-return : (rs : List QueuedPage) → is_some (slice_get (map return_of rs) 0) ≡ is_some (slice_get rs 0)
first-return [] = refl
first-return (r ∷ rest) = refl

-- ---- room

-- an agenda has at most one more place, and the same pages
pub record IsRoomier (a b : Schedule) : Type 0 where
  pub length : b.length ≤ a.length + 1
  pub returns : b.returns ≡ a.returns
  pub promised : b.promised ≡ a.promised

pub roomier : {A E : Type 0} (a b : Schedule) (items : ℕ) (r : Result A E) →
    OnOk r (b ≡ record a { length = a.length + 1; room = a.room + items }) → OnErr r (b ≡ a) → IsRoomier a b
roomier a b items (Ok x) is off = record {
  length = let e = ap (λ (s : Schedule). s.length) is in omega (arith, e);
  returns = ap (λ (s : Schedule). s.returns) is;
  promised = ap (λ (s : Schedule). s.promised) is;
}
roomier a b items (Err x) is off = record {
  length = let e = ap (λ (s : Schedule). s.length) off in omega (arith, e);
  returns = ap (λ (s : Schedule). s.returns) off;
  promised = ap (λ (s : Schedule). s.promised) off;
}
