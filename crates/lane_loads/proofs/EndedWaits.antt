-- The load of a map that has waited ends: what its end requires, and what it leaves.
use Rattle.std.proofs.Common.{◌≡◌, ℕ, ◌+◌, ◌≤◌, true, false, List, length, Some, None, refl, sym, ap}
use Rattle.std.proofs.Common.{◌∙◌, subst, arith, is_some, slice_get, IfSome}
use Rattle.std.specs.FinMap.{get, insert, contains_key}
use Rattle.busdma_base.specs.declared.journals.answer.Answer.{Answer}
use Rattle.busdma_machine.specs.declared.report.Judged.TheVariants.{Fine}
use Rattle.busdma_machine.specs.declared.machine.bio.Bio.{Bio}
use Rattle.busdma_machine.specs.declared.machine.chunk.Chunk.{Chunk}
use Rattle.busdma_base.specs.Scenarios.Limits.{loaded_limit}
use Rattle.lane_state.specs.declared.kept.KeptLoad.{KeptLoad}
use Rattle.dma_map.specs.declared.room.LoadRoom.{LoadRoom}
use Rattle.dma_map.specs.MapView as held
use Rattle.ideal_lane.specs.Ahead.{items_ahead}
use Rattle.ideal_lane.specs.Loads.{Asked, asked, chunks_for, finished, limits_of, load_entries}
use Rattle.ideal_lane.specs.Outcomes.{Outcome}
use Rattle.ideal_lane.specs.Sends.{due_send}
use Rattle.ideal_lane.specs.Standing.{Stands}
use Rattle.ideal_lane.specs.State.{LaneMap, LaneState, Waiting, WaitingLoad}
use Rattle.ideal_lane.specs.Turns.{called}
use Rattle.lane_state.specs.declared.holdings.Holdings.{Holdings}
use Rattle.lane_state.specs.declared.kept.KeptMap.{KeptMap}
use Rattle.lane_state.specs.Awaiting.{kept_load}
use Rattle.lane_state.specs.SmallLoads.{HasSmallLoads, bytes_ahead}
use Rattle.lane_state.specs.Changes.{KeepsButMaps, KeepsBytesBut}
use Rattle.lane_state.specs.Covered.{is_idle_map, pages_due}
use Rattle.lane_state.specs.Ideal.{given, ideal_of}
use Rattle.lane_state.specs.Kept.{map_of, kept_stage, waits_of}
use Rattle.lane_state.specs.Loading.{AreItsFirst, HasRoomForAny, IsLoadable, bio_chunks, bio_of, bio_reached}
use Rattle.lane_state.specs.Loading.{load_loan, map_chunks}
use Rattle.lane_loads.proofs.Asked.{plain-chunks}
use Rattle.lane_loads.proofs.AwaitedLoads.{IsAwaited, waits-with}
use Rattle.lane_state.proofs.Called.{KeepsLoad, load-kept}
use Rattle.lane_loads.proofs.CalledLoads.{called-is, finished-free, finished-stays, items-within}
use Rattle.lane_state.proofs.Returned.{idled}
use Rattle.lane_state.proofs.TakenLoads.{taken, taken-bytes, taken-due, taken-ideal, taken-idle, taken-promised}
use Rattle.lane_state.proofs.TakenLoads.{taken-stands, taken-there}
use Rattle.lane_state.proofs.TakenLoads as freed

module _ (h k : Holdings) (m at : ℕ) (callback : KeptLoad) (room : LoadRoom)
    (found : kept_load (get h.maps.map m) ≡ Some (at, callback, room))
    (maps : (o : KeptMap) → get h.maps.map m ≡ Some o → k.maps.map ≡ insert h.maps.map m (idled o))
    (rest : KeepsButMaps h k) where
  abbrev l : LaneState
  l = ideal_of h

  abbrev kept : (x : KeptMap) × (get h.maps.map m ≡ Some x) × (x.map.stage ≡ held.waiting at callback room)
  kept = load-kept (get h.maps.map m) at callback room found

  abbrev o : KeptMap
  o = kept.0

  abbrev load : KeepsLoad o.map.stage
  load = record { load_at = at; callback = callback; room = room; is = kept.2 }

  abbrev idle : LaneMap
  idle = freed.idle h k m o kept.1 load (maps o kept.1) rest

  now : ideal_of k ≡ taken h k m o kept.1 load (maps o kept.1) rest
  now = taken-ideal h k m o kept.1 load (maps o kept.1) rest

  image : get l.maps m ≡ Some (map_of o)
  image = freed.image h k m o kept.1 load (maps o kept.1) rest

  abbrev w : WaitingLoad
  w = waits_of at callback

  waits : (map_of o).stage ≡ Waiting w
  waits = ap kept_stage kept.2

  pub ends-stands : Stands l → Stands (ideal_of k)
  ends-stands = taken-stands h k m o kept.1 load (maps o kept.1) rest

  pub ends-idle : is_idle_map (get k.maps.map m) ≡ true
  ends-idle = taken-idle h k m o kept.1 load (maps o kept.1) rest

  -- there are as many pages as the load needs
  module _ (count : ℕ) (need : IfSome (kept_load (get h.maps.map m)) (λ x. count ≡ x.1.need)) where
    needed : count ≡ callback.need
    needed = subst (λ q. IfSome q (λ x. count ≡ x.1.need)) found need

    pub ends-promised : pages_due k.maps.map + count ≤ k.agenda.promised
    ends-promised = taken-promised h k m o kept.1 load (maps o kept.1) rest count needed

  pub ends-bytes : (n : Holdings) → KeepsBytesBut m k n → KeepsBytesBut m h n
  ends-bytes n bytes =
      let same = taken-bytes h k m o kept.1 load (maps o kept.1) rest in
      record { own = bytes.own ∙ same.own; pages = λ q off. bytes.pages q off ∙ same.pages q }

  module _ (stands : Stands l) where
    abbrev is : IsAwaited h m callback room
    is = waits-with h stands m at callback room found

    pub ends-items : items_ahead l ≤ h.agenda.room → length callback.items ≤ k.agenda.room
    ends-items few =
        let within : length callback.items ≤ items_ahead l = items-within l m (map_of o) image w waits in
        let same : k.agenda.room ≡ h.agenda.room = ap (λ a. a.room) rest.agenda in
        omega (arith, within, same, few)

    -- the map is not a memory's
    none : get (ideal_of k).mems m ≡ None
    none = ap (λ (y : LaneState). get y.mems m) now ∙ is.own

    abbrev bio : Bio
    bio = bio_of callback.bytes

    pub ends-reached : bio_reached (ideal_of k) bio ≡ Fine
    ends-reached = ap (λ s. bio_reached s bio) now ∙ is.reached

    pub ends-first : AreItsFirst (ideal_of k) m bio
    ends-first x found = let no = sym none ∙ found in absurd (cc)

    pub ends-loadable : IsLoadable k.pages.now bio
    ends-loadable = subst (λ p. IsLoadable p.now bio) (sym rest.most.pages) is.loadable

    pub ends-room : (count : ℕ) → IfSome (kept_load (get h.maps.map m)) (λ x. count ≡ x.1.need) →
        (y : LaneMap) → get (ideal_of k).maps m ≡ Some y →
        HasRoomForAny (limits_of (ideal_of k) y) (map_chunks (ideal_of k) m y bio) count room
    ends-room count need y there =
        let at_hand = taken-there h k m o kept.1 load (maps o kept.1) rest in
        let same : idle ≡ y = cc in
        subst (λ (cs : List Chunk). HasRoomForAny (limits_of (ideal_of k) y) cs count room)
        (sym (plain-chunks (ideal_of k) m y bio none))
        (subst (λ (p : LaneState × LaneMap × ℕ). HasRoomForAny (limits_of p.0 p.1) (bio_chunks p.0 p.1 bio) p.2 room)
        (λ i. (sym now i, same i, sym (needed count need) i)) (is.fits (map_of o) image))

    pub ends-prepared : get k.loans.prepared m ≡ Some (load_loan (ideal_of k) m bio)
    ends-prepared =
        ap (λ t. get t.prepared m) rest.most.loans ∙ is.prepared ∙ sym (ap (λ s. Some (load_loan s m bio)) now)

    module _ (n : Holdings) (a : Answer) (pages : List ℕ) (done : (y : LaneMap) (x : Asked) →
        get (ideal_of k).maps m ≡ Some y → x.entries ≡ load_entries (ideal_of k) bio → x.items ≡ callback.items →
        given n a ≡ finished m y at x (map_chunks (ideal_of k) m y bio) pages (ideal_of k)) where
      abbrev asks : Asked
      asks = asked m bio false callback.items l

      no-memory : contains_key l.mems m ≡ false
      no-memory = ap is_some is.own

      ended : given n a ≡ finished m (map_of o) at asks
          (chunks_for l (map_of o) (contains_key l.mems m) asks.entries) pages l
      ended =
          done idle asks (taken-there h k m o kept.1 load (maps o kept.1) rest)
          (sym (ap (λ s. load_entries s bio) now)) refl
          ∙ ap (λ cs. finished m idle at asks cs pages (ideal_of k)) (plain-chunks (ideal_of k) m idle bio none)
          ∙ (λ i. finished m idle at asks (bio_chunks (now i) idle bio) pages (now i))
          ∙ finished-free l m (map_of o) at asks (bio_chunks l (map_of o) bio) pages
          ∙ (λ i. finished m (map_of o) at asks (chunks_for l (map_of o) (sym no-memory i) asks.entries) pages l)

      pub ends-done : given n a ≡ called m (get l.maps m) pages l
      ends-done = ended ∙ sym (called-is l m (map_of o) w pages image waits)

      pub ends-few : HasSmallLoads h → n.agenda.place ≡ k.agenda.place → n.agenda.promised ≤ k.agenda.promised →
          (count : ℕ) → IfSome (kept_load (get h.maps.map m)) (λ x. count ≡ x.1.need) →
          n.agenda.promised + pages_due k.maps.map + count ≡ k.agenda.promised + pages_due n.maps.map →
          HasSmallLoads n
      ends-few small same less count need due =
          let chunks = chunks_for l (map_of o) (contains_key l.mems m) asks.entries in
          let stays = finished-stays l m (map_of o) at asks chunks pages in
          let script : n.script ≡ h.script = ap (λ (x : Outcome). x.lane.script) ended ∙ stays.script in
          let resend : due_send (ideal_of n) ≡ due_send l = ap (λ (x : Outcome). due_send x.lane) ended ∙ stays.due in
          let place : n.agenda.place ≡ h.agenda.place = same ∙ ap (λ a. a.place) rest.agenda in
          let promised : k.agenda.promised ≡ h.agenda.promised = ap (λ a. a.promised) rest.agenda in
          let ahead : bytes_ahead (due_send (ideal_of n)) n.agenda.place n.script ≡
          bytes_ahead (due_send l) h.agenda.place h.script =
          (λ i. bytes_ahead (resend i) (place i) (script i)) in
          let few : h.agenda.promised + bytes_ahead (due_send l) h.agenda.place h.script ≤ loaded_limit = small.few in
          let needs : count ≡ callback.need = needed count need in
          let before : h.agenda.promised ≡ pages_due h.maps.map = small.due in
          let taken = taken-due h k m o kept.1 load (maps o kept.1) rest in
          record {
            due = omega (arith, due, needs, before, taken, promised);
            each = λ p x found. small.each p x (sym (ap (λ s. slice_get s p) script) ∙ found);
            few = omega (arith, few, ahead, less, promised);
          }
