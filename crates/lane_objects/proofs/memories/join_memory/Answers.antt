use Rattle.std.proofs.Common.{◌≡◌, ℕ, ◌*◌, true, false, None, refl, sym, ap, ◌∙◌, subst, arith}
use Rattle.std.specs.FinMap.{contains_key, get, insert}
use Rattle.busdma_machine.specs.Bounce.MemoryRuns.{frames_from, in_run}
use Rattle.busdma_machine.specs.Runs.{run_of}
use Rattle.lane_tables.specs.Places.{Places}
use Rattle.loan_table.specs.Table.{AreNew, set_all}
use Rattle.memory_pages.specs.Placed.{Comes, IsWithout}
use Rattle.lane_state.specs.declared.kept.KeptMemory.{KeptMemory}
use Rattle.lane_state.specs.Covered.{AreStanding, Reaches}
use Rattle.lane_state.specs.Held.{devices_of, held}
use Rattle.lane_state.specs.Ideal.{ideal_of}
use Rattle.lane_state.specs.Kept.{memory_of}
use Rattle.lane_state.specs.MapValues.{map_values}
use Rattle.lane_objects.proofs.Joining.{frames-new, held-joined, joined-covered, joined-framed, joined-known}
use Rattle.lane_objects.proofs.Joining.{joined-own}
use Rattle.lane_objects.proofs.Joining.{joined-placed, joined-reaches, joined-standing, marks-new, run-low}
use Rattle.lane_state.proofs.MapValues.{map_values-insert}
use Rattle.lane_state.proofs.Awaiting.{still-awaiting, still-ready}
use Rattle.lane_state.specs.Awaiting.{AreOfMaps}
use Rattle.lane_state.proofs.OfMaps.{of-maps-join}
use Rattle.lane_objects.proofs.memories.join_memory.Goals as goal

pub put-requires-clause-room : goal.put-requires-clause-room
put-requires-clause-room c =
    let room = c.requires.room.memory in
    let count = c.requires.count in
    omega (arith, room, count)

pub put-requires-clause-row : goal.put-requires-clause-row
put-requires-clause-row c = c.requires.row ∙ ap (λ n. frames_from n c.args.kept.first.0) (sym c.requires.count)

pub put-requires-clause-all : goal.put-requires-clause-all
put-requires-clause-all c =
    let all = c.requires.all in
    let count = c.requires.count in
    omega (arith, all, count)

pub put-requires-clause-without : goal.put-requires-clause-without
put-requires-clause-without c =
    subst (IsWithout c.args.holdings.now.memory.memory c.args.kept.first.0) (sym c.requires.count)
    (frames-new c.args.holdings.now c.requires.wired c.args.kept.first.0 c.args.kept.count c.requires.new)

pub add_reserved-requires-clause-below : goal.add_reserved-requires-clause-below
add_reserved-requires-clause-below c =
    let low = run-low c.args.holdings.now c.requires.wired c.args.kept.first.0 c.args.kept.count c.requires.new in
    let same = c.from.ensures in
    omega (arith, low, same)

pub add_reserved-requires-clause-fresh : goal.add_reserved-requires-clause-fresh
add_reserved-requires-clause-fresh c =
    subst (λ n. AreNew c.args.holdings.now.loans.bytes (run_of c.args.kept.first.0 (4096 * n))) (sym c.from.ensures)
    (marks-new c.args.holdings.now c.requires.wired c.args.kept.first.0 c.args.kept.count c.requires.new)

pub invariant_of-holdings : goal.invariant_of-holdings
invariant_of-holdings c =
    let h = c.args.holdings.now in
    let kept = c.args.kept in
    let first = kept.first.0 in
    let n = kept.count in
    let m = c.put.new.memory.memory in
    let come = subst (λ k. Comes h.memory.memory m first k kept.memory.len) c.requires.count c.put.ensures.come in
    let map : c.put-2.new.self.map ≡ insert h.memories.map c.place-place.result kept =
    ap (λ (t : Places KeptMemory). t.map) c.put-2.ensures in
    let vacant : get h.memories.map c.place-place.result ≡ None =
    ap (get h.memories.map) c.place-place.ensures ∙ c.requires.vacant in
    let marked = c.add_reserved.ensures.bytes
    ∙ ap (λ k. set_all h.loans.bytes (run_of first (4096 * k)) c.args.zero) c.from.ensures in
    record {
      covered = joined-covered h c.requires.wired first n c.requires.new kept.memory.len m come
          c.add_reserved.new.self.bytes c.args.zero marked;
      reaches = subst (λ t. Reaches h.pages.now t m) (sym map)
          (joined-reaches h c.requires.wired first n c.requires.new kept.memory.len m come c.place-place.result kept
          vacant
          refl refl refl c.put.ensures.reached);
      framed = joined-framed h c.requires.wired first n c.requires.new kept.memory.len m come;
      placed = joined-placed h c.requires.wired first n c.requires.new kept.memory.len m come;
      standing = subst (λ t. AreStanding t m) (sym map)
          (joined-standing h c.requires.wired first n c.requires.new kept.memory.len m come c.place-place.result kept
          vacant
          refl refl refl);
      tag_places = h.tag_places;
      map_places = h.map_places;
      memory_places = omega (arith, ap (λ (t : Places KeptMemory). t.places) c.put-2.ensures, h.memory_places);
      ring_places = h.ring_places;
      loaded = λ k. ap (λ ls. contains_key ls k) c.add_reserved.ensures.loans ∙ h.loaded k;
      unlent = h.unlent;
      promised = h.promised;
      own_returns = h.own_returns;
      returning = h.returning;
      tried = h.tried;
      awaiting = still-awaiting h c.add_reserved.new.self.prepared c.add_reserved.ensures.prepared;
      ready = subst (λ t. AreOfMaps h.pages.now t c.add_reserved.new.self.prepared) (sym map)
          (of-maps-join h.pages.now h.memories.map c.add_reserved.new.self.prepared
          (still-ready h c.add_reserved.new.self.prepared c.add_reserved.ensures.prepared) c.place-place.result kept
          vacant);
    }

pub returns-clause-done : goal.returns-clause-done
returns-clause-done c =
    let h = c.args.holdings.now in
    let kept = c.args.kept in
    let first = kept.first.0 in
    let n = kept.count in
    let m = c.put.new.memory.memory in
    let come = subst (λ k. Comes h.memory.memory m first k kept.memory.len) c.requires.count c.put.ensures.come in
    let marked = c.add_reserved.ensures.bytes
    ∙ ap (λ k. set_all h.loans.bytes (run_of first (4096 * k)) c.args.zero) c.from.ensures in
    let others = λ (a : ℕ) (e : in_run first n a ≡ false). c.put.ensures.others a
    (ap (λ k. in_run first k a) c.requires.count ∙ e) in
    let zeros = λ (z : c.args.zero ≡ true) (a : ℕ) (e : in_run first n a ≡ true). c.put.ensures.zeros z a
    (ap (λ k. in_run first k a) c.requires.count ∙ e) in
    let memory = (λ i. held c.add_reserved.new.self.bytes (c.add_reserved.ensures.loans i) (devices_of h.maps.map) m)
    ∙ held-joined h c.requires.wired first n c.requires.new kept.memory.len m come c.add_reserved.new.self.bytes
    c.args.zero marked others zeros in
    let mems = ap (λ (t : Places KeptMemory). map_values memory_of t.map) c.put-2.ensures
    ∙ map_values-insert memory_of h.memories.map c.place-place.result kept
    ∙ ap (λ p. insert (ideal_of h).mems p (memory_of kept)) c.place-place.ensures in
    λ i. record (ideal_of h) { mems = mems i; memory = memory i; loans = c.add_reserved.ensures.loans i }

pub returns-clause-bytes : goal.returns-clause-bytes
returns-clause-bytes c =
    let h = c.args.holdings.now in
    let kept = c.args.kept in
    let first = kept.first.0 in
    let n = kept.count in
    let m = c.put.new.memory.memory in
    let come = subst (λ k. Comes h.memory.memory m first k kept.memory.len) c.requires.count c.put.ensures.come in
    let marked = c.add_reserved.ensures.bytes
    ∙ ap (λ k. set_all h.loans.bytes (run_of first (4096 * k)) c.args.zero) c.from.ensures in
    let others = λ (a : ℕ) (e : in_run first n a ≡ false). c.put.ensures.others a
    (ap (λ k. in_run first k a) c.requires.count ∙ e) in
    let zeros = λ (z : c.args.zero ≡ true) (a : ℕ) (e : in_run first n a ≡ true). c.put.ensures.zeros z a
    (ap (λ k. in_run first k a) c.requires.count ∙ e) in
    let memory = (λ i. held c.add_reserved.new.self.bytes (c.add_reserved.ensures.loans i) (devices_of h.maps.map) m)
    ∙ held-joined h c.requires.wired first n c.requires.new kept.memory.len m come c.add_reserved.new.self.bytes
    c.args.zero marked others zeros in
    record {
      own = λ a before after. joined-own h c.requires.wired first n c.requires.new kept.memory.len m come
          c.add_reserved.new.self.bytes c.args.zero marked others zeros a before;
      known = λ a v none is. joined-known h c.requires.wired first n c.requires.new kept.memory.len m come
          c.add_reserved.new.self.bytes c.args.zero marked others zeros a v none (ap (λ f. f a) (sym memory) ∙ is);
      pages = λ q. refl;
    }
