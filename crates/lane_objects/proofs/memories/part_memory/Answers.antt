use Rattle.std.proofs.Common.{◌≡◌, ◌*◌, is_some, refl, sym, ap, ◌∙◌, subst, arith}
use Rattle.std.specs.FinMap.{get, remove}
use Rattle.busdma_machine.specs.Runs.{run_of}
use Rattle.lane_tables.specs.Places.{Places}
use Rattle.loan_table.specs.Table.{AreFree, AreIn, without}
use Rattle.lane_state.specs.declared.kept.KeptMemory.{KeptMemory}
use Rattle.lane_state.specs.Held.{devices_of, held}
use Rattle.lane_state.specs.Ideal.{ideal_of}
use Rattle.lane_state.specs.Kept.{memory_of}
use Rattle.lane_state.specs.MapValues.{map_values}
use Rattle.lane_state.proofs.Keeping.{idle-unloaded, on-some}
use Rattle.lane_state.proofs.MapValues.{map_values-remove}
use Rattle.lane_objects.proofs.Parting.{held-parted, part-frames, part-free, part-low, part-marks, part-unprepared}
use Rattle.lane_objects.proofs.Parting.{part-whole, parted-covered, parted-framed, parted-known, parted-own}
use Rattle.lane_objects.proofs.Parting.{parted-placed, parted-reaches, parted-standing}
use Rattle.lane_state.proofs.Awaiting.{awaiting-ready, idle-unkept, less-other}
use Rattle.lane_state.specs.Awaiting.{AreOfMaps}
use Rattle.lane_state.proofs.OfMaps.{of-maps-part}
use Rattle.busdma_machine.specs.declared.name.MapId.{MapId}
use Rattle.busdma_rules.specs.Lending.Loans.{Loans}
use Rattle.std.specs.Ordering.{nat_cmp}
use Rattle.std.specs.FinMap.{FinMap}
use Rattle.std.proofs.Common.{ℕ, Bool}
use Rattle.lane_objects.proofs.memories.part_memory.Goals as goal

pub take-requires-clause-whole : goal.take-requires-clause-whole
take-requires-clause-whole c = part-whole c.args.holdings.now c.requires.wired c.args.mem c.args.kept c.requires.there

pub take-requires-clause-below : goal.take-requires-clause-below
take-requires-clause-below c = part-low c.args.holdings.now c.requires.wired c.args.mem c.args.kept c.requires.there

pub take-requires-clause-there : goal.take-requires-clause-there
take-requires-clause-there c = part-frames c.args.holdings.now c.requires.wired c.args.mem c.args.kept c.requires.there

pub drop_bytes-requires-clause-there : goal.drop_bytes-requires-clause-there
drop_bytes-requires-clause-there c =
    subst (λ (x : FinMap nat_cmp Bool × ℕ). AreIn x.0 (run_of c.args.kept.first.0 (4096 * x.1)))
    (λ i. (sym c.drop_prepared.ensures.bytes i, sym c.from.ensures i))
    (part-marks c.args.holdings.now c.requires.wired c.args.mem c.args.kept c.requires.there)

pub drop_bytes-requires-clause-free : goal.drop_bytes-requires-clause-free
drop_bytes-requires-clause-free c =
    subst (λ (x : Loans × ℕ). AreFree x.0 (run_of c.args.kept.first.0 (4096 * x.1)))
    (λ i. (sym c.drop_prepared.ensures.loans i, sym c.from.ensures i))
    (part-free c.args.holdings.now c.requires.wired c.args.mem c.args.kept c.requires.there c.requires.idle)

pub drop_bytes-requires-clause-unprepared : goal.drop_bytes-requires-clause-unprepared
drop_bytes-requires-clause-unprepared c =
    let prepared = c.drop_prepared.ensures.prepared
    ∙ ap (λ (x : MapId). remove c.args.holdings.now.loans.prepared x.made_at) c.map_id-id.ensures in
    subst (λ (x : Loans × ℕ). AreFree x.0 (run_of c.args.kept.first.0 (4096 * x.1)))
    (λ i. (sym prepared i, sym c.from.ensures i))
    (part-unprepared c.args.holdings.now c.requires.wired c.args.mem c.args.kept c.requires.there)

pub drop_prepared-requires : goal.drop_prepared-requires
drop_prepared-requires c =
    let h = c.args.holdings.now in
    ap (λ (x : MapId). is_some (get h.loans.loans x.made_at)) c.map_id-id.ensures ∙ h.loaded c.args.mem
    ∙ idle-unloaded (get h.maps.map c.args.mem) c.requires.idle

pub invariant_of-holdings : goal.invariant_of-holdings
invariant_of-holdings c =
    let h = c.args.holdings.now in
    let mem = c.args.mem in
    let kept = c.args.kept in
    let m = c.take.new.memory.memory in
    let taken = on-some c.take-2.result kept (c.take-2.ensures.value ∙ c.requires.there) c.take-2.ensures.taken in
    let map : c.take-2.new.self.map ≡ remove h.memories.map mem = ap (λ (t : Places KeptMemory). t.map) taken in
    let marked = c.drop_bytes.ensures.bytes
    ∙ (λ i. without (c.drop_prepared.ensures.bytes i) (run_of kept.first.0 (4096 * c.from.ensures i))) in
    let ls = c.drop_bytes.new.self.prepared in
    let prepared : ls ≡ remove h.loans.prepared mem =
    c.drop_bytes.ensures.prepared ∙ c.drop_prepared.ensures.prepared
    ∙ ap (λ (x : MapId). remove h.loans.prepared x.made_at) c.map_id-id.ensures in
    record {
      covered = parted-covered h c.requires.wired mem kept c.requires.there m c.take.ensures.go
          c.drop_bytes.new.self.bytes marked c.take.ensures.bytes;
      reaches = subst (λ t. Rattle.lane_state.specs.Covered.Reaches h.pages.now t m) (sym map)
          (parted-reaches h c.requires.wired mem kept c.requires.there m c.take.ensures.go c.take.ensures.reached);
      framed = parted-framed h c.requires.wired mem kept c.requires.there m c.take.ensures.go;
      placed = parted-placed h c.requires.wired mem kept c.requires.there m c.take.ensures.go;
      standing = subst (λ t. Rattle.lane_state.specs.Covered.AreStanding t m) (sym map)
          (parted-standing h c.requires.wired mem kept c.requires.there m c.take.ensures.go);
      tag_places = h.tag_places;
      map_places = h.map_places;
      memory_places = omega (arith, ap (λ (t : Places KeptMemory). t.places) taken, h.memory_places);
      ring_places = h.ring_places;
      loaded = λ k. ap (λ ls. Rattle.std.specs.FinMap.contains_key ls k)
          (c.drop_bytes.ensures.loans ∙ c.drop_prepared.ensures.loans) ∙ h.loaded k;
      unlent = h.unlent;
      promised = h.promised;
      own_returns = h.own_returns;
      returning = h.returning;
      tried = h.tried;
      awaiting = awaiting-ready h.pages.now h.maxmem h.tags.map h.maps.map h.loans.prepared h.awaiting mem ls
          (idle-unkept (get h.maps.map mem) c.requires.idle) (less-other h.loans.prepared ls mem prepared);
      ready = subst (λ (x : FinMap nat_cmp KeptMemory × Loans). AreOfMaps h.pages.now x.0 x.1)
          (λ i. (sym map i, sym prepared i))
          (of-maps-part h.pages.now h.memories.map h.loans.prepared h.ready mem);
    }

pub returns-clause-done : goal.returns-clause-done
returns-clause-done c =
    let h = c.args.holdings.now in
    let mem = c.args.mem in
    let kept = c.args.kept in
    let m = c.take.new.memory.memory in
    let taken = on-some c.take-2.result kept (c.take-2.ensures.value ∙ c.requires.there) c.take-2.ensures.taken in
    let marked = c.drop_bytes.ensures.bytes
    ∙ (λ i. without (c.drop_prepared.ensures.bytes i) (run_of kept.first.0 (4096 * c.from.ensures i))) in
    let memory = (λ i. held c.drop_bytes.new.self.bytes ((c.drop_bytes.ensures.loans ∙ c.drop_prepared.ensures.loans) i)
    (devices_of h.maps.map) m)
    ∙ held-parted h c.requires.wired mem kept c.requires.there m c.take.ensures.go c.drop_bytes.new.self.bytes marked
    c.take.ensures.bytes in
    let mems = ap (λ (t : Places KeptMemory). map_values memory_of t.map) taken
    ∙ map_values-remove memory_of h.memories.map mem in
    λ i. record (ideal_of h) {
      mems = mems i;
      memory = memory i;
      loans =
          (c.drop_bytes.ensures.loans ∙ c.drop_prepared.ensures.loans) i;
    }

pub returns-clause-bytes : goal.returns-clause-bytes
returns-clause-bytes c =
    let h = c.args.holdings.now in
    let mem = c.args.mem in
    let kept = c.args.kept in
    let m = c.take.new.memory.memory in
    let marked = c.drop_bytes.ensures.bytes
    ∙ (λ i. without (c.drop_prepared.ensures.bytes i) (run_of kept.first.0 (4096 * c.from.ensures i))) in
    let memory = (λ i. held c.drop_bytes.new.self.bytes ((c.drop_bytes.ensures.loans ∙ c.drop_prepared.ensures.loans) i)
    (devices_of h.maps.map) m)
    ∙ held-parted h c.requires.wired mem kept c.requires.there m c.take.ensures.go c.drop_bytes.new.self.bytes marked
    c.take.ensures.bytes in
    record {
      own = λ a before after. parted-own h c.requires.wired mem kept c.requires.there m c.take.ensures.go
          c.drop_bytes.new.self.bytes marked c.take.ensures.bytes a (ap (λ f. is_some (f a)) (sym memory) ∙ after);
      known = λ a v none is. parted-known h c.requires.wired mem kept c.requires.there m c.take.ensures.go
          c.drop_bytes.new.self.bytes marked c.take.ensures.bytes a v none (ap (λ f. f a) (sym memory) ∙ is);
      pages = λ q. refl;
    }
