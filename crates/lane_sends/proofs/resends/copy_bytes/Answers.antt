use Rattle.std.proofs.Common.{◌/◌, true, ap, sym, ◌∙◌}
use Rattle.std.specs.FinMap.{contains_key}
use Rattle.busdma_machine.specs.Runs.{addresses}
use Rattle.lane_state.proofs.Awaiting.{still-awaiting, still-ready}
use Rattle.lane_state.proofs.Marks.{has_set_all}
use Rattle.lane_state.proofs.Reaching.{same-physical, same-placed, same-standing}
use Rattle.lane_sends.proofs.resends.copy_bytes.Goals as goal

pub invariant_of-holdings : goal.invariant_of-holdings
invariant_of-holdings c =
    let h = c.args.holdings.now in
    let n = c.copy.new.memory.memory in
    let same = c.copy.ensures.same in
    let prepared = c.note_write.ensures.prepared in
    record {
      covered = λ a. ap (λ b. contains_key b a) c.note_write.ensures.bytes
          ∙ has_set_all h.loans.bytes (addresses c.args.to.now) true c.requires.inside a
          ∙ h.covered a ∙ sym (same.frames (a / 4096));
      reaches = λ va. ap (λ t. t va) (same-physical h.memory.memory n same) ∙ h.reaches va;
      framed = λ f own. same.frames f ∙ h.framed f own;
      placed = same-placed h.memory.memory n same h.placed;
      standing = same-standing h.memories.map h.memory.memory n same h.standing;
      tag_places = h.tag_places;
      map_places = h.map_places;
      memory_places = h.memory_places;
      ring_places = h.ring_places;
      loaded = λ k. ap (λ b. contains_key b k) c.note_write.ensures.loans ∙ h.loaded k;
      unlent = h.unlent;
      promised = h.promised;
      own_returns = h.own_returns;
      returning = h.returning;
      tried = h.tried;
      awaiting = still-awaiting h c.note_write.new.self.prepared prepared;
      ready = still-ready h c.note_write.new.self.prepared prepared;
    }
