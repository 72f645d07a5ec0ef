use Rattle.std.proofs.Common.{◌/◌, refl, ap, sym, ◌∙◌, arith}
use Rattle.std.specs.FinMap.{contains_key}
use Rattle.busdma_base.specs.declared.journals.answer.Answer.TheVariants.{Done}
use Rattle.busdma_machine.specs.Runs.{addresses}
use Rattle.ideal_lane.specs.Outcomes.{gives}
use Rattle.loan_table.specs.Table.{set_all}
use Rattle.lane_state.proofs.Awaiting.{still-awaiting, still-ready}
use Rattle.lane_state.proofs.Marks.{has_set_all}
use Rattle.lane_access.proofs.OwnWrites.{own-written}
use Rattle.lane_state.proofs.OwnBytes.{own-put}
use Rattle.lane_state.proofs.Reaching.{same-physical, same-placed, same-standing}
use Rattle.lane_state.proofs.WireBytes.{byte_count_addresses}
use Rattle.lane_access.proofs.Steps.{done-step}
use Rattle.lane_access.proofs.accesses.write_own.Goals as goal

pub note_write-requires-clause-total : goal.note_write-requires-clause-total
note_write-requires-clause-total c =
    let count = byte_count_addresses c.args.parts.now in
    let len = c.requires.len in
    omega (arith, count, len)

pub invariant_of-holdings-2 : goal.invariant_of-holdings-2
invariant_of-holdings-2 c =
    let h = c.args.holdings.now in
    let pas = addresses c.args.parts.now in
    let n = c.write_parts.new.memory.memory in
    let same = c.write_parts.ensures.same in
    let prepared = c.note_write.ensures.prepared ∙ c.reserve.ensures.same.prepared in
    record {
      covered = λ a. ap (λ b. contains_key b a) c.note_write.ensures.bytes
          ∙ ap (λ b. contains_key (set_all b pas _) a) c.reserve.ensures.same.bytes
          ∙ has_set_all h.loans.bytes pas _ c.requires.inside a
          ∙ h.covered a ∙ sym (same.frames (a / 4096));
      reaches = λ va. ap (λ t. t va) (same-physical h.memory.memory n same) ∙ h.reaches va;
      framed = λ f own. same.frames f ∙ h.framed f own;
      placed = same-placed h.memory.memory n same h.placed;
      standing = same-standing h.memories.map h.memory.memory n same h.standing;
      tag_places = h.tag_places;
      map_places = h.map_places;
      memory_places = h.memory_places;
      ring_places = h.ring_places;
      loaded = λ k. ap (λ b. contains_key b k) (c.note_write.ensures.loans ∙ c.reserve.ensures.same.loans) ∙ h.loaded k;
      unlent = h.unlent;
      promised = h.promised;
      own_returns = h.own_returns;
      returning = h.returning;
      tried = h.tried;
      awaiting = still-awaiting h c.note_write.new.self.prepared prepared;
      ready = still-ready h c.note_write.new.self.prepared prepared;
    }

pub returns : goal.returns
returns c =
    let h = c.args.holdings.now in
    let pas = addresses c.args.parts.now in
    let vs = c.args.bytes.now in
    let n = c.write_parts.new.memory.memory in
    done-step
    (ap (λ l. gives l Done)
    (own-written h c.requires.wired pas vs c.requires.inside n c.write_parts.ensures.wire c.requires.faithful
    c.requires.len c.note_write.new.self.bytes c.note_write.new.self.loans
    (c.note_write.ensures.bytes ∙ ap (λ b. set_all b pas _) c.reserve.ensures.same.bytes)
    (c.note_write.ensures.loans ∙ c.reserve.ensures.same.loans)))
    (own-put h c.requires.wired pas vs c.requires.inside n c.write_parts.ensures.wire) refl refl refl
