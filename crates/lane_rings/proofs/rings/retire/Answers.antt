use Rattle.std.proofs.Common.{◌≡◌, ℕ, ◌+◌, ◌/◌, ◌≤◌, ◌^◌, List, ◌∷◌, [], true, Some, None, IsSome, Option}
use Rattle.std.proofs.Common.{refl, ap, sym, ◌∙◌, subst, arith}
use Rattle.std.specs.FinMap.{get}
use Rattle.phys_memory.specs.Frames.{SamePages}
use Rattle.phys_memory.specs.Memory.{FrameMemory, memory_has_frame}
use Rattle.phys_memory.specs.Memory.{rewritten, wire, memory_written}
use Rattle.ideal_lane.specs.Outcomes.{load_length}
use Rattle.ideal_lane.specs.Rings.{head_at}
use Rattle.lane_state.specs.declared.kept.KeptMemory.{KeptMemory}
use Rattle.lane_state.specs.Ideal.{ideal_of}
use Rattle.lane_state.specs.Kept.{kept_ring}
use Rattle.lane_state.proofs.Reaching.{same-physical, same-placed, same-standing}
use Rattle.lane_state.proofs.WireBytes.{same_rewritten}
use Rattle.lane_rings.proofs.HeadBytes.{last-two, low, told-there, two-done, two-wire, whole}
use Rattle.lane_rings.proofs.rings.retire.Goals as goal

-- a write in a frame changes no page
unchanged : (m n : FrameMemory) (at : ℕ) (bytes : List ℕ) → memory_has_frame m (at / 4096) ≡ true → n
    ≡ rewritten m at bytes →
    SamePages m n
unchanged m n at bytes there is = subst (SamePages m) (sym is) (same_rewritten m at bytes there)

pub unreachable-requires : goal.unreachable-requires
unreachable-requires c = none (get c.args.holdings.now.memories.map c.args.ring.mem) c.in_default.ensures
    c.requires.memory
  where
    none : (o : Option KeptMemory) → None ≡ o → IsSome o → ⊥
    none None e s = absurd (cc)
    none (Some x) e s = absurd (cc)

pub head_in-requires : goal.head_in-requires
head_in-requires c =
    let h = c.args.holdings.now in
    low h c.requires.wired c.args.ring.mem c.in-Some.memory.now (sym c.in-Some.ensures)

pub overflow_add-owner : goal.overflow_add-owner
overflow_add-owner c =
    let h = c.args.holdings.now in
    let first : c.in-Some.memory.now.first.0 ≤ 2 ^ 42 =
    low h c.requires.wired c.args.ring.mem c.in-Some.memory.now (sym c.in-Some.ensures) in
    omega (arith, first, c.head_in.ensures)

pub write-requires-clause-there : goal.write-requires-clause-there
write-requires-clause-there c =
    told-there c.args.holdings.now c.requires.wired c.args.ring.mem c.in-Some.memory.now (sym c.in-Some.ensures)
    (head_at (kept_ring c.args.ring)) c.head_in.result.0 c.requires.readable c.head_in.ensures

pub write-requires-clause-inside : goal.write-requires-clause-inside
write-requires-clause-inside c =
    let h = c.args.holdings.now in
    let r = c.requires.readable in
    let first = whole h c.requires.wired c.args.ring.mem c.in-Some.memory.now (sym c.in-Some.ensures) r.map r.there
    r.loaded in
    omega (arith, first, c.head_in.ensures)

pub invariant_of-holdings : goal.invariant_of-holdings
invariant_of-holdings c =
    let h = c.args.holdings.now in
    let n = c.write.new.self.memory in
    let same = unchanged h.memory.memory n (c.head_in.result.0 + 14) (0 ∷ 1 ∷ [])
    (told-there h c.requires.wired c.args.ring.mem c.in-Some.memory.now (sym c.in-Some.ensures)
    (head_at (kept_ring c.args.ring)) c.head_in.result.0 c.requires.readable c.head_in.ensures)
    c.write.ensures.memory in
    record {
      covered = λ a. h.covered a ∙ sym (same.frames (a / 4096));
      reaches = λ va. ap (λ t. t va) (same-physical h.memory.memory n same) ∙ h.reaches va;
      framed = λ f own. same.frames f ∙ h.framed f own;
      placed = same-placed h.memory.memory n same h.placed;
      standing = same-standing h.memories.map h.memory.memory n same h.standing;
      tag_places = h.tag_places;
      map_places = h.map_places;
      memory_places = h.memory_places;
      ring_places = h.ring_places;
      loaded = h.loaded;
      unlent = h.unlent;
      promised = h.promised;
      own_returns = h.own_returns;
      returning = h.returning;
      tried = h.tried;
      awaiting = h.awaiting;
      ready = h.ready;
    }

pub returns : goal.returns
returns c =
    let h = c.args.holdings.now in
    let wired = c.requires.wired in
    let r = c.requires.readable in
    let m = c.args.ring.mem in
    let x = c.in-Some.memory.now in
    let here = sym c.in-Some.ensures in
    let at = head_at (kept_ring c.args.ring) in
    let place : c.head_in.result.0 + 14 ≡ x.first.0 + (at + 14) = omega (arith, c.head_in.ensures) in
    let range : at + 14 + 2 ≤ load_length (ideal_of h) m = omega (arith, r.range) in
    let known = last-two h wired m x here r.map r.there r.loaded at r.range r.fine in
    let now = c.write.ensures.wire ∙ ap (λ a. memory_written a (0 ∷ 1 ∷ []) (wire h.memory.memory)) place in
    record {
      done = two-done h wired m x here r.map r.there r.loaded (at + 14) range known c.requires.coherent
          c.write.new.self.memory now;
      wire = two-wire h wired m x here r.map r.there r.loaded (at + 14) range known c.requires.coherent
          c.write.new.self.memory now;
      script = refl;
      memories = refl;
      agenda = refl;
    }
