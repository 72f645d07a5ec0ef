use Rattle.std.proofs.Common.{◌≡◌, ℕ, ◌+◌, ◌/◌, ◌<◌, ◌++◌, List, length, map, take, drop, ap, sym, subst, ◌∙◌}
use Rattle.std.proofs.Common.{arith, get_or, length-append, length-drop, refl}
use Rattle.std.proofs.lemmas.List.{drop_more}
use Rattle.std.specs.List.{AllByRecursion}
use Rattle.busdma_machine.specs.declared.machine.address.Extent.{Extent}
use Rattle.busdma_machine.specs.Machine.Wire.{Wire, put}
use Rattle.busdma_machine.specs.Runs.{IsExtent, addresses, run_of}
use Rattle.phys_memory.specs.Extents.{LiesInFrames}
use Rattle.phys_memory.specs.Memory.{wire}
use Rattle.phys_memory.proofs.Extents.{length-run_of}
use Rattle.phys_memory.proofs.RunParts.{all_drop, all_imply}
use Rattle.phys_memory.proofs.SameFrames.{same_refl, same_trans}
use Rattle.mbuf_defrag.specs.Copying.{IsAway}
use Rattle.mbuf_defrag.specs.CopySteps.{IsThere, rest_of}
use Rattle.mbuf_defrag.proofs.Copies.{all_back, all_front, all_there, bytes_length, put_on, take_and_drop, take_size}
use Rattle.mbuf_defrag.proofs.Walk.{no_extent}
use Rattle.mbuf_defrag.proofs.copying.copy.Goals as goal

pub loop-target-init : goal.loop-target-init
loop-target-init c =
    let begins = c.new-source.ensures in
    let w : Wire = wire c.args.memory.now.memory in
    record {
      left = ap (λ xs. put (addresses c.args.to.now) (map w xs) w) begins;
      apart = subst (AllByRecursion (IsAway (addresses c.args.to.now))) (sym begins) c.requires.apart;
      there = subst (AllByRecursion (IsThere c.args.memory.now.memory)) (sym begins)
          (all_there c.args.memory.now.memory c.args.from.now c.requires.from.extents c.requires.from.frames);
      alike = ap length begins ∙ bytes_length c.args.from.now ∙ c.requires.alike ∙ sym (bytes_length c.args.to.now);
      lies = c.requires.to;
      same = same_refl c.args.memory.now.memory;
      spare = refl;
    }

-- the bytes of the next extent and of the extents after it
next_bytes : (es : List Extent) (i : ℕ) → i < length es →
    addresses (drop i es) ≡ run_of (get_or es i no_extent).pa.0 (get_or es i no_extent).len
    ++ addresses (drop (i + 1) es)
next_bytes es i h = ap addresses (drop_more es i no_extent h)

pub copy_into-requires-clause-enough : goal.copy_into-requires-clause-enough
copy_into-requires-clause-enough c =
    let t : Extent = get_or c.args.to.now c.loop-target.target-index no_extent in
    let more : List ℕ = addresses (drop (c.loop-target.target-index + 1) c.args.to.now) in
    let split = next_bytes c.args.to.now c.loop-target.target-index c.loop-target-test.true in
    let alike = c.loop-target.invariant.alike in
    omega (arith, alike, ap length split, length-append (run_of t.pa.0 t.len) more, length-run_of t.pa.0 t.len)

pub copy_into-requires-clause-there : goal.copy_into-requires-clause-there
copy_into-requires-clause-there c =
    let before = c.loop-target.invariant in
    all_imply (IsThere c.args.memory.now.memory) (IsThere c.loop-target.memory.memory)
    (λ a p. record { numbered = p.numbered; found = before.same.frames (a / 4096) ∙ p.found })
    (rest_of c.loop-target.source) before.there

pub copy_into-requires-clause-apart : goal.copy_into-requires-clause-apart
copy_into-requires-clause-apart c =
    let t : Extent = get_or c.args.to.now c.loop-target.target-index no_extent in
    let more : List ℕ = addresses (drop (c.loop-target.target-index + 1) c.args.to.now) in
    all_front (run_of t.pa.0 t.len) more (rest_of c.loop-target.source)
    (subst (λ xs. AllByRecursion (IsAway xs) (rest_of c.loop-target.source))
    (next_bytes c.args.to.now c.loop-target.target-index c.loop-target-test.true) c.loop-target.invariant.apart)

pub loop-target-preserved : goal.loop-target-preserved
loop-target-preserved c =
    let t : Extent = get_or c.args.to.now c.loop-target.target-index no_extent in
    let before = c.loop-target.invariant in
    let more : List ℕ = addresses (drop (c.loop-target.target-index + 1) c.args.to.now) in
    let run : List ℕ = run_of t.pa.0 t.len in
    let split : addresses (drop c.loop-target.target-index c.args.to.now) ≡ run ++ more =
    next_bytes c.args.to.now c.loop-target.target-index c.loop-target-test.true in
    let source : List ℕ = rest_of c.loop-target.source in
    let rest : rest_of c.copy_into.new.source ≡ drop t.len source = c.copy_into.ensures.rest in
    let w : Wire = wire c.loop-target.memory.memory in
    let now : Wire = wire c.copy_into.new.memory.memory in
    let alike = before.alike in
    let total : length source ≡ t.len + length more =
    alike ∙ ap length split ∙ length-append run more ∙ ap (λ k. k + length more) (length-run_of t.pa.0 t.len) in
    let even : length (take t.len source) ≡ length run =
    take_size t.len source (omega (arith, total)) ∙ sym (length-run_of t.pa.0 t.len) in
    let away : AllByRecursion (IsAway (run ++ more)) source =
    subst (λ xs. AllByRecursion (IsAway xs) source) split before.apart in
    let lies = drop_more c.args.to.now c.loop-target.target-index no_extent c.loop-target-test.true in
    record {
      left = ap (λ xs. put more (map now xs) now) rest
          ∙ sym (put_on run more (take t.len source) (drop t.len source) w now even
          (all_drop (IsAway run) t.len source (all_front run more source away)) c.copy_into.ensures.wire)
          ∙ ap (λ xs. put (run ++ more) (map w xs) w) (take_and_drop t.len source)
          ∙ ap (λ xs. put xs (map w source) w) (sym split) ∙ before.left;
      apart = subst (AllByRecursion (IsAway more)) (sym rest)
          (all_drop (IsAway more) t.len source (all_back run more source away));
      there = subst (AllByRecursion (IsThere c.args.memory.now.memory)) (sym rest)
          (all_drop (IsThere c.args.memory.now.memory) t.len source before.there);
      alike = ap length rest ∙ (omega (arith, total, length-drop t.len source));
      lies = record {
        extents = (subst (AllByRecursion IsExtent) lies before.lies.extents).1;
        frames = (subst (AllByRecursion (LiesInFrames c.args.memory.now.memory)) lies before.lies.frames).1;
      };
      same = same_trans _ _ _ before.same c.copy_into.ensures.same;
      spare = c.copy_into.ensures.spare ∙ before.spare;
    }
