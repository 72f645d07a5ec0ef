use Rattle.std.proofs.Common.{◌≡◌, [], map, subst}
use Rattle.std.specs.List.{AllByRecursion}
use Rattle.std.specs.Prelude.{List, IfOk}
use Rattle.std.proofs.lemmas.Result.{IfOk-weaker}
use Rattle.busdma_machine.specs.Machine.Entry.{AreJoined}
use Rattle.busdma_machine.specs.Judging.{judged}
use Rattle.busdma_machine.specs.Runs.{IsExtent, addresses, run_of}
use Rattle.busdma_machine.specs.declared.machine.chunk.Part.{Part}
use Rattle.phys_memory.specs.declared.walk.Walked.{Walked}
use Rattle.phys_memory.specs.Memory.{memory_physical}
use Rattle.phys_memory.specs.Extents.{LiesInFrames}
use Rattle.busdma_rules.specs.Memory.Extents.{reached_addresses}
use Rattle.busdma_rules.specs.Memory.Translation.{physical_or_0, unreached}
use Rattle.phys_memory.specs.Walk.{IfParts, flat, verdict, walk_of, walked}
use Rattle.phys_memory.proofs.Reached.{IsHeld, memory_paged}
use Rattle.phys_memory.proofs.WalkLaws.{walk_is, verdict_is, walk_addresses, walk_extents, walk_has, walk_joined}
use Rattle.phys_memory.proofs.pages.LanePages.translate.Goals as goal

pub returns-clause-walk : goal.returns-clause-walk
returns-clause-walk c =
    let m = c.args.self.now.memory in
    let t = memory_physical m in
    let va = c.args.va.0 in
    let n = c.args.len in
    let walked_flat =
    subst (λ (ps : List Part). IfOk c.walk_parts.result (λ (w : Walked). w ≡ walked [] ps))
    c.parts_flat.ensures.parts c.walk_parts.ensures in
    IfOk-weaker c.walk_parts.result (λ (w : Walked). w ≡ walked [] (flat t va n))
    (λ (w : Walked). w ≡ walk_of (reached_addresses t va n) n) (λ w h. walk_is t va n w h) walked_flat

pub returns-clause-verdict : goal.returns-clause-verdict
returns-clause-verdict c =
    let m = c.args.self.now.memory in
    let t = memory_physical m in
    let va = c.args.va.0 in
    let n = c.args.len in
    let walked_flat =
    subst (λ (ps : List Part). IfOk c.walk_parts.result (λ (w : Walked). w ≡ walked [] ps))
    c.parts_flat.ensures.parts c.walk_parts.ensures in
    IfOk-weaker c.walk_parts.result (λ (w : Walked). w ≡ walked [] (flat t va n))
    (λ (w : Walked). verdict w ≡ judged (unreached t) 0 (run_of va n)) (λ w h. verdict_is t va n w h) walked_flat

pub returns-clause-addresses : goal.returns-clause-addresses
returns-clause-addresses c =
    let m = c.args.self.now.memory in
    let t = memory_physical m in
    let va = c.args.va.0 in
    let n = c.args.len in
    let paged = memory_paged m c.parts_flat.ensures.sound in
    let walked_flat =
    subst (λ (ps : List Part). IfOk c.walk_parts.result (λ (w : Walked). w ≡ walked [] ps))
    c.parts_flat.ensures.parts c.walk_parts.ensures in
    IfOk-weaker c.walk_parts.result (λ (w : Walked). w ≡ walked [] (flat t va n))
    (λ (w : Walked). IfParts w (λ es. addresses es ≡ map (physical_or_0 t) (run_of va n)))
    (λ w h. walk_addresses t va n w h (IsHeld m) paged) walked_flat

pub returns-clause-extents : goal.returns-clause-extents
returns-clause-extents c =
    let m = c.args.self.now.memory in
    let t = memory_physical m in
    let va = c.args.va.0 in
    let n = c.args.len in
    let paged = memory_paged m c.parts_flat.ensures.sound in
    let walked_flat =
    subst (λ (ps : List Part). IfOk c.walk_parts.result (λ (w : Walked). w ≡ walked [] ps))
    c.parts_flat.ensures.parts c.walk_parts.ensures in
    IfOk-weaker c.walk_parts.result (λ (w : Walked). w ≡ walked [] (flat t va n))
    (λ (w : Walked). IfParts w (AllByRecursion IsExtent))
    (λ w h. walk_extents t va n w h (IsHeld m) paged) walked_flat

pub returns-clause-joined : goal.returns-clause-joined
returns-clause-joined c =
    let m = c.args.self.now.memory in
    let t = memory_physical m in
    let va = c.args.va.0 in
    let n = c.args.len in
    let paged = memory_paged m c.parts_flat.ensures.sound in
    let walked_flat =
    subst (λ (ps : List Part). IfOk c.walk_parts.result (λ (w : Walked). w ≡ walked [] ps))
    c.parts_flat.ensures.parts c.walk_parts.ensures in
    IfOk-weaker c.walk_parts.result (λ (w : Walked). w ≡ walked [] (flat t va n)) (λ (w : Walked). IfParts w AreJoined)
    (λ w h. walk_joined t va n w h (IsHeld m) paged) walked_flat

pub returns-clause-frames : goal.returns-clause-frames
returns-clause-frames c =
    let m = c.args.self.now.memory in
    let t = memory_physical m in
    let va = c.args.va.0 in
    let n = c.args.len in
    let paged = memory_paged m c.parts_flat.ensures.sound in
    let walked_flat =
    subst (λ (ps : List Part). IfOk c.walk_parts.result (λ (w : Walked). w ≡ walked [] ps))
    c.parts_flat.ensures.parts c.walk_parts.ensures in
    IfOk-weaker c.walk_parts.result (λ (w : Walked). w ≡ walked [] (flat t va n))
    (λ (w : Walked). IfParts w (AllByRecursion (LiesInFrames m)))
    (λ w h. walk_has t va n w h (IsHeld m) paged) walked_flat
