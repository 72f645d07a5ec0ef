use Rattle.std.proofs.Common.{◌≡◌, ◌+◌, ◌-◌, min, length, map, ap, ◌∙◌, arith}
use Rattle.std.proofs.lemmas.List.{length-map}
use Rattle.busdma_machine.specs.Runs.{run_of}
use Rattle.phys_memory.specs.Memory.{wire}
use Rattle.busdma_rules.proofs.Segments.Places.{run_length}
use Rattle.map_sync.proofs.Extents.{extent_written, nothing_written}
use Rattle.map_sync.proofs.into_pages.copy_extent_in.Goals as goal

pub write-requires : goal.write-requires
write-requires c =
    let n = c.min-to.result - c.args.from in
    let at = c.args.extent.pa.0 + c.args.from in
    let count : length c.bytes_at-bytes.result.now ≡ n =
    ap length c.bytes_at-bytes.ensures ∙ length-map (run_of at n) (wire c.args.memory.now.memory) ∙ run_length at n in
    omega (arith, count, c.min-to.ensures, c.requires.inside, c.if-from-to.true)

pub returns-then-from-to-clause-bytes : goal.returns-then-from-to-clause-bytes
returns-then-from-to-clause-bytes c =
    let e = c.args.extent in
    let m = c.args.memory.now.memory in
    extent_written (wire m) c.args.from c.args.to c.args.bus.0 e.pa.0 e.len c.args.page.now
    c.write.new.self c.bytes_at-bytes.result.now
    c.write.ensures.whole c.requires.page c.requires.inside (omega (arith, c.min-to.ensures, c.if-from-to.true))
    (c.bytes_at-bytes.ensures
    ∙ ap (λ n. map (wire m) (run_of (e.pa.0 + c.args.from) (n - c.args.from))) c.min-to.ensures)
    c.write.ensures.page

pub returns-else-from-to-clause-bytes : goal.returns-else-from-to-clause-bytes
returns-else-from-to-clause-bytes c =
    nothing_written c.args.page.now c.args.from c.args.to c.args.bus.0 c.args.extent.len _
    (omega (arith, c.min-to.ensures, c.if-from-to.false))
