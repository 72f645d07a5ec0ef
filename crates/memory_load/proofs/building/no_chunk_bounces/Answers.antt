use Rattle.std.proofs.Common.{length, [], ap, ◌∙◌}
use Rattle.busdma_machine.specs.Tags.TagFlags.{keep_pg_offset}
use Rattle.busdma_rules.specs.Segments.Chunks.{bounced_of}
use Rattle.memory_load.specs.MemoryLoad.{run_chunks, run_entries}
use Rattle.memory_load.proofs.Unbounced.{none_bounced, stay_placed, unbounced}
use Rattle.memory_load.proofs.building.no_chunk_bounces.Goals as goal

pub returns-clause-need : goal.returns-clause-need
returns-clause-need c =
    let t = c.args.tag.now in
    let cs = run_chunks t c.args.first.0 c.args.len in
    ap length (none_bounced cs (unbounced t 0 (run_entries c.args.first.0 c.args.len)))

pub returns-clause-bounced : goal.returns-clause-bounced
returns-clause-bounced c =
    let t = c.args.tag.now in
    let cs = run_chunks t c.args.first.0 c.args.len in
    let none = unbounced t 0 (run_entries c.args.first.0 c.args.len) in
    ap bounced_of (stay_placed (keep_pg_offset t.flags) cs [] none) ∙ none_bounced cs none
