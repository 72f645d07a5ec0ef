-- A script of a driver with these pages: its operations, each counted after those before it.
use Rattle.std.specs.Prelude.{List, []}
use Rattle.busdma_base.specs.declared.scenarios.scenario.PageRun.{PageRun}
use Rattle.busdma_base.specs.declared.scenarios.script.Op.{Op}
use Rattle.scenario_format.specs.Json.Read.{Read, ◌>>=◌}
use Rattle.scenario_format.specs.Json.Field.{Spot, members_of}
use Rattle.scenario_format.specs.Json.Items.{read_items, each}
use Rattle.scenario_format.specs.declared.counts.Counts.{Counts}
use Rattle.busdma_base.specs.declared.scenarios.words.OpWord.{OpWord}
use Rattle.busdma_base.specs.declared.scenarios.words.OpWord.TheVariants as word
use Rattle.scenario_format.specs.Parts.Counts.{with_ops, one_step_counted, steps_judged}
use Rattle.scenario_format.specs.Scripts.Loads.{read_load, read_load_vector, read_load_mbuf, read_load_bio}
use Rattle.scenario_format.specs.Scripts.Ops.{read_tag, read_iommu_tag, read_tag_destroy, read_map, read_map_destroy}
use Rattle.scenario_format.specs.Scripts.Ops.{read_dmamem, read_dmamem_free, read_unload}
use Rattle.scenario_format.specs.Scripts.Ops.{read_sync, read_sync_range, read_cpu_read}
use Rattle.scenario_format.specs.Scripts.Ops.{read_cpu_write, read_await}
use Rattle.scenario_format.specs.Scripts.Rings.{read_ring, read_ring_post, read_kick}
use Rattle.scenario_format.specs.Scripts.Sends.{read_send}
use Rattle.scenario_format.specs.Parts.Words.{read_op_word}

-- the operation of a word
abbrev pub op_by : OpWord → List PageRun → List Op → Counts → Spot → Read Op
op_by word.Tag pages before c here = read_tag before here
op_by word.IommuTag pages before c here = read_iommu_tag before here
op_by word.TagDestroy pages before c here = read_tag_destroy before here
op_by word.Map pages before c here = read_map before here
op_by word.MapDestroy pages before c here = read_map_destroy before here
op_by word.Dmamem pages before c here = read_dmamem before here
op_by word.DmamemFree pages before c here = read_dmamem_free before here
op_by word.Load pages before c here = read_load before c here
op_by word.LoadVector pages before c here = read_load_vector before c here
op_by word.LoadMbuf pages before c here = read_load_mbuf before c here
op_by word.LoadBio pages before c here = read_load_bio pages before c here
op_by word.Send pages before c here = read_send before c here
op_by word.Unload pages before c here = read_unload before here
op_by word.Sync pages before c here = read_sync before here
op_by word.SyncRange pages before c here = read_sync_range before here
op_by word.CpuRead pages before c here = read_cpu_read before c here
op_by word.CpuWrite pages before c here = read_cpu_write before here
op_by word.Await pages before c here = read_await before here
op_by word.Ring pages before c here = read_ring before here
op_by word.RingPost pages before c here = read_ring_post before here
op_by word.Kick pages before c here = read_kick before c here

-- an operation is an object, is counted as a step, and is then read by its word
unfoldable pub read_op : List PageRun → List Op → Counts → Spot → Read Op
read_op pages before c here =
    members_of here >>= (λ _.
    steps_judged c 1 here.place >>= (λ _.
    read_op_word here >>= (λ w.
    op_by w pages before (one_step_counted c) here)))

-- the operations of a script
unfoldable pub read_script : List PageRun → Counts → Spot → Read (List Op)
read_script pages c here = read_items here >>= each (λ before. read_op pages before (with_ops c before)) here []
