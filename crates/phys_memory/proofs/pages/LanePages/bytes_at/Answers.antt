use Rattle.std.proofs.Common.{◌≡◌, ◌+◌, ◌-◌, ◌/◌, ◌%◌, ap, sym, ◌∙◌, arith}
use Rattle.std.specs.Prelude.{Some}
use Rattle.std.specs.Option.{option_copied}
use Rattle.phys_memory.specs.Memory.{RoomyFrames as Roomy, memory_has_frame}
use Rattle.std.specs.FinMap.{get}
use Rattle.phys_memory.proofs.Kept.{has_frame-kept}
use Rattle.phys_memory.proofs.Changes.{IsSome-found, frame_found}
use Rattle.phys_memory.proofs.FrameBytes.{slice_wire}
use Rattle.phys_memory.proofs.pages.LanePages.bytes_at.Goals as goal

pub unwrap-page-requires : goal.unwrap-page-requires
unwrap-page-requires c =
    let m = c.self.inside in
    IsSome-found c.get.result _ c.get.ensures.value
    (sym (has_frame-kept m.table.entries m.frames.entries (c.args.pa.0 / 4096))
    ∙ ap (λ (r : Roomy). memory_has_frame r.memory (c.args.pa.0 / 4096)) c.self.view_is ∙ c.requires.there)

pub returns : goal.returns
returns c =
    let m = c.self.inside in
    let pa = c.args.pa.0 in
    let at = pa % 4096 in
    let found = sym c.get.ensures.value ∙ ap option_copied c.unwrap-page.ensures in
    let here : get c.args.self.now.memory.frames (pa / 4096) ≡ Some c.bytes.result.now =
    ap (λ (r : Roomy). get r.memory.frames (pa / 4096)) (sym c.self.view_is)
    ∙ frame_found m.table.entries m.frames.entries (pa / 4096) _ found ∙ ap Some (sym c.bytes.ensures.bytes) in
    slice_wire c.args.self.now.memory c.bytes.result.now pa c.args.len (at + c.args.len - at) (omega arith) here
    c.bytes.ensures.length c.requires.inside
