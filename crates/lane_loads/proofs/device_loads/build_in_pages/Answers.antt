use Rattle.std.proofs.Common.{◌≡◌, Bool, List, true, false, sym, subst}
use Rattle.std.specs.Prelude.{MatchBool}
use Rattle.busdma_machine.specs.declared.machine.chunk.Part.{Part}
use Rattle.iommu_load.specs.DeviceStreams.{DeviceOverflows, HasDeviceRoom, IsDeviceBuilt}
use Rattle.iommu_load.proofs.DeviceFronts.{HasDeviceRoom-front}
use Rattle.segment_build.proofs.Iterating.{along_first, drained_first}
use Rattle.lane_loads.proofs.device_loads.build_in_pages.Goals as goal

on-true : (P Q : Type 0) (b : Bool) → b ≡ true → MatchBool b P Q → P
on-true P Q true e h = h
on-true P Q false e h = absurd (cc)

on-false : (P Q : Type 0) (b : Bool) → b ≡ false → MatchBool b P Q → Q
on-false P Q true e h = absurd (cc)
on-false P Q false e h = h

pub build_device-requires-clause-room : goal.build_device-requires-clause-room
build_device-requires-clause-room c =
    let t = c.args.tag.now in
    let room = c.args.list.now.spare in
    record {
      empty = c.requires.empty;
      fronts =
          along_first (λ (ps : List Part). ps) (HasDeviceRoom t c.args.first room)
          (HasDeviceRoom-front t c.args.first room c.device_fronts_ask_no_more.ensures) c.args.parts c.requires.room;
    }

pub returns-clause-few : goal.returns-clause-few
returns-clause-few c few =
    let ran = c.build_device.ensures.built in
    subst (λ (ps : List Part). IsDeviceBuilt c.args.tag.now c.args.first ps c.build_device.new.list.items)
    (sym (drained_first (λ (ps : List Part). ps) c.args.parts ran.0 ran.1))
    (on-true _ _ c.build_device.result few ran.2)

pub returns-clause-many : goal.returns-clause-many
returns-clause-many c many =
    let ran = c.build_device.ensures.built in
    subst (λ (ps : List Part). DeviceOverflows c.args.tag.now c.args.first ps)
    (sym (drained_first (λ (ps : List Part). ps) c.args.parts ran.0 ran.1))
    (on-false _ _ c.build_device.result many ran.2).0
