use Rattle.std.proofs.Common.{◌≡◌, ◌+◌, ◌≤◌, drop}
use Rattle.busdma_machine.specs.Runs.{addresses}
use Rattle.loan_table.specs.Table.{AreIn, set_all}
use Rattle.loan_table.proofs.marks.set_extents.Given as goal

abbrev pub invariant-loop-extent : goal.invariant-loop-extent
invariant-loop-extent l =
    record {
      marked : (set_all l.bytes.bytes (addresses (drop l.extent-index l.extents)) l.known
          ≡ set_all l.initial.bytes.bytes (addresses l.extents) l.known)
          × AreIn l.bytes.bytes (addresses (drop l.extent-index l.extents));
      in_room : l.initial.bytes.room ≤ l.bytes.room + (l.extent-index + l.extent-index);
      same_room : l.bytes.there_room ≡ l.initial.bytes.there_room;
    }
