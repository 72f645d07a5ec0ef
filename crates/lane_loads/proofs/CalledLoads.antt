-- How the load of a map that has waited ends, from the state in which the map is idle.
use Rattle.std.proofs.Common.{◌≡◌, ℕ, ◌≤◌, Bool, true, false, cond, if◌then◌else◌, List, length, Some}
use Rattle.std.proofs.Common.{refl, ap, ◌∙◌, arith, nat_le}
use Rattle.std.specs.FinMap.{get, insert}
use Rattle.busdma_base.specs.declared.journals.answer.Answer.TheVariants.{Segments, Refused}
use Rattle.busdma_machine.specs.declared.report.Errno.TheVariants.{EFBIG}
use Rattle.busdma_machine.specs.declared.machine.address.Segment.{Segment}
use Rattle.busdma_machine.specs.declared.machine.chunk.Chunk.{Chunk}
use Rattle.busdma_machine.specs.declared.tags.tag.TagLimits.{TagLimits}
use Rattle.busdma_machine.specs.Bounce.AccountStep.{as_pages}
use Rattle.busdma_rules.specs.Segments.Building.{placed_pieces, tag_placed}
use Rattle.busdma_rules.specs.Segments.Chunks.{bounced_of}
use Rattle.busdma_rules.specs.Segments.Segmentation.{segmentation}
use Rattle.ideal_lane.specs.Ahead.{awaited_items, items_ahead}
use Rattle.ideal_lane.specs.Loads.{Asked, emptied, finished, limits_of, loaded, unpaged}
use Rattle.ideal_lane.specs.Outcomes.{Outcome}
use Rattle.ideal_lane.specs.Sends.{due_send}
use Rattle.ideal_lane.specs.State.{Idle, LaneMap, LaneState, Loaded, Waiting, WaitingLoad}
use Rattle.ideal_lane.specs.Turns.{called, called_at, called_in}
use Rattle.ideal_lane.proofs.Weights.{weigh-put}
use Rattle.lane_loads.proofs.LoadSteps.{put-over}

-- a driver keeps its script, and the send whose resend is due
pub record KeepsScript (l n : LaneState) : Type 0 where
  pub script : n.script ≡ l.script
  pub due : due_send n ≡ due_send l

module _ (l : LaneState) (m : ℕ) (o : LaneMap) where
  abbrev pub free : LaneMap
  free = record o { stage = Idle }

  -- the load ends in the same way if the map is idle
  pub finished-free : (at : ℕ) (x : Asked) (chunks : List Chunk) (pages : List ℕ) →
      finished m free at x chunks pages (record l { maps = insert l.maps m free }) ≡ finished m o at x chunks pages l
  finished-free at x chunks pages i =
      let t : TagLimits = limits_of l o in
      let segments : List Segment = segmentation t (placed_pieces t chunks (as_pages pages)) in
      let stage = Loaded (bounced_of (tag_placed t chunks (as_pages pages))) segments pages in
      if nat_le (length segments) t.nsegments
      then record {
        lane = record (loaded m o at x (tag_placed t chunks (as_pages pages)) segments pages l) {
          maps = put-over l.maps m free (record o { tried = true; stage = stage }) i;
        };
        answer = Segments segments;
      }
      else record {
        lane = record (unpaged m o pages l) {
          maps = put-over l.maps m free (record o { tried = true; stage = emptied pages }) i;
        };
        answer = Refused EFBIG;
      }

  -- the end of the load keeps the script, and the send whose resend is due
  pub finished-stays : (at : ℕ) (x : Asked) (chunks : List Chunk) (pages : List ℕ) →
      KeepsScript l (finished m o at x chunks pages l).lane
  finished-stays at x chunks pages =
      let t : TagLimits = limits_of l o in
      let segments : List Segment = segmentation t (placed_pieces t chunks (as_pages pages)) in
      by (nat_le (length segments) t.nsegments)
      (record {
        lane = loaded m o at x (tag_placed t chunks (as_pages pages)) segments pages l;
        answer =
            Segments segments;
      })
      (record { lane = unpaged m o pages l; answer = Refused EFBIG }) (record { script = refl; due = refl })
      (record { script = refl; due = refl })
    where
      by : (b : Bool) (p q : Outcome) → KeepsScript l p.lane → KeepsScript l q.lane → KeepsScript l (cond b p q).lane
      by true p q here there = here
      by false p q here there = there

  -- a map that waits is called back
  pub called-is : (w : WaitingLoad) (pages : List ℕ) → get l.maps m ≡ Some o → o.stage ≡ Waiting w →
      called m (get l.maps m) pages l ≡ called_at m o w pages l
  called-is w pages there waits =
      ap (λ x. called m x pages l) there ∙ ap (λ s. called_in m o s pages l) waits

-- ---- the room of the transfer queue

-- the items of a load that waits are among those ahead
pub items-within : (l : LaneState) (m : ℕ) (o : LaneMap) → get l.maps m ≡ Some o → (w : WaitingLoad) →
    o.stage ≡ Waiting w → length w.items ≤ items_ahead l
items-within l m o there w waits =
    let weight = weigh-put (λ (x : LaneMap). awaited_items x.stage) l.maps m o (record o { stage = Idle }) there in
    let count : awaited_items o.stage ≡ length w.items = ap awaited_items waits in
    omega (arith, weight, count)
