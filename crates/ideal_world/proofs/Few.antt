-- Little is left to do in the opening world of a valid scenario, so the syncs that are counted stay below 2^64.
use Rattle.std.proofs.Common.{◌≡◌, ℕ, ◌+◌, ◌*◌, ◌^◌, ◌<◌, ◌≤◌, List, [], ◌∷◌, ◌++◌, length, arith}
use Rattle.std.proofs.lemmas.List.Sums.{sum_by-cons}
use Rattle.std.specs.List.{sum_by}
use Rattle.busdma_base.specs.declared.scenarios.scenario.Driver.{Driver}
use Rattle.busdma_base.specs.declared.scenarios.scenario.FrameRun.{FrameRun}
use Rattle.busdma_base.specs.declared.scenarios.scenario.Scenario.{Scenario}
use Rattle.busdma_base.specs.declared.scenarios.script.Op.{Op}
use Rattle.busdma_base.specs.Scenarios.Opening.{maxmem_of}
use Rattle.busdma_machine.specs.Each.{EachAfter}
use Rattle.busdma_base.specs.Scenarios.Operations.{items_of, loaded_by}
use Rattle.busdma_base.specs.Scenarios.Script.{steps_of}
use Rattle.busdma_base.specs.Scenarios.Valid.{IsDriver, loaded_of}
use Rattle.ideal_lane.specs.Left.{left, op_weight, stage_weight}
use Rattle.ideal_lane.specs.Opening.{opening_lane}
use Rattle.ideal_lane.specs.State.{LaneMap}
use Rattle.ideal_lane.proofs.Weights.{weigh-empty}
use Rattle.ideal_world.specs.WellFormed.{IsWellFormed}
use Rattle.ideal_world.specs.World.{WorldState, bounced, opening_lanes}

-- what is left of a script is at most two for each of its steps, and its bytes
script-left : (script : List Op) →
    sum_by op_weight script ≤ steps_of script + steps_of script + sum_by loaded_by script
script-left [] = omega arith
script-left (o ∷ script) =
    omega (
      arith,
      sum_by-cons op_weight o script,
      sum_by-cons (λ x. length (items_of x)) o script,
      sum_by-cons loaded_by o script,
      script-left script,
    )

opens-left : (id maxmem : ℕ) (d : Driver) → left (opening_lane id maxmem d) ≡ sum_by op_weight d.script
opens-left id maxmem d =
    let none = weigh-empty (λ (o : LaneMap). stage_weight o.stage) in omega (arith, none)

left-few : (frames : List FrameRun) (before ds : List Driver) (id maxmem : ℕ) →
    EachAfter (IsDriver frames) before ds →
    sum_by left (opening_lanes id maxmem ds) ≤ 8192 * length ds + loaded_of ds
left-few frames before [] id maxmem h = omega arith
left-few frames before (d ∷ ds) id maxmem h =
    let short : steps_of d.script ≤ 4096 = h.0.script.short in
    omega (
      arith,
      sum_by-cons left (opening_lane id maxmem d) (opening_lanes (id + 1) maxmem ds),
      sum_by-cons (λ (x : Driver). sum_by loaded_by x.script) d ds,
      opens-left id maxmem d,
      script-left d.script,
      short,
      left-few frames (before ++ d ∷ []) ds (id + 1) maxmem h.1,
    )

pub bounced-few : (s : Scenario) (w : WorldState) (z : ℕ) → IsWellFormed s w → bounced w z < 2 ^ 64
bounced-few s w z well =
    let few = left-few s.frames [] s.drivers 0 (maxmem_of s.frames) well.valid.drivers in
    let drivers : length s.drivers ≤ 16 = well.valid.few_drivers in
    let loaded : loaded_of s.drivers ≤ 16777216 = well.valid.loaded in
    let most : 33554432 < 2 ^ 64 = omega arith in
    omega (arith, well.few z, few, drivers, loaded, most)
