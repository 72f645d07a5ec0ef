use Rattle.std.proofs.Common.{◌≡◌, ℕ, None}
use Rattle.std.specs.FinMap.{empty, get, get-empty}
use Rattle.std.specs.Ordering.{nat_cmp}
use Rattle.ideal_lane.specs.State.{LaneMap}
use Rattle.ideal_wire.proofs.Tags.ServedMaps.{served-on, turn-served}
use Rattle.ideal_wire.proofs.laws.zones_serve_their_tags.Goals as goal

no-map : (m : ℕ) → get (empty {X = LaneMap} {R = nat_cmp}) m ≡ None
no-map m = get-empty nat_cmp m

pub returns-clause-opens : goal.returns-clause-opens
returns-clause-opens c = λ id maxmem driver a m z o e zone. let none = no-map m in absurd (cc)

pub returns-clause-kept : goal.returns-clause-kept
returns-clause-kept c = λ l s a stands machine served. turn-served l stands a machine served s

pub returns-clause-others : goal.returns-clause-others
returns-clause-others c = λ l a es stands machine served. served-on l stands a machine served es
