-- The wire of each driver of a world is faithful, because each lane keeps its own wire faithful.
use Rattle.std.proofs.Common.{◌≡◌, ℕ, List, Option, Some, None, map, sym, ◌∙◌, subst, slice_get}
use Rattle.std.specs.Prelude.{option_map}
use Rattle.std.proofs.lemmas.Option.{slice_get-map}
use Rattle.lane_core.specs.declared.lane.Lane.{Lane}
use Rattle.lane_core.specs.LaneIdeal.{ideal}
use Rattle.ideal_lane.specs.State.{LaneState}
use Rattle.ideal_wire.specs.Centre.{IsFaithful}
use Rattle.world_core.specs.Wires.{wire_in}

one : (o : Option Lane) (l : LaneState) → option_map ideal o ≡ Some l → IsFaithful l (wire_in o)
one None l e = absurd (cc)
one (Some x) l e = let same : ideal x ≡ l = cc in subst (λ m. IsFaithful m (wire_in (Some x))) same x.wired.faithful

pub each-faithful : (lanes : List Lane) (i : ℕ) (l : LaneState) → slice_get (map ideal lanes) i ≡ Some l →
    IsFaithful l (wire_in (slice_get lanes i))
each-faithful lanes i l there = one (slice_get lanes i) l (sym (slice_get-map ideal lanes i) ∙ there)
