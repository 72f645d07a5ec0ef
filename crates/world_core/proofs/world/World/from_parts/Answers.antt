use Rattle.world_core.proofs.world.World.from_parts.Goals as goal

pub invariant_of-result : goal.invariant_of-result
invariant_of-result c = record { kept = ∣ c.requires ∣₁ }
