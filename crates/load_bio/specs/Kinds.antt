-- The parts that are left of a bio.
use Rattle.std.specs.Prelude.{List}
use Rattle.busdma_machine.specs.declared.machine.chunk.Part.{Part}
use Rattle.load_bio.specs.declared.bio.Kind.{Kind}
use Rattle.load_bio.specs.declared.bio.Kind.TheVariants.{Mapped, Vector, Unmapped}

-- the parts that are still to come of a bio of any kind
abbrev pub kind_parts : Kind → List Part
kind_parts (Mapped parts) = parts
kind_parts (Vector parts) = parts
kind_parts (Unmapped parts) = parts
