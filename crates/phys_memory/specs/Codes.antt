-- How the value of a memory is stored.
use Rattle.std.specs.Prelude.{ℕ, List, refl}
use Rattle.std.specs.Coded.{Coded, code_by, coded×, coded_ℕ, coded_list}
use Rattle.std.specs.Ordering.{nat_cmp}
use Rattle.std.specs.FinMap.{FinMap, code}
use Rattle.phys_memory.specs.declared.reach.Reach.{Reach}
use Rattle.phys_memory.specs.Memory.{RoomyFrames}

-- the code of a reach, as the pair of its fields
abbrev pub reach_code : Coded Reach
reach_code =
    code_by (ℕ × ℕ) (coded× coded_ℕ coded_ℕ) (λ r. (r.frame, r.reach))
    (λ p. record { frame = p.0; reach = p.1 }) (λ _. refl)

-- the code of a memory with its room, as the tuple of its parts
abbrev pub frames_code : Coded RoomyFrames
frames_code =
    code_by
    (FinMap nat_cmp Reach × (FinMap nat_cmp (List ℕ) × ℕ))
    (coded× (code coded_ℕ reach_code) (coded× (code coded_ℕ (coded_list coded_ℕ)) coded_ℕ))
    (λ r. (r.memory.table, (r.memory.frames, r.spare)))
    (λ p. record { memory = record { table = p.0; frames = p.1.0 }; spare = p.1.1 })
    (λ _. refl)
