-- Facts about a result, by its variant.
use Rattle.std.proofs.Common.{◌≡◌, Option, Some, None, IsSome, Result, Ok, Err, OnOk, OnErr, Bor}
use Rattle.std.proofs.Common.{refl, IsNone}
use Rattle.std.specs.Option.{option_copied}

pub copied_some : {X : Type 0} (o : Option (Bor X)) → IsSome (option_copied o) → IsSome o
copied_some None h = h
copied_some (Some x) h = refl

-- a fact that holds either way
pub either_way : {T E : Type 0} (r : Result T E) (A B P : Type 0) → OnOk r A → OnErr r B → (A → P) → (B → P) → P
either_way (Ok x) A B P ok err f g = f ok
either_way (Err x) A B P ok err f g = g err

pub is_none : {X : Type 0} (o : Option X) → IsNone o → o ≡ None
is_none None h = refl
is_none (Some x) h = absurd (cc)
