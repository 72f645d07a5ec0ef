-- What reading gives: a value, or the first refusal.
use Rattle.std.specs.Prelude.{Result, Ok, Err}
use Rattle.scenario_format.specs.Json.DocumentPlaces.{DocumentPlace, path_text}
use Rattle.scenario_format.specs.declared.refusal.RefusalKind.{RefusalKind}
use Rattle.scenario_format.specs.declared.refusal.Refusal.{Refusal}

-- what reading an A gives: the value, or the first refusal
abbrev pub Read : Type 0 → Type 0
Read A = Result A Refusal

-- what is read next, unless something before was refused; then that refusal
infixl 10 ◌>>=◌
abbrev pub ◌>>=◌ : {A B : Type 0} → Read A → (A → Read B) → Read B
(Ok x) >>= f = f x
(Err r) >>= f = Err r

-- the refusal of this kind at this place
abbrev pub refusal : RefusalKind → DocumentPlace → Refusal
refusal kind place = record { kind = kind; path = path_text place }

-- the reading ends with this refusal
abbrev pub refuse : {A : Type 0} → RefusalKind → DocumentPlace → Read A
refuse kind place = Err (refusal kind place)
