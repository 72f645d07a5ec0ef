-- How the result of the code relates to the definition of reading.
use Rattle.std.specs.Prelude.{◌≡◌, Result, Ok, Err}
use Rattle.scenario_format.specs.declared.refusal.Refusal.{Refusal}
use Rattle.json_fields.specs.declared.stop.Stop.{Stop}
use Rattle.json_fields.specs.declared.stop.Stop.TheVariants as stop
use Rattle.scenario_format.specs.Json.Read.{Read}

-- the code stops with this refusal, unless memory ran out
abbrev pub StopsWith : Stop → Refusal → Type 0
StopsWith stop.OutOfMemory r = Unit {0}
StopsWith (stop.Refused q) r = q ≡ r

-- if the code stops, the reading ends with the same refusal, unless memory ran out
abbrev pub FailsReading : {A : Type 0} → Stop → Read A → Type 0
FailsReading stop.OutOfMemory read = Unit {0}
FailsReading (stop.Refused r) read = read ≡ Err r

-- the code returns what the definition of reading gives, unless memory ran out
abbrev pub Gives : {A : Type 0} → Result A Stop → Read A → Type 0
Gives (Ok x) read = read ≡ Ok x
Gives (Err e) read = FailsReading e read

-- the code's value, seen by `view`, is what the definition of reading gives, unless memory ran out
abbrev pub GivesSeen : {X A : Type 0} → (X → A) → Result X Stop → Read A → Type 0
GivesSeen view (Ok x) read = read ≡ Ok (view x)
GivesSeen view (Err e) read = FailsReading e read
