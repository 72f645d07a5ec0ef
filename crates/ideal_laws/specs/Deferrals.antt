-- How often the entries of a journal answer EINPROGRESS to loads of a map, and how often they call its callback.
use Rattle.std.specs.Prelude.{ℕ, ◌==◌, Bool, true, false, ◌&&◌, List, [], is_some, slice_get}
use Rattle.std.specs.List.{count_by, list_any}
use Rattle.std.specs.Option.{option_map_or}
use Rattle.busdma_base.specs.declared.journals.answer.Answer.{Answer}
use Rattle.busdma_base.specs.declared.journals.answer.Answer.TheVariants as answer
use Rattle.busdma_base.specs.declared.journals.journal.Did.{Did}
use Rattle.busdma_base.specs.declared.journals.journal.Did.TheVariants as did
use Rattle.busdma_base.specs.declared.journals.journal.JournalEntry.{JournalEntry}
use Rattle.busdma_base.specs.declared.scenarios.scenario.Scenario.{Scenario}
use Rattle.busdma_base.specs.declared.scenarios.script.Op.{Op}
use Rattle.busdma_base.specs.Scenarios.Operations.{about}

-- an operation loads the map that was made at a place of the script
abbrev pub loads_map : ℕ → Op → Bool
loads_map m o = is_some (about o).loads && list_any (λ u. u.made_at == m) (about o).uses

-- what was done is an operation of a script that loads this map, or a resend of such an operation
abbrev pub loads_by : ℕ → List Op → Did → Bool
loads_by m script (did.Op place) = option_map_or (loads_map m) (slice_get script place) false
loads_by m script (did.Again place) = option_map_or (loads_map m) (slice_get script place) false
loads_by m script (did.Release map page) = false
loads_by m script (did.Callback map) = false
loads_by m script (did.Item load_at place) = false

-- what was done is the call of this map's callback
abbrev pub is_callback_of : ℕ → Did → Bool
is_callback_of m (did.Op place) = false
is_callback_of m (did.Again place) = false
is_callback_of m (did.Release map page) = false
is_callback_of m (did.Callback map) = map.made_at == m
is_callback_of m (did.Item load_at place) = false

-- an answer is EINPROGRESS
abbrev pub is_in_progress : Answer → Bool
is_in_progress (answer.InProgress have need) = true
is_in_progress _ = false

-- the script of the driver of this number
abbrev pub driver_script : Scenario → ℕ → List Op
driver_script s i = option_map_or (λ d. d.script) (slice_get s.drivers i) []

-- an entry of the driver of this number answers EINPROGRESS to a load of this map
abbrev pub defers : Scenario → ℕ → ℕ → JournalEntry → Bool
defers s i m e = (e.actor.lane.0 == i) && (is_in_progress e.answer && loads_by m (driver_script s i) e.did)

-- an entry of the driver of this number calls this map's callback
abbrev pub calls_back : ℕ → ℕ → JournalEntry → Bool
calls_back i m e = (e.actor.lane.0 == i) && is_callback_of m e.did

-- how many of these entries answer EINPROGRESS to a load of the map
abbrev pub times_deferred : Scenario → ℕ → ℕ → List JournalEntry → ℕ
times_deferred s i m entries = count_by (defers s i m) entries

-- how many of these entries call the map's callback
abbrev pub times_called_back : ℕ → ℕ → List JournalEntry → ℕ
times_called_back i m entries = count_by (calls_back i m) entries
