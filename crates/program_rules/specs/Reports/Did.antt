-- How a line of a report says what a step did.
use Rattle.std.specs.Prelude.{ℕ, List, [], ◌++◌, codes, Option, Some, None, slice_get, unwrap_or}
use Rattle.std.specs.Option.{option_map, option_map_or}
use Rattle.program_rules.specs.Reports.Text.{hex}
use Rattle.busdma_base.specs.declared.journals.journal.Did.{Did}
use Rattle.busdma_base.specs.declared.journals.journal.Did.TheVariants as did
use Rattle.busdma_machine.specs.declared.name.LaneId.{LaneId}
use Rattle.busdma_machine.specs.declared.name.MapId.{MapId}
use Rattle.busdma_base.specs.declared.scenarios.scenario.Scenario.{Scenario}
use Rattle.busdma_base.specs.declared.scenarios.script.Item.{Item}
use Rattle.busdma_base.specs.declared.scenarios.script.Op.{Op}
use Rattle.busdma_base.specs.Scenarios.Operations.{Object, Makes, Uses, about, about_item, items_of, name_made_by}
use Rattle.busdma_base.specs.Scenarios.Operations.{object_of}
use Rattle.busdma_base.specs.Scenarios.Words as word

-- the script of a driver; it is empty if there is no such driver
abbrev pub script_of : Scenario → LaneId → List Op
script_of scenario lane = option_map_or (λ driver. driver.script) (slice_get scenario.drivers lane.0) []

-- the name that an operation makes; it is empty if the operation makes none
abbrev pub made_name : Op → List ℕ
made_name o = unwrap_or (name_made_by o) []

-- the name that the operation at this place of a script makes
abbrev pub name_made_at : List Op → ℕ → List ℕ
name_made_at script place = option_map_or made_name (slice_get script place) []

-- the name of a map
abbrev pub map_name : Scenario → MapId → List ℕ
map_name scenario map = name_made_at (script_of scenario map.lane) map.made_at

-- the name of what a line names
abbrev pub object_name : List Op → Object → List ℕ
object_name script (Makes made) = made.name
object_name script (Uses used) = name_made_at script used.made_at

-- the text of an object, after a space, if there is one
abbrev pub object_text : Option (List ℕ) → List ℕ
object_text None = []
object_text (Some name) = codes " " ++ name

-- the text of an operation: its word and its object
abbrev pub op_text : List Op → Op → List ℕ
op_text script o = word.op_word_text (about o).word
    ++ object_text (option_map (object_name script) (object_of (about o)))

-- the text of a resend: its word and the object of the send
abbrev pub again_text : List Op → Op → List ℕ
again_text script o = codes "resend" ++ object_text (option_map (object_name script) (object_of (about o)))

-- the item at this place in the list of the operation at `load_at`
abbrev pub item_of_load : List Op → ℕ → ℕ → Option Item
item_of_load script load_at place = option_map_or (λ op. slice_get (items_of op) place) (slice_get script load_at) None

-- the text of an item: its word and the name that it uses
abbrev pub item_text : List Op → Item → List ℕ
item_text script i = word.item_word_text (about_item i).word
    ++ (codes " " ++ name_made_at script (about_item i).uses.made_at)

-- the text of the operation at this place of a script; it is empty if there is none
abbrev pub op_text_at : List Op → ℕ → List ℕ
op_text_at script place = option_map_or (op_text script) (slice_get script place) []

-- the text of the resend of the send at this place of a script; it is empty if there is none
abbrev pub again_text_at : List Op → ℕ → List ℕ
again_text_at script place = option_map_or (again_text script) (slice_get script place) []

-- the text of the item at this place of the load or the kick at `load_at`; it is empty if there is none
abbrev pub item_text_at : List Op → ℕ → ℕ → List ℕ
item_text_at script load_at place = option_map_or (item_text script) (item_of_load script load_at place) []

-- the text of what a step of the driver with this number did
abbrev pub did_text : Scenario → LaneId → Did → List ℕ
did_text scenario lane (did.Op place) = op_text_at (script_of scenario lane) place
did_text scenario lane (did.Again place) = again_text_at (script_of scenario lane) place
did_text scenario lane (did.Release map page) =
    codes "release " ++ (map_name scenario map ++ (codes " " ++ hex page.0))
did_text scenario lane (did.Callback map) = codes "callback " ++ map_name scenario map
did_text scenario lane (did.Item load_at place) = item_text_at (script_of scenario lane) load_at place
