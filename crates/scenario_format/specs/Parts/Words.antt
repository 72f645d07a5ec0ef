-- The words of operations and items, as they are read.
use Rattle.std.specs.Prelude.{ℕ, List, Option, Some, None, Ok, codes}
use Rattle.busdma_base.specs.Scenarios.Words.{op_word_of, item_word_of}
use Rattle.scenario_format.specs.Json.DocumentPlaces.{DocumentPlace, key}
use Rattle.scenario_format.specs.Json.Read.{Read, ◌>>=◌, refuse}
use Rattle.scenario_format.specs.Json.Field.{Spot, required}
use Rattle.scenario_format.specs.Json.Text.{read_text}
use Rattle.scenario_format.specs.declared.refusal.RefusalKind.TheVariants.{BadOp}
use Rattle.busdma_base.specs.declared.scenarios.words.OpWord.{OpWord}
use Rattle.busdma_base.specs.declared.scenarios.words.ItemWord.{ItemWord}

-- a word; one that is not known, or not allowed here, is refused
abbrev pub known_word : {W : Type 0} → DocumentPlace → Option W → Read W
known_word place None = refuse BadOp place
known_word place (Some w) = Ok w

-- the text in `op`
unfoldable pub word_text : Spot → Read (List ℕ)
word_text here = required (codes "op") here >>= read_text

-- the word of an operation
unfoldable pub read_op_word : Spot → Read OpWord
read_op_word here = word_text here >>= (λ s. known_word (key here.place (codes "op")) (op_word_of s))

-- the word of an item
unfoldable pub read_item_word : Spot → Read ItemWord
read_item_word here = word_text here >>= (λ s. known_word (key here.place (codes "op")) (item_word_of s))
