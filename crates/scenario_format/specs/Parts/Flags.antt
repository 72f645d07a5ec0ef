-- Sets of flags, as lists of words.
use Rattle.std.specs.Prelude.{ℕ, ◌+◌, List, [], ◌∷◌, Option, Some, None, Ok, if◌then◌else◌, bit_or, codes}
use Rattle.std.specs.Str.{bytes_eq}
use Rattle.bitflags.specs.Sets.{find_name}
use Rattle.serde_json.specs.Data.{Data}
use Rattle.busdma_machine.specs.Tags.TagFlags.{tag_table}
use Rattle.busdma_rules.specs.Tags.LoadFlags.{load_table}
use Rattle.busdma_rules.specs.Tags.MemFlags.{mem_table}
use Rattle.busdma_rules.specs.Tags.SyncOps.{sync_table}
use Rattle.scenario_format.specs.Json.DocumentPlaces.{DocumentPlace}
use Rattle.scenario_format.specs.Json.Read.{Read, ◌>>=◌, refuse}
use Rattle.scenario_format.specs.Json.Field.{Spot, field, required, item_of}
use Rattle.scenario_format.specs.Json.Text.{read_text}
use Rattle.scenario_format.specs.Json.Items.{read_items}
use Rattle.scenario_format.specs.declared.refusal.RefusalKind.TheVariants.{BadFlag}
use Rattle.scenario_format.specs.declared.flag_set.FlagSet.{FlagSet}
use Rattle.scenario_format.specs.declared.flag_set.FlagSet.TheVariants as set

-- the bits of a word, or no bit for WAITOK
abbrev pub waitok_or : Option ℕ → List ℕ → Option ℕ
waitok_or bits word = if bytes_eq word (codes "WAITOK") then Some 0 else bits

-- the bits of a word of this set of flags
abbrev pub word_bits : FlagSet → List ℕ → Option ℕ
word_bits set.Tag word = waitok_or (find_name tag_table word) word
word_bits set.Load word = waitok_or (find_name load_table word) word
word_bits set.Memory word = waitok_or (find_name mem_table word) word
word_bits set.Sync word = find_name sync_table word

-- a word that is not in the table is refused
abbrev pub bits_or : DocumentPlace → Option ℕ → Read ℕ
bits_or place None = refuse BadFlag place
bits_or place (Some bits) = Ok bits

-- the bits of the word at this place
unfoldable pub read_flag : FlagSet → Spot → Read ℕ
read_flag kind here = read_text here >>= (λ word. bits_or here.place (word_bits kind word))

-- the bits of these words, the first of which is the n-th of the list, together with `bits`; the words may come in any
-- order and more than once
abbrev pub flags_from : FlagSet → Spot → ℕ → ℕ → List Data → Read ℕ
flags_from kind here n bits [] = Ok bits
flags_from kind here n bits (d ∷ ds) =
    read_flag kind (item_of here n d) >>= (λ more. flags_from kind here (n + 1) (bit_or bits more) ds)

-- the bits of all words of a list
unfoldable pub read_flags : FlagSet → Spot → Read ℕ
read_flags kind here = read_items here >>= flags_from kind here 0 0

-- the bits of the words of a list, or none if there is no list
abbrev pub flags_or_none : FlagSet → Option Spot → Read ℕ
flags_or_none kind None = Ok 0
flags_or_none kind (Some spot) = read_flags kind spot

-- the flags of a tag, a load or a memory
unfoldable pub flags_field : FlagSet → Spot → Read ℕ
flags_field kind here = flags_or_none kind (field (codes "flags") here)

-- the operations of a sync
unfoldable pub ops_field : Spot → Read ℕ
ops_field here = required (codes "ops") here >>= read_flags set.Sync
