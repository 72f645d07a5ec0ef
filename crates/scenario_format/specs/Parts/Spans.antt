-- The lists of loads: the spans of a vector or an mbuf chain.
use Rattle.std.specs.Prelude.{List, [], ◌∷◌, length, Ok, if◌then◌else◌, nat_lt, codes}
use Rattle.serde_json.specs.Data.{Data}
use Rattle.busdma_machine.specs.declared.machine.address.Span.{Span}
use Rattle.busdma_base.specs.Scenarios.Limits.{entries_limit}
use Rattle.scenario_format.specs.Json.DocumentPlaces.{DocumentPlace}
use Rattle.scenario_format.specs.Json.Read.{Read, ◌>>=◌, refuse}
use Rattle.scenario_format.specs.Json.Field.{Spot, required, only_keys, one_of}
use Rattle.scenario_format.specs.Json.Number.{number_field}
use Rattle.scenario_format.specs.Json.Items.{read_items, each}
use Rattle.scenario_format.specs.declared.refusal.RefusalKind.TheVariants.{Limit}
use Rattle.scenario_format.specs.declared.refusal.LimitName.TheVariants.{Entries}

-- the elements of a load's list, if they are within the limit; they are counted before the first of them is read
abbrev pub entries_judged : DocumentPlace → List Data → Read (List Data)
entries_judged place ds = if nat_lt entries_limit (length ds) then refuse (Limit Entries) place else Ok ds

-- the elements of a load's list
unfoldable pub read_entries : Spot → Read (List Data)
read_entries here = read_items here >>= entries_judged here.place

-- the span of `len` bytes from `va` on
unfoldable pub read_span_fields : Spot → Read Span
read_span_fields here =
    number_field (codes "va") here >>= (λ va.
    number_field (codes "len") here >>= (λ n.
    Ok (record { va = record { 0 = va }; len = n })))

-- a span as an object of its own
unfoldable pub read_span : Spot → Read Span
read_span here = only_keys (one_of (codes "va" ∷ codes "len" ∷ [])) here >>= (λ _. read_span_fields here)

-- the list of spans
unfoldable pub read_spans : Spot → Read (List Span)
read_spans here = read_entries here >>= each (λ _. read_span) here []

-- the list in `entries`; a missing one is refused
unfoldable pub entries_field : Spot → Read (List Span)
entries_field here = required (codes "entries") here >>= read_spans
