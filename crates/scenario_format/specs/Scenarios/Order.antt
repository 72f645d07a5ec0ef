-- The order of the actors' steps.
use Rattle.std.specs.Prelude.{ℕ, ◌+◌, ◌*◌, ◌-◌, ◌==◌, ◌&&◌, ◌||◌, List, [], ◌∷◌, length, Option, Some, None}
use Rattle.std.specs.Prelude.{option_and_then, Ok, if◌then◌else◌, nat_le, nat_lt, not, slice_index, codes}
use Rattle.serde_json.specs.Data.{Data}
use Rattle.busdma_base.specs.declared.journals.journal.Actor.{Actor}
use Rattle.busdma_base.specs.declared.journals.journal.Side.{Side}
use Rattle.busdma_base.specs.declared.journals.journal.Side.TheVariants as side
use Rattle.scenario_format.specs.Json.DocumentPlaces.{DocumentPlace}
use Rattle.scenario_format.specs.Json.Read.{Read, ◌>>=◌, refuse}
use Rattle.scenario_format.specs.Json.Field.{Spot, field}
use Rattle.scenario_format.specs.Json.Number.{of_kind}
use Rattle.scenario_format.specs.Json.Text.{read_text}
use Rattle.scenario_format.specs.Json.Items.{read_items, each}
use Rattle.scenario_format.specs.declared.refusal.RefusalKind.TheVariants.{Limit}
use Rattle.scenario_format.specs.declared.refusal.LimitName.TheVariants as limit
use Rattle.busdma_base.specs.Scenarios.Limits.{order_limit}

-- the side that a letter names: `s`, `d` or `c`
abbrev pub side_of : ℕ → Option Side
side_of b =
    if b == 115 then Some side.Script
    else (if b == 100 then Some side.Transfer
    else (if b == 99 then Some side.Callback
    else None))

-- the value of a decimal digit
abbrev pub digit : ℕ → Option ℕ
digit b = if nat_le 48 b && nat_le b 57 then Some (b - 48) else None

-- the number whose first decimal digits have the value `high`, and whose other digits are these
abbrev pub number_after : ℕ → List ℕ → Option ℕ
number_after high [] = Some high
number_after high (b ∷ bs) = option_and_then (λ d. number_after (10 * high + d) bs) (digit b)

-- a number in decimal without leading zeros, of at most 9 digits, because a longer one is no driver's
abbrev pub decimal_number : List ℕ → Option ℕ
decimal_number s =
    if nat_le 1 (length s) && nat_le (length s) 9 && ((length s == 1) || not (slice_index s 0 == 48))
    then number_after 0 s else None

-- the number of a driver that a text gives, if it is below the number of drivers
abbrev pub lane_in_text : ℕ → List ℕ → Option ℕ
lane_in_text drivers s = option_and_then (λ n. if nat_lt n drivers then Some n else None) (decimal_number s)

-- the actor that a text names, by a side and the number of a driver
abbrev pub actor_of : ℕ → List ℕ → Option Actor
actor_of drivers [] = None
actor_of drivers (b ∷ bs) =
    option_and_then
    (λ s. option_and_then (λ n. Some (record { lane = record { 0 = n }; side = s })) (lane_in_text drivers bs))
    (side_of b)

-- an actor of the order
unfoldable pub read_actor : ℕ → Spot → Read Actor
read_actor drivers here = read_text here >>= (λ s. of_kind here.place (actor_of drivers s))

-- the actors of a list, if they are within the limit; they are counted before the first of them is read
abbrev pub order_judged : DocumentPlace → List Data → Read (List Data)
order_judged place ds = if nat_lt order_limit (length ds) then refuse (Limit limit.Order) place else Ok ds

-- the list of actors
unfoldable pub read_order : ℕ → Spot → Read (List Actor)
read_order drivers here =
    read_items here >>= (λ ds. order_judged here.place ds >>= each (λ _. read_actor drivers) here [])

-- the actors of a list, or none if there is no list
abbrev pub order_or_none : ℕ → Option Spot → Read (List Actor)
order_or_none drivers None = Ok []
order_or_none drivers (Some spot) = read_order drivers spot

-- the order of the scenario; it is empty if none is given
unfoldable pub order_field : ℕ → Spot → Read (List Actor)
order_field drivers here = order_or_none drivers (field (codes "order") here)
