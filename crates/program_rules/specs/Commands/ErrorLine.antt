-- The line on standard error.
use Rattle.std.specs.Prelude.{◌≡◌, ℕ, ◌==◌, ◌⊎◌, ◌++◌, List, codes, Option, Some, None, option_map, if◌then◌else◌}
use Rattle.std.specs.Prelude.{nat_le}
use Rattle.std.specs.Io.KnownBytes.{Appends}
use Rattle.io_edge.specs.Faults.{Rose}
use Rattle.io_edge.specs.Writing.{WritesPart}
use Rattle.scenario_format.specs.declared.refusal.Refusal.{Refusal}
use Rattle.scenario_format.specs.Json.RefusalText.{refusal_text}
use Rattle.program_rules.specs.declared.program_end.ProgramEnd.{ProgramEnd}

-- the line of a refused scenario, without its line feed
abbrev pub refusal_line : Refusal → List ℕ
refusal_line r = codes "busdma_run: bad scenario: " ++ refusal_text r

-- the line that a status prints by itself, without its line feed
abbrev pub status_line : ℕ → List ℕ
status_line n =
    if n == 64 then codes "usage: busdma_run replay | run | storm N SEED | check"
    else (if n == 66 then codes "busdma_run: input is too long"
    else (if n == 71 then codes "busdma_run: out of memory"
    else (if n == 73 then codes "busdma_run: write failed"
    else codes "busdma_run: read failed")))

-- the line of an outcome, without its line feed; a run that was done and written has none
abbrev pub line_of : ProgramEnd → Option (List ℕ)
line_of o =
    if nat_le o.status 2 then None
    else (if o.status == 65 then option_map refusal_line o.fault
    else Some (status_line o.status))

-- a text was written completely, or a front of it before a write that failed
abbrev pub Writes : List ℕ → Option (List ℕ) → Option (List ℕ) → ℕ → ℕ → Type 0
Writes text before after faults now =
    (Appends before after text × (now ≡ faults))
    ⊎ (WritesPart text before after × Rose faults now)

-- a line was written with its line feed, or a front of it before a write that failed; without a line nothing was
-- written
abbrev pub WritesLine : Option (List ℕ) → Option (List ℕ) → Option (List ℕ) → ℕ → ℕ → Type 0
WritesLine None before after faults now = (after ≡ before) × (now ≡ faults)
WritesLine (Some line) before after faults now = Writes (line ++ codes "\n") before after faults now

-- the line of an outcome was printed, or a front of it before a write that failed
abbrev pub Prints : ProgramEnd → Option (List ℕ) → Option (List ℕ) → ℕ → ℕ → Type 0
Prints o before after faults now = WritesLine (line_of o) before after faults now
