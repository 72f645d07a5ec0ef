-- Journals: those that are legal, and the one that a scenario's order replays.
use Rattle.std.specs.Prelude.{◌≡◌, ℕ, zero, suc, ◌+◌, List, [], ◌∷◌, ◌++◌, length, Option, Some, None}
use Rattle.busdma_base.specs.declared.journals.journal.Actor.{Actor}
use Rattle.busdma_base.specs.declared.journals.journal.Side.TheVariants.{Script, Transfer, Callback}
use Rattle.busdma_base.specs.declared.journals.journal.JournalEntry.{JournalEntry}
use Rattle.busdma_base.specs.declared.journals.journal.Journal.{Journal}
use Rattle.busdma_base.specs.declared.scenarios.scenario.Scenario.{Scenario}
use Rattle.ideal_world.specs.World.{WorldState, opening_world, step, step_entry, zone_counts}
use Rattle.ideal_world.specs.Ends.{IsAtRest, world_end}

-- entries lead from one world to another: each entry's actor can step there, and its step has this entry
abbrev pub Leads : WorldState → List JournalEntry → WorldState → Type 0
Leads w [] end = w ≡ end
Leads w (e ∷ es) end = (step_entry w e.actor ≡ Some e) × Leads (step w e.actor).world es end

-- a journal is legal: its entries lead from the scenario's opening world to a world at rest, and it has the counts and
-- the end of that world
pub record IsLegal (s : Scenario) (j : Journal) : Type 0 where
  pub last : WorldState
  pub leads : Leads (opening_world s) j.entries last
  pub rest : IsAtRest last
  pub zones : j.zones ≡ zone_counts last
  pub end : j.end ≡ world_end last

-- a run so far: the world that it has come to, and the entries of its steps
pub record Run : Type 0 where
  pub world : WorldState
  pub entries : List JournalEntry

-- the run after a turn: the entry of a step is noted, and the run goes on in the world after it; a turn without an
-- entry leaves the run as it is
abbrev pub noted : Run → WorldState → Option JournalEntry → Run
noted r after None = r
noted r after (Some e) = record { world = after; entries = r.entries ++ e ∷ [] }

-- the run after an actor's turn; an actor that cannot step is skipped
abbrev pub turn : Run → Actor → Run
turn r actor = noted r (step r.world actor).world (step_entry r.world actor)

-- the run after the turns of these actors, in order
abbrev pub turns : Run → List Actor → Run
turns r [] = r
turns r (a ∷ order) = turns (turn r a) order

-- the actors of a round over n drivers from the i-th on: c0 d0 s0 c1 d1 s1 ..
abbrev pub round_from : ℕ → ℕ → List Actor
round_from i zero = []
round_from i (suc n) =
    record { lane = record { 0 = i }; side = Callback } ∷ record { lane = record { 0 = i }; side = Transfer }
    ∷ record { lane = record { 0 = i }; side = Script } ∷ round_from (i + 1) n

-- the actors of a round of a scenario: c, d and s of each driver, in the order of their numbers
abbrev pub round_of : Scenario → List Actor
round_of s = round_from 0 (length s.drivers)

-- the run after n rounds
abbrev pub rounds : ℕ → List Actor → Run → Run
rounds zero round r = r
rounds (suc n) round r = rounds n round (turns r round)

-- the run in which a scenario opens
abbrev pub opening_run : Scenario → Run
opening_run s = record { world = opening_world s; entries = [] }

-- a run comes to rest: some rounds lead from it to another run, which one more round leaves as it is
pub record ComesToRest (round : List Actor) (before after : Run) : Type 0 where
  pub count : ℕ
  pub reaches : rounds count round before ≡ after
  pub rests : turns after round ≡ after

-- the replay of a scenario ends in this run: after the turns of its order come rounds, until a round makes no step
abbrev pub IsReplay : Scenario → Run → Type 0
IsReplay s end = ComesToRest (round_of s) (turns (opening_run s) s.order) end

-- the journal of a run: its entries, and the counts and the end of its world
abbrev pub journal_of : Run → Journal
journal_of r = record { entries = r.entries; zones = zone_counts r.world; end = world_end r.world }

-- a journal is replayed: it is the journal of the scenario's replay
pub record IsReplayed (s : Scenario) (j : Journal) : Type 0 where
  pub run : Run
  pub replay : IsReplay s run
  pub journal : j ≡ journal_of run
