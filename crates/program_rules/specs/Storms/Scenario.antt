-- The scenario of a storm: four drivers, each with two maps whose loads bounce, and a zone of few pages.
use Rattle.std.specs.Prelude.{ℕ, ◌+◌, ◌*◌, ◌-◌, ◌^◌, List, [], ◌∷◌, ◌++◌, None, codes, map}
use Rattle.std.specs.List.{flat_map}
use Rattle.busdma_base.specs.declared.scenarios.scenario.Driver.{Driver}
use Rattle.busdma_base.specs.declared.scenarios.scenario.FrameRun.{FrameRun}
use Rattle.busdma_base.specs.declared.scenarios.scenario.PageRun.{PageRun}
use Rattle.busdma_base.specs.declared.scenarios.scenario.Scenario.{Scenario}
use Rattle.busdma_base.specs.declared.scenarios.script.Op.{Op}
use Rattle.busdma_base.specs.declared.scenarios.script.Op.TheVariants as op
use Rattle.busdma_machine.specs.declared.tags.tag.TagLimits.{TagLimits}
use Rattle.busdma_machine.specs.Runs.{run_of}
use Rattle.program_rules.specs.Storms.Generator.{next, drawn}
use Rattle.program_rules.specs.Storms.Transfer.{round}

-- the operations of a round that draws p and then q after x
abbrev pub round_after : ℕ → List Op
round_after x = round (next x) (next (next x))

-- the operations of the round with this number; each round before it draws two numbers after x
abbrev pub round_at : ℕ → ℕ → List Op
round_at x number = round_after (drawn (2 * number) x)

-- the operations of n rounds that draw after x
abbrev pub storm_rounds : ℕ → ℕ → List Op
storm_rounds n x = flat_map (round_at x) (run_of 0 n)

-- a device that reaches 24 bits, and takes up to 8192 bytes in up to four segments
abbrev pub limits : TagLimits
limits = record {
  alignment = 1;
  boundary = 0;
  lowaddr = record { 0 = 0xffffff };
  highaddr = record { 0 = 2 ^ 64 - 1 };
  maxsize = 8192;
  nsegments = 4;
  maxsegsz = 2 ^ 32 - 1;
  flags = 0;
}

-- the tag `t` and its maps `m0` and `m1`, with which a script begins
abbrev pub storm_setup : List Op
storm_setup = op.Tag (codes "t") None limits ∷ op.Map (codes "m0") 0 ∷ op.Map (codes "m1") 0 ∷ []

-- the 16 pages of the driver with this number, in frames above those that its device reaches
abbrev pub pages : ℕ → List PageRun
pages number = record { va = record { 0 = 0x100000 }; frame = 4096 + 16 * number; count = 16 } ∷ []

-- a driver of n rounds that draw after x
abbrev pub driver_after : ℕ → ℕ → ℕ → Driver
driver_after number n x = record { pages = pages number; script = storm_setup ++ storm_rounds n x }

-- the driver with this number in a storm of n rounds: all rounds of those before it are drawn first
abbrev pub driver : ℕ → ℕ → ℕ → Driver
driver n seed number = driver_after number n (drawn (2 * n * number) seed)

-- the frames of the machine: 32 that a device reaches, and 64 that none reaches
abbrev pub frames : List FrameRun
frames = record { first = 16; count = 32 } ∷ record { first = 4096; count = 64 } ∷ []

-- the storm of n rounds of each of four drivers, with a seed
abbrev pub storm_scenario : ℕ → ℕ → Scenario
storm_scenario n seed = record {
  frames = frames;
  max_bpages = 4;
  drivers = map (driver n seed) (run_of 0 4);
  order = [];
}
