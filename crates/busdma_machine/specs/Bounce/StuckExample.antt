-- Two loads of three pages that wait for ever in a zone of four, worked by hand. Neither is too large for the zone.
use Rattle.std.specs.Prelude.{ℕ, true, false, List, [], ◌∷◌}
use Rattle.busdma_machine.specs.declared.tags.tag.TagLimits.{TagLimits}
use Rattle.busdma_machine.specs.declared.bounce.zone.ZoneCounts.{ZoneCounts}
use Rattle.busdma_machine.specs.declared.bounce.hold.HubCall.{HubCall}
use Rattle.busdma_machine.specs.declared.bounce.hold.HubCall.TheVariants.{CreateMap, Grab}
use Rattle.busdma_machine.specs.declared.bounce.hold.HoldEntry.{HoldEntry}
use Rattle.busdma_machine.specs.Bounce.Account.{Account, fresh_account}
use Rattle.busdma_machine.specs.Bounce.AccountStep.{AccountReply, account_step}
use Rattle.busdma_machine.specs.Bounce.MemoryRuns.{frames_from}
use Rattle.busdma_machine.specs.Bounce.WorkedExample.{low_tag, example_map}

-- the frames 0x10 to 0x17 are free; maxmem is 0x1010, and max_bpages 8
abbrev pub roomy_machine : Account
roomy_machine = fresh_account (frames_from 8 0x10000) 0x1010 8

-- a tag each of whose maps asks for two pages for its zone
abbrev pub two_page_tag : TagLimits
two_page_tag = record low_tag { maxsize = 12288; nsegments = 2 }

-- four calls of one lane: the second map is made, and its zone grows by two pages, while the load of the first waits
abbrev pub two_loads : List (ℕ × HubCall)
two_loads =
    (0, CreateMap (example_map 1) two_page_tag false)
    ∷ (0, Grab (example_map 1) (record { 0 = 0 }) 3 false)
    ∷ (0, CreateMap (example_map 2) two_page_tag true)
    ∷ (0, Grab (example_map 2) (record { 0 = 0 }) 3 false)
    ∷ []

-- the counts of the zone after the calls: each load has two pages promised, and no map has a page
abbrev pub both_waiting : ZoneCounts
both_waiting = record {
  total = 4;
  free = 0;
  reserved = 4;
  active = 0;
  bounced = 0;
  deferred = 0;
  lowaddr = record { 0 = 0xffffff };
  alignment = 4096;
}

-- the history of these calls, each with the account's reply
abbrev pub example_entries : Account → List (ℕ × HubCall) → List HoldEntry
example_entries a [] = []
example_entries a (c ∷ cs) =
    let o : AccountReply = account_step c.0 c.1 a in
    record { lane = record { 0 = c.0 }; call = c.1; reply = o.reply } ∷ example_entries o.account cs
