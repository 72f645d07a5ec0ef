-- Twelve calls over a small machine, their replies, and the counts after them, worked out by hand.
use Rattle.std.specs.Prelude.{ℕ, ◌^◌, ◌-◌, true, false, List, [], ◌∷◌, ◌++◌}
use Rattle.busdma_machine.specs.declared.name.MapId.{MapId}
use Rattle.busdma_machine.specs.declared.tags.tag.TagLimits.{TagLimits}
use Rattle.busdma_machine.specs.declared.bounce.zone.ZoneCounts.{ZoneCounts}
use Rattle.busdma_machine.specs.declared.bounce.hold.HubCall.{HubCall}
use Rattle.busdma_machine.specs.declared.bounce.hold.HubCall.TheVariants.{CreateMap, DestroyMap, Grab, Release}
use Rattle.busdma_machine.specs.declared.bounce.hold.HubCall.TheVariants.{TakeCallback, MemAlloc}
use Rattle.busdma_machine.specs.declared.bounce.hold.HubReply.{HubReply}
use Rattle.busdma_machine.specs.declared.bounce.hold.HubReply.TheVariants.{Nothing, Grown, Granted, Queued, NoPages}
use Rattle.busdma_machine.specs.declared.bounce.hold.HubReply.TheVariants.{Served, Called, Run, NoRun}
use Rattle.busdma_machine.specs.Bounce.Account.{Account, fresh_account}
use Rattle.busdma_machine.specs.Bounce.AccountStep.{AccountReply, account_step, as_pages}
use Rattle.busdma_machine.specs.Bounce.MemoryRuns.{frames_from}

-- the frames 0x10 to 0x17 and 0x1000 to 0x100f are free; maxmem is 0x1010, and max_bpages 2
abbrev pub small_machine : Account
small_machine = fresh_account (frames_from 8 0x10000 ++ frames_from 16 0x1000000) 0x1010 2

-- a tag whose device reaches the first 16 MiB, for loads of at most 8192 bytes
abbrev pub low_tag : TagLimits
low_tag = record {
  alignment = 1;
  boundary = 0;
  lowaddr = record { 0 = 0xffffff };
  highaddr = record { 0 = 2 ^ 64 - 1 };
  maxsize = 8192;
  nsegments = 4;
  maxsegsz = 8192;
  flags = 0;
}

-- the map that the operation at place n of driver 0's script made
abbrev pub example_map : ℕ → MapId
example_map n = record { lane = record { 0 = 0 }; made_at = n }

-- the twelve calls of the example, each with its lane
abbrev pub example_calls : List (ℕ × HubCall)
example_calls =
    (0, CreateMap (example_map 1) low_tag false)
    ∷ (0, CreateMap (example_map 2) low_tag true)
    ∷ (0, Grab (example_map 1) (record { 0 = 0 }) 2 false)
    ∷ (0, Grab (example_map 2) (record { 0 = 0 }) 2 true)
    ∷ (0, Grab (example_map 2) (record { 0 = 0 }) 2 false)
    ∷ (0, Release (example_map 1) (record { 0 = 0 }) (record { 0 = 0x10000 }))
    ∷ (0, Release (example_map 1) (record { 0 = 0 }) (record { 0 = 0x11000 }))
    ∷ (1, TakeCallback)
    ∷ (0, TakeCallback)
    ∷ (0, DestroyMap (example_map 1) (record { 0 = 0 }))
    ∷ (0, MemAlloc (example_map 3) (record low_tag { boundary = 4096 }))
    ∷ (0, MemAlloc (example_map 4) low_tag)
    ∷ []

-- the reply to each call of the example
abbrev pub replies : List HubReply
replies =
    Grown (record { zone = record { 0 = 0 }; added = 2; made = true })
    ∷ Grown (record { zone = record { 0 = 0 }; added = 0; made = true })
    ∷ Granted (as_pages (0x10000 ∷ 0x11000 ∷ []))
    ∷ NoPages
    ∷ Queued 0
    ∷ Served 0
    ∷ Served 1
    ∷ Nothing
    ∷ Called (example_map 2) (as_pages (0x11000 ∷ 0x10000 ∷ []))
    ∷ Nothing
    ∷ NoRun
    ∷ Run (record { 0 = 0x12000 }) 2
    ∷ []

-- the counts of the zone after the calls of the example
abbrev pub counts_after : ZoneCounts
counts_after = record {
  total = 2;
  free = 0;
  reserved = 0;
  active = 2;
  bounced = 0;
  deferred = 1;
  lowaddr = record { 0 = 0xffffff };
  alignment = 4096;
}

-- the replies to calls that are made one after another
abbrev pub answers : Account → List (ℕ × HubCall) → List HubReply
answers a [] = []
answers a (c ∷ cs) = let o : AccountReply = account_step c.0 c.1 a in o.reply ∷ answers o.account cs

-- the account after calls that are made one after another
abbrev pub after_calls : Account → List (ℕ × HubCall) → Account
after_calls a [] = a
after_calls a (c ∷ cs) = after_calls (account_step c.0 c.1 a).account cs
