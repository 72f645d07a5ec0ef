-- How each call under the bounce lock changes the account, and what it replies.
use Rattle.std.specs.Prelude.{ℕ, Bool, List, [], ◌∷◌, map, length, take, Option, Some, None, ◌==◌, nat_le}
use Rattle.std.specs.Prelude.{if◌then◌else◌}
use Rattle.busdma_machine.specs.declared.machine.address.Pa.{Pa}
use Rattle.busdma_machine.specs.declared.name.MapId.{MapId}
use Rattle.busdma_machine.specs.declared.tags.tag.TagLimits.{TagLimits}
use Rattle.busdma_machine.specs.declared.bounce.zone.Grown.{Grown as GrownBy}
use Rattle.busdma_machine.specs.declared.bounce.zone.Waiter.{Waiter}
use Rattle.busdma_machine.specs.declared.bounce.hold.HubCall.{HubCall}
use Rattle.busdma_machine.specs.declared.bounce.hold.HubCall.TheVariants.{AttachTag, CreateMap, DestroyMap, Grab}
use Rattle.busdma_machine.specs.declared.bounce.hold.HubCall.TheVariants.{Release}
use Rattle.busdma_machine.specs.declared.bounce.hold.HubCall.TheVariants.{TakeCallback, MemAlloc, MemFree}
use Rattle.busdma_machine.specs.declared.bounce.hold.HubReply.{HubReply}
use Rattle.busdma_machine.specs.declared.bounce.hold.HubReply.TheVariants.{Nothing, Grown, Granted, Queued, NoPages}
use Rattle.busdma_machine.specs.declared.bounce.hold.HubReply.TheVariants.{Served, Called, Run, NoRun}
use Rattle.busdma_machine.specs.Bounce.Account.{Account, zone_at, free}
use Rattle.busdma_machine.specs.Bounce.Growth.{with_zone_for, zone_for_tag, grown}
use Rattle.busdma_machine.specs.Bounce.Growth.{growth_for_tag, growth_for_map, with_zone_map}
use Rattle.busdma_machine.specs.Bounce.Growth.{without_zone_map}
use Rattle.busdma_machine.specs.Bounce.Serving.{handed, waiting_at_tail, returned, completed, served}
use Rattle.busdma_machine.specs.Bounce.MemoryRuns.{frames_for, lowest_run, with_memory_run, without_memory_run}

-- the account after a call, and the reply
pub record AccountReply : Type 0 where
  pub account : Account
  pub reply : HubReply

-- physical addresses in the type that replies have
abbrev pub as_pages : List ℕ → List Pa
as_pages pages = map (λ p. record { 0 = p }) pages

-- the first allocation of a tag: its zone is looked up, or made, and grows
abbrev pub attached : TagLimits → Account → AccountReply
attached t a =
    let b : Account = with_zone_for t a in
    let z : ℕ = zone_for_tag t a.zones in
    let growth : GrownBy = growth_for_tag t b z in
    record { account = grown b z growth.added; reply = Grown growth }

-- the making of a map: its zone is looked up, or made, and grows; the map joins the zone if it is made
abbrev pub created : MapId → TagLimits → Bool → Account → AccountReply
created m t first_done a =
    let b : Account = with_zone_for t a in
    let z : ℕ = zone_for_tag t a.zones in
    let growth : GrownBy = growth_for_map t first_done b z in
    let c : Account = grown b z growth.added in
    record { account = if growth.made then with_zone_map c z m else c; reply = Grown growth }

-- the request of a map for pages: it gets them, is refused, or waits
abbrev pub grabbed : MapId → ℕ → ℕ → Bool → Account → AccountReply
grabbed m z need nowait a =
    let pages : List ℕ = take need (zone_at a z).avail in
    if nat_le need (free a z) then record { account = handed a m z need; reply = Granted (as_pages pages) }
    else if nowait then record { account = a; reply = NoPages }
    else record { account = waiting_at_tail a m z need; reply = Queued (free a z) }

-- the return of a page, after which the zone serves its waiting maps
abbrev pub released : MapId → ℕ → ℕ → Account → AccountReply
released m z page a =
    let b : Account = returned a m z page in
    record { account = served b z; reply = Served (length (completed (free b z) (zone_at b z).wait)) }

-- the request of a lane for a callback: the first map of the callback list leaves it and gets its pages, if it is the
-- lane's
abbrev pub called_from : List Waiter → ℕ → Account → AccountReply
called_from [] lane a = record { account = a; reply = Nothing }
called_from (w ∷ ws) lane a =
    let b : Account = record a { ready = ws } in
    let pages : List ℕ = take w.need (zone_at a w.zone.0).avail in
    if w.map.lane.0 == lane
    then record { account = handed b w.map w.zone.0 w.need; reply = Called w.map (as_pages pages) }
    else record { account = a; reply = Nothing }

-- a memory gets the n frames from the first of a run on, if there is a run
abbrev pub memory_placed : MapId → ℕ → Option ℕ → Account → AccountReply
memory_placed m n None a = record { account = a; reply = NoRun }
memory_placed m n (Some first) a =
    record { account = with_memory_run a m first n; reply = Run (record { 0 = first }) n }

-- the account after a lane's call, and the reply
abbrev pub account_step : ℕ → HubCall → Account → AccountReply
account_step lane (AttachTag t) a = attached t a
account_step lane (CreateMap m t first_done) a = created m t first_done a
account_step lane (DestroyMap m z) a = record { account = without_zone_map a z.0 m; reply = Nothing }
account_step lane (Grab m z need nowait) a = grabbed m z.0 need nowait a
account_step lane (Release m z page) a = released m z.0 page.0 a
account_step lane TakeCallback a = called_from a.ready lane a
account_step lane (MemAlloc m t) a =
    memory_placed m (frames_for t.maxsize) (lowest_run t.maxsize t.boundary t.lowaddr.0 a.bank) a
account_step lane (MemFree m) a = record { account = without_memory_run a m; reply = Nothing }
