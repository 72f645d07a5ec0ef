-- How pages go to maps and come back, and how waiting maps are served, after the x86 bounce code. The order is this
-- project's own rule.
use Rattle.std.specs.Prelude.{ℕ, ◌+◌, ◌-◌, Bool, not, ◌&&◌, List, [], ◌∷◌, ◌++◌, map, length, take, drop, ◌==◌, nat_le}
use Rattle.std.specs.Prelude.{if◌then◌else◌}
use Rattle.std.specs.List.{filter}
use Rattle.busdma_machine.specs.declared.name.MapId.{MapId}
use Rattle.busdma_machine.specs.declared.bounce.zone.Waiter.{Waiter}
use Rattle.busdma_machine.specs.Bounce.Account.{Account, Zone, Held, zone_at, with_zone, same_map, free}

-- a held page is this page of this zone, held by this map
abbrev pub is_holding : MapId → ℕ → ℕ → Held → Bool
is_holding m z page h = (h.page == page) && ((h.zone == z) && same_map m h.map)

-- the account after the first `need` pages of a zone's list went to a map
abbrev pub handed : Account → MapId → ℕ → ℕ → Account
handed a m z need =
    let zone : Zone = zone_at a z in
    record (with_zone a z (record zone { avail = drop need zone.avail })) {
      held = a.held ++ map (λ p. record { page = p; zone = z; map = m }) (take need zone.avail);
    }

-- the account after a map joined the tail of a zone's waiting list, with all free pages promised to it
abbrev pub waiting_at_tail : Account → MapId → ℕ → ℕ → Account
waiting_at_tail a m z need =
    let zone : Zone = zone_at a z in
    let waiter : Waiter = record { map = m; zone = record { 0 = z }; need = need; have = free a z } in
    with_zone a z (record zone { wait = zone.wait ++ waiter ∷ [] })

-- the account after a page went from a map to the head of its zone's list
abbrev pub returned : Account → MapId → ℕ → ℕ → Account
returned a m z page =
    let zone : Zone = zone_at a z in
    record (with_zone a z (record zone { avail = page ∷ zone.avail })) {
      held = filter (λ h. not (is_holding m z page h)) a.held;
    }

-- how many pages a waiting map lacks
abbrev pub lack : Waiter → ℕ
lack w = w.need - w.have

-- a waiting map once it has all the pages that it needs
abbrev pub complete : Waiter → Waiter
complete w = record w { have = w.need }

-- the maps at the front of a waiting list that `pages` free pages complete, up to the first map that they do not
abbrev pub completed : ℕ → List Waiter → List Waiter
completed pages [] = []
completed pages (w ∷ ws) = if nat_le (lack w) pages then complete w ∷ completed (pages - lack w) ws else []

-- the maps that still wait after `pages` free pages went to the front of the list; the first of them keeps what it got
abbrev pub left_waiting : ℕ → List Waiter → List Waiter
left_waiting pages [] = []
left_waiting pages (w ∷ ws) =
    if nat_le (lack w) pages then left_waiting (pages - lack w) ws else record w { have = w.have + pages } ∷ ws

-- how many of `pages` free pages become promised to waiting maps
abbrev pub promised : ℕ → List Waiter → ℕ
promised pages [] = 0
promised pages (w ∷ ws) = if nat_le (lack w) pages then lack w + promised (pages - lack w) ws else pages

-- the account after a zone's free pages went to its waiting maps; complete maps joined the tail of the callback list
abbrev pub served : Account → ℕ → Account
served a z =
    let zone : Zone = zone_at a z in
    let done : List Waiter = completed (free a z) zone.wait in
    let after : Zone =
    record zone { wait = left_waiting (free a z) zone.wait; deferred = zone.deferred + length done } in
    record (with_zone a z after) { ready = a.ready ++ done }
