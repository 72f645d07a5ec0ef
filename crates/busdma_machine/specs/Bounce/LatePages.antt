-- How many pages came to a zone while maps waited there. They came by the growth of the zone, which serves no map.
use Rattle.std.specs.Prelude.{ℕ, ◌+◌, ◌==◌, List, [], ◌∷◌, if◌then◌else◌}
use Rattle.std.specs.List.{filter, sum_by}
use Rattle.busdma_machine.specs.declared.bounce.zone.Waiter.{Waiter}
use Rattle.busdma_machine.specs.declared.bounce.hold.HubReply.{HubReply}
use Rattle.busdma_machine.specs.declared.bounce.hold.HubReply.TheVariants.{Grown}
use Rattle.busdma_machine.specs.declared.bounce.hold.HoldEntry.{HoldEntry}
use Rattle.busdma_machine.specs.Bounce.Account.{Account, zone_at}
use Rattle.busdma_machine.specs.Bounce.History.{after_entry}

-- how many pages a zone got, by a reply
abbrev pub grown_by : ℕ → HubReply → ℕ
grown_by z (Grown g) = if g.zone.0 == z then g.added else 0
grown_by z _ = 0

-- how many pages of a zone have come late after one more reply, if n had before it; none if no map waited then
abbrev pub late_with : ℕ → ℕ → HubReply → List Waiter → ℕ
late_with z n r [] = 0
late_with z n r (w ∷ ws) = n + grown_by z r

-- how many pages of a zone have come late after a history, if n had before it
abbrev pub late_from : ℕ → ℕ → Account → List HoldEntry → ℕ
late_from z n a [] = n
late_from z n a (e ∷ es) = late_from z (late_with z n e.reply (zone_at a z).wait) (after_entry e a) es

-- how many pages came to a zone since its waiting list was last empty
abbrev pub late_pages : ℕ → Account → List HoldEntry → ℕ
late_pages z a es = late_from z 0 a es

-- how many pages of a zone are promised to maps in the callback list
abbrev pub to_call : ℕ → Account → ℕ
to_call z a = sum_by (λ w. w.need) (filter (λ w. w.zone.0 == z) a.ready)
