-- First come, first served, in one zone: which maps began to wait, moved to the callback list and were called back.
use Rattle.std.specs.Prelude.{ℕ, List, [], ◌∷◌, ◌++◌, ◌==◌, if◌then◌else◌}
use Rattle.std.specs.List.{filter}
use Rattle.busdma_machine.specs.declared.name.MapId.{MapId}
use Rattle.busdma_machine.specs.declared.bounce.zone.Waiter.{Waiter}
use Rattle.busdma_machine.specs.declared.bounce.hold.HubCall.{HubCall}
use Rattle.busdma_machine.specs.declared.bounce.hold.HubCall.TheVariants.{Grab, Release}
use Rattle.busdma_machine.specs.declared.bounce.hold.HubReply.{HubReply}
use Rattle.busdma_machine.specs.declared.bounce.hold.HubReply.TheVariants.{Queued, Called}
use Rattle.busdma_machine.specs.declared.bounce.hold.HoldEntry.{HoldEntry}
use Rattle.busdma_machine.specs.Bounce.Account.{Account, zone_at}
use Rattle.busdma_machine.specs.Bounce.History.{after_entry}
use Rattle.busdma_machine.specs.Bounce.ServingOrder.{maps_of, joined_by}

-- the map that begins to wait for pages of a zone by a call: one whose request gets the reply Queued
abbrev pub queued_by : ℕ → HubCall → HubReply → List MapId
queued_by z (Grab m y need nowait) (Queued have) = if y.0 == z then m ∷ [] else []
queued_by z _ _ = []

-- the maps of a zone that a call moves to the callback list, by returning a page of the zone
abbrev pub completed_by : ℕ → HubCall → Account → List MapId
completed_by z (Release m y page) a = if y.0 == z then joined_by (Release m y page) a else []
completed_by z _ a = []

-- the map of a zone whose callback a reply calls, if the callback list was this one before the call
abbrev pub called_of_zone : ℕ → HubReply → List Waiter → List MapId
called_of_zone z (Called m pages) (w ∷ ws) = if w.zone.0 == z then m ∷ [] else []
called_of_zone z _ _ = []

-- the maps that begin to wait for pages of a zone in a history, in order
abbrev pub queued_in : ℕ → List HoldEntry → List MapId
queued_in z [] = []
queued_in z (e ∷ es) = queued_by z e.call e.reply ++ queued_in z es

-- the maps of a zone that move to the callback list in a history, in order
abbrev pub completed_in : ℕ → Account → List HoldEntry → List MapId
completed_in z a [] = []
completed_in z a (e ∷ es) = completed_by z e.call a ++ completed_in z (after_entry e a) es

-- the maps of a zone whose callbacks are called in a history, in order
abbrev pub called_in_zone : ℕ → Account → List HoldEntry → List MapId
called_in_zone z a [] = []
called_in_zone z a (e ∷ es) = called_of_zone z e.reply a.ready ++ called_in_zone z (after_entry e a) es

-- the maps that wait for pages of a zone, in order
abbrev pub waiting_in : ℕ → Account → List MapId
waiting_in z a = maps_of (zone_at a z).wait

-- the maps of a zone in the callback list, in order
abbrev pub ready_in : ℕ → Account → List MapId
ready_in z a = maps_of (filter (λ w. w.zone.0 == z) a.ready)

-- the line of a zone: its maps in the callback list, followed by its maps that wait
abbrev pub zone_line : ℕ → Account → List MapId
zone_line z a = ready_in z a ++ waiting_in z a
