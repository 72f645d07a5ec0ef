-- The order in which waiting maps are served and called back.
use Rattle.std.specs.Prelude.{◌≡◌, ◌≢◌, ℕ, ◌+◌, ◌-◌, ◌<◌, ◌≤◌, List, [], ◌∷◌, ◌++◌, map, take, drop, sum_by}
use Rattle.busdma_machine.specs.declared.name.MapId.{MapId}
use Rattle.busdma_machine.specs.declared.bounce.zone.Waiter.{Waiter}
use Rattle.busdma_machine.specs.declared.bounce.hold.HubCall.{HubCall}
use Rattle.busdma_machine.specs.declared.bounce.hold.HubCall.TheVariants.{Release}
use Rattle.busdma_machine.specs.declared.bounce.hold.HubReply.{HubReply}
use Rattle.busdma_machine.specs.declared.bounce.hold.HubReply.TheVariants.{Called}
use Rattle.busdma_machine.specs.declared.bounce.hold.HoldEntry.{HoldEntry}
use Rattle.busdma_machine.specs.Bounce.Account.{Account, zone_at, free, reserved}
use Rattle.busdma_machine.specs.Bounce.Serving.{lack, complete, returned, completed}
use Rattle.busdma_machine.specs.Bounce.History.{after_entry}

-- no map got a page or a promise of one, and none moved in its list
pub record ServesNobody (a b : Account) : Type 0 where
  pub held : b.held ≡ a.held
  pub ready : b.ready ≡ a.ready
  pub waits : (z : ℕ) → (zone_at b z).wait ≡ (zone_at a z).wait
  pub reserved : (z : ℕ) → reserved b z ≡ reserved a z

-- how many pages waiting maps lack together
abbrev pub lacking : List Waiter → ℕ
lacking ws = sum_by lack ws

-- the first of the waiting maps has `pages` more pages
abbrev pub first_gets : ℕ → List Waiter → List Waiter
first_gets pages [] = []
first_gets pages (w ∷ ws) = record w { have = w.have + pages } ∷ ws

-- `pages` pages do not complete the first of the waiting maps, if there is one
abbrev pub TooFew : ℕ → List Waiter → Type 0
TooFew pages [] = Unit {0}
TooFew pages (w ∷ ws) = pages < lack w

-- `pages` pages serve the front of a waiting list: a number of the first maps are completed and leave, in order; the
-- pages that are left do not complete the next map, which gets them and keeps its place
pub record ServesFront (pages : ℕ) (ws done left : List Waiter) : Type 0 where
  pub count : ℕ
  pub leave : done ≡ map complete (take count ws)
  pub enough : lacking (take count ws) ≤ pages
  pub stay : left ≡ first_gets (pages - lacking (take count ws)) (drop count ws)
  pub too_few : TooFew (pages - lacking (take count ws)) (drop count ws)

-- a zone served in order: its free pages went to the front of its waiting list, the completed maps joined the tail of
-- the callback list, and no other zone's waiting list changed
pub record ServesInOrder (a b : Account) (z : ℕ) : Type 0 where
  pub done : List Waiter
  pub front : ServesFront (free a z) (zone_at a z).wait done (zone_at b z).wait
  pub ready : b.ready ≡ a.ready ++ done
  pub others : (y : ℕ) → y ≢ z → (zone_at b y).wait ≡ (zone_at a y).wait

-- the maps of a list of waiters, in order
abbrev pub maps_of : List Waiter → List MapId
maps_of ws = map (λ w. w.map) ws

-- the maps that a call moves to the callback list: the maps that the return of a page completes
abbrev pub joined_by : HubCall → Account → List MapId
joined_by (Release m z page) a =
    let b : Account = returned a m z.0 page.0 in
    maps_of (completed (free b z.0) (zone_at b z.0).wait)
joined_by _ a = []

-- the map whose callback a reply calls, if it calls one
abbrev pub map_called_by : HubReply → List MapId
map_called_by (Called m pages) = m ∷ []
map_called_by _ = []

-- the maps that a history moves to the callback list, in order
abbrev pub maps_joined : Account → List HoldEntry → List MapId
maps_joined a [] = []
maps_joined a (e ∷ es) = joined_by e.call a ++ maps_joined (after_entry e a) es

-- the maps whose callbacks a history calls, in order
abbrev pub maps_called : List HoldEntry → List MapId
maps_called [] = []
maps_called (e ∷ es) = map_called_by e.reply ++ maps_called es
