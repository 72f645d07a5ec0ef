-- What the reply to a driver's own call makes of its view. `fits` says whether a load that gets its pages ends with
-- segments; otherwise it has too many.
use Rattle.std.specs.Prelude.{◌≡◌, ℕ, ◌+◌, ◌≤◌, Bool, List, [], ◌∷◌, map, length, IsTrue, Option, Some, None}
use Rattle.std.specs.Prelude.{if◌then◌else◌}
use Rattle.busdma_machine.specs.declared.machine.address.Pa.{Pa}
use Rattle.busdma_machine.specs.declared.bounce.hold.HubCall.{HubCall}
use Rattle.busdma_machine.specs.declared.bounce.hold.HubCall.TheVariants.{AttachTag, CreateMap, DestroyMap, Grab}
use Rattle.busdma_machine.specs.declared.bounce.hold.HubCall.TheVariants.{Release}
use Rattle.busdma_machine.specs.declared.bounce.hold.HubCall.TheVariants.{TakeCallback, MemAlloc, MemFree}
use Rattle.busdma_machine.specs.declared.bounce.hold.HubReply.{HubReply}
use Rattle.busdma_machine.specs.declared.bounce.hold.HubReply.TheVariants.{Grown, Granted, Queued, Called, Run}
use Rattle.busdma_machine.specs.Tags.Tag.{could_bounce}
use Rattle.busdma_machine.specs.Tags.TagFlags.{allocnow}
use Rattle.busdma_machine.specs.Bounce.MemoryRuns.{frames_from}
use Rattle.lane_agreement.specs.View.{View, OwnMap, Return, Idle, Waiting}
use Rattle.lane_agreement.specs.View.{Loaded, Returning, view_staged, gone, with_mem}
use Rattle.lane_agreement.specs.View.{view_ended, view_given_back, zone_in}

-- the addresses of these pages, in order
abbrev pub addresses_of_pages : List Pa → List ℕ
addresses_of_pages pages = map (λ p. p.0) pages

-- the driver after the reply to its call for pages: its load ends, waits, or is refused and leaves all as it was
abbrev pub after_grab : Bool → View → ℕ → ℕ → ℕ → HubReply → View
after_grab fits l k z need (Granted pages) = view_ended fits l k z (addresses_of_pages pages)
after_grab fits l k z need (Queued have) = view_staged l k z (Waiting need)
after_grab fits l k z need _ = l

-- the driver after the reply to its call to make a map: it has the idle map, if one was made
abbrev pub after_create : View → ℕ → HubReply → View
after_create l k (Grown g) = if g.made then view_staged l k g.zone.0 Idle else l
after_create l k _ = l

-- the driver after the reply to its call for a callback: if one came, the load of its map ends with these pages
abbrev pub after_callback : Bool → View → HubReply → View
after_callback fits l (Called m pages) = view_ended fits l m.made_at (zone_in (l.map_at m.made_at))
    (addresses_of_pages pages)
after_callback fits l _ = l

-- the driver after the reply to its call for a memory: it has the memory's frames, if there was such a run
abbrev pub after_mem_alloc : View → ℕ → HubReply → View
after_mem_alloc l k (Run first count) = with_mem l k (Some (frames_from count first.0))
after_mem_alloc l k _ = l

-- the driver after the reply to its call
abbrev pub after : Bool → View → HubCall → HubReply → View
after fits l (AttachTag t) r = l
after fits l (CreateMap m t first_done) r = after_create l m.made_at r
after fits l (DestroyMap m z) r = gone l m.made_at
after fits l (Grab m z need nowait) r = after_grab fits l m.made_at z.0 need r
after fits l (Release m z page) r = view_given_back l l.returns
after fits l TakeCallback r = after_callback fits l r
after fits l (MemAlloc m t) r = after_mem_alloc l m.made_at r
after fits l (MemFree m) r = with_mem l m.made_at None

-- the head of a return queue is this page of this zone, from this map
abbrev pub IsFront : List Return → ℕ → ℕ → ℕ → Type 0
IsFront [] k z page = ⊥
IsFront (r ∷ rs) k z page = (r.map ≡ k) × (r.zone ≡ z) × (r.page ≡ page)

-- the driver's own state allows this call: what the driver knows before it makes the call
abbrev pub MayAsk : View → HubCall → Type 0
MayAsk l (AttachTag t) = IsTrue (could_bounce t l.maxmem) × IsTrue (allocnow t.flags)
MayAsk l (CreateMap m t first_done) = (m.lane.0 ≡ l.id) × IsTrue (could_bounce t l.maxmem) × (l.map_at m.made_at ≡ None)
MayAsk l (DestroyMap m z) = (m.lane.0 ≡ l.id) × (l.map_at m.made_at ≡ Some (record { zone = z.0; stage = Idle }))
MayAsk l (Grab m z need nowait) =
    (m.lane.0 ≡ l.id) × (1 ≤ need) × (l.map_at m.made_at ≡ Some (record { zone = z.0; stage = Idle }))
MayAsk l (Release m z page) = (m.lane.0 ≡ l.id) × IsFront l.returns m.made_at z.0 page.0
MayAsk l TakeCallback = Unit {0}
MayAsk l (MemAlloc m t) = (m.lane.0 ≡ l.id) × (l.mem_at m.made_at ≡ None)
MayAsk l (MemFree m) = (m.lane.0 ≡ l.id) × (fs : List ℕ) × (l.mem_at m.made_at ≡ Some fs)

-- a driver that has no map, no memory and no page to give back
pub record IsFresh (l : View) : Type 0 where
  pub maps : (k : ℕ) → l.map_at k ≡ None
  pub mems : (k : ℕ) → l.mem_at k ≡ None
  pub returns : l.returns ≡ []

-- what is left to do for one map: for a Waiting one 1, the `items` of its load and its need; for a Loaded one its pages
abbrev pub left_at : ℕ → Option OwnMap → ℕ
left_at items None = 0
left_at items (Some m) =
    (elim m.stage [ Idle ↦ 0 | Waiting need ↦ 1 + items + need | Loaded ps ↦ length ps | Returning ↦ 0 ])

-- what is left to do for the map at a place, with the pages of the return queue
abbrev pub left_of_map : ℕ → View → ℕ → ℕ
left_of_map items l k = left_at items (l.map_at k) + length l.returns

-- how many items a load brings to the transfer queue: all of them if its segments fit, and else none
abbrev pub brought : Bool → ℕ → ℕ
brought fits items = if fits then items else 0

-- two views are alike: they are the same if each place is looked up
pub record IsLike (l k : View) : Type 0 where
  pub id : k.id ≡ l.id
  pub maxmem : k.maxmem ≡ l.maxmem
  pub maps : (j : ℕ) → k.map_at j ≡ l.map_at j
  pub mems : (j : ℕ) → k.mem_at j ≡ l.mem_at j
  pub returns : k.returns ≡ l.returns
  pub own_frame : (f : ℕ) → k.own_frame f ≡ l.own_frame f
