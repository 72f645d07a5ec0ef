-- What each call at a door, by its reply, leads to.
use Rattle.std.proofs.Common.{◌≡◌, ℕ, Bool, true, List, ◌∷◌, if◌then◌else◌, sym, subst}
use Rattle.busdma_machine.specs.declared.machine.address.Pa.{Pa}
use Rattle.busdma_machine.specs.declared.name.MapId.{MapId}
use Rattle.busdma_machine.specs.declared.name.ZoneId.{ZoneId}
use Rattle.busdma_machine.specs.declared.tags.tag.TagLimits.{TagLimits}
use Rattle.busdma_machine.specs.declared.bounce.zone.Grown.{Grown}
use Rattle.busdma_machine.specs.declared.bounce.hold.HubCall.TheVariants.{CreateMap, DestroyMap, Grab, Release}
use Rattle.busdma_machine.specs.declared.bounce.hold.HubCall.TheVariants.{TakeCallback}
use Rattle.busdma_machine.specs.declared.bounce.hold.HubReply.TheVariants.{Nothing, Grown as GrownBy, Granted, Queued}
use Rattle.busdma_machine.specs.declared.bounce.hold.HubReply.TheVariants.{NoPages, Served, Called}
use Rattle.busdma_machine.specs.Bounce.AccountStep.{as_pages}
use Rattle.busdma_machine.specs.Bounce.Door.{Seen, HoldsAtDoor}
use Rattle.lane_agreement.specs.View.{View, Return, Idle, Waiting}
use Rattle.lane_agreement.specs.View.{Loaded, view_staged, gone, view_given_back, zone_in}
use Rattle.lane_agreement.specs.After.{MayAsk}
use Rattle.lane_threads_tests.specs.Knowing.{Knows}
use Rattle.lane_threads_tests.proofs.Knowing.{IsOf, Each, held, addresses_as_pages}

module _ (lane : ℕ) (Has Next : View → Type 0) (d e : Seen) (k : Knows lane Has d) where
  -- a map was made in a zone
  pub created : (m : MapId) (t : TagLimits) (first_done : Bool) (g : Grown) (z : ℕ)
      → Each lane Has (λ l. MayAsk l (CreateMap m t first_done)) → g.made ≡ true → g.zone.0 ≡ z
      → Each lane Has (λ l. Next (view_staged l m.made_at z Idle))
      → HoldsAtDoor d lane (CreateMap m t first_done) (GrownBy g) e → Knows lane Next e
  created m t first_done g z asks made zone leads h =
      held lane Has d k Next e (CreateMap m t first_done) (GrownBy g) asks (λ l id has.
      subst (λ b. IsOf lane Next (if b then view_staged l m.made_at g.zone.0 Idle else l)) (sym made)
      (subst (λ y. IsOf lane Next (view_staged l m.made_at y Idle)) (sym zone) (id, leads l id has))) h

  -- a load got these pages
  pub granted : (m : MapId) (z : ZoneId) (need : ℕ) (nowait : Bool) (pages : List ℕ)
      → Each lane Has (λ l. MayAsk l (Grab m z need nowait))
      → Each lane Has (λ l. Next (view_staged l m.made_at z.0 (Loaded pages)))
      → HoldsAtDoor d lane (Grab m z need nowait) (Granted (as_pages pages)) e → Knows lane Next e
  granted m z need nowait pages asks leads h =
      held lane Has d k Next e (Grab m z need nowait) (Granted (as_pages pages)) asks (λ l id has.
      subst (λ ps. IsOf lane Next (view_staged l m.made_at z.0 (Loaded ps))) (sym (addresses_as_pages pages))
      (id, leads l id has)) h

  -- a load waits
  pub queued : (m : MapId) (z : ZoneId) (need have : ℕ) (nowait : Bool)
      → Each lane Has (λ l. MayAsk l (Grab m z need nowait))
      → Each lane Has (λ l. Next (view_staged l m.made_at z.0 (Waiting need)))
      → HoldsAtDoor d lane (Grab m z need nowait) (Queued have) e → Knows lane Next e
  queued m z need have nowait asks leads h =
      held lane Has d k Next e (Grab m z need nowait) (Queued have) asks (λ l id has. (id, leads l id has)) h

  -- the first page that is to be given back was
  pub released : (m : MapId) (z : ZoneId) (page : Pa) (moved : ℕ) (r : Return) (rs : List Return)
      → Each lane Has (λ l. MayAsk l (Release m z page)) → Each lane Has (λ l. l.returns ≡ r ∷ rs)
      → Each lane Has (λ l. Next (view_given_back l (r ∷ rs)))
      → HoldsAtDoor d lane (Release m z page) (Served moved) e → Knows lane Next e
  released m z page moved r rs asks front leads h =
      held lane Has d k Next e (Release m z page) (Served moved) asks (λ l id has.
      subst (λ qs. IsOf lane Next (view_given_back l qs)) (sym (front l id has)) (id, leads l id has)) h

  -- a callback was taken
  pub called : (m : MapId) (pages : List ℕ)
      → Each lane Has (λ l. Next (view_staged l m.made_at (zone_in (l.map_at m.made_at)) (Loaded pages)))
      → HoldsAtDoor d lane TakeCallback (Called m (as_pages pages)) e → Knows lane Next e
  called m pages leads h =
      held lane Has d k Next e TakeCallback (Called m (as_pages pages)) (λ l id has. tt) (λ l id has.
      subst (λ ps. IsOf lane Next (view_staged l m.made_at (zone_in (l.map_at m.made_at)) (Loaded ps)))
      (sym (addresses_as_pages pages)) (id, leads l id has)) h

  -- a map ended
  pub destroyed : (m : MapId) (z : ZoneId) → Each lane Has (λ l. MayAsk l (DestroyMap m z))
      → Each lane Has (λ l. Next (gone l m.made_at)) → HoldsAtDoor d lane (DestroyMap m z) Nothing e → Knows lane Next e
  destroyed m z asks leads h =
      held lane Has d k Next e (DestroyMap m z) Nothing asks (λ l id has. (id, leads l id has)) h

-- a load got no pages
pub refused : (lane : ℕ) (Has : View → Type 0) (d e : Seen) → Knows lane Has d → (m : MapId) (z : ZoneId) (need : ℕ)
    (nowait : Bool) → Each lane Has (λ l. MayAsk l (Grab m z need nowait))
    → HoldsAtDoor d lane (Grab m z need nowait) NoPages e → Knows lane Has e
refused lane Has d e k m z need nowait asks h =
    held lane Has d k Has e (Grab m z need nowait) NoPages asks (λ l id has. (id, has)) h
