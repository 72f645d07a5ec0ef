-- A map that is idle again after each round.
use Rattle.std.proofs.Common.{◌≡◌, ℕ, ◌==◌, [], ◌∷◌, ◌++◌, List, Option, if◌then◌else◌, refl, sym, ap, ◌∙◌, subst}
use Rattle.std.proofs.Common.{arith, eq-eqb, true, false, IsTrue}
use Rattle.busdma_machine.specs.declared.name.MapId.{MapId}
use Rattle.busdma_machine.specs.declared.tags.tag.TagLimits.{TagLimits}
use Rattle.busdma_machine.specs.Tags.Tag.{could_bounce}
use Rattle.busdma_machine.specs.declared.bounce.zone.Grown.{Grown}
use Rattle.busdma_machine.specs.declared.bounce.hold.HubCall.TheVariants.{CreateMap, Grab, Release}
use Rattle.busdma_machine.specs.declared.bounce.hold.HubReply.TheVariants.{Grown as GrownBy, Granted, Served}
use Rattle.busdma_machine.specs.Bounce.AccountStep.{as_pages}
use Rattle.busdma_machine.specs.Bounce.Door.{Seen, Allows, HoldsAtDoor}
use Rattle.lane_agreement.specs.View.{View, OwnMap, Return, SeenStage, Idle, Loaded, Returning}
use Rattle.lane_agreement.specs.View.{unloaded, view_given_back, view_restaged, queued_back}
use Rattle.lane_agreement.specs.After.{MayAsk, IsFront}
use Rattle.lane_threads_tests.specs.Knowing.{Knows, HasIdle, HasNone, is_known_in_zone}
use Rattle.lane_threads_tests.proofs.Knowing.{Each, allows, unloads}
use Rattle.lane_threads_tests.proofs.Calls.{created, granted, released}
use Rattle.lane_threads_tests.proofs.Table.{bounces}
use Rattle.lane_threads_tests.proofs.TableCalls.{zone}

-- a map of zone 0 is in this stage, and these pages are to be given back
pub record HasOne (k : ℕ) (s : SeenStage) (back : List Return) (l : View) : Type 0 where
  pub map : l.map_at k ≡ is_known_in_zone 0 s
  pub returns : l.returns ≡ back

-- what is looked up at its own place
found : (k : ℕ) (here other : Option OwnMap) → (if k == k then here else other) ≡ here
found k here other = ap (λ b. if b then here else other) (eq-eqb k k refl)

abbrev pub page_back : ℕ → ℕ → Return
page_back k page = record { map = k; zone = 0; page = page }

one_unloaded : (k p : ℕ) (l : View) → HasOne k (Loaded (p ∷ [])) [] l
    → HasOne k Returning (page_back k p ∷ []) (unloaded l k 0 (p ∷ []))
one_unloaded k p l h = record {
  map = found k (is_known_in_zone 0 Returning) (l.map_at k);
  returns = ap (λ rs. rs ++ queued_back k 0 (p ∷ [])) h.returns;
}

one_again : (k p : ℕ) (l : View) → HasOne k Returning (page_back k p ∷ []) l
    → HasIdle k (view_given_back l (page_back k p ∷ []))
one_again k p l h = record {
  map = found k (view_restaged (l.map_at k) Idle) (l.map_at k) ∙ ap (λ o. view_restaged o Idle) h.map;
  returns = refl;
}

-- of a lane with one map
module _ (m : MapId) (d e : Seen) where
  abbrev lane : ℕ
  lane = m.lane.0

  -- of a tag that could bounce
  module _ (t : TagLimits) (could : IsTrue (could_bounce t 0x1010)) where
    asks_making : Each lane HasNone (λ l. MayAsk l (CreateMap m t false))
    asks_making l id h = (sym id, bounces t l.maxmem h.maxmem could, h.maps m.made_at)

    pub may_make : Knows lane HasNone d → Allows d lane (CreateMap m t false)
    may_make k = allows lane HasNone d k (CreateMap m t false) asks_making

    pub made_one : Knows lane HasNone d → (g : Grown) → g.made ≡ true → g.zone.0 ≡ 0
        → HoldsAtDoor d lane (CreateMap m t false) (GrownBy g) e → Knows lane (HasIdle m.made_at) e
    made_one k g made here h =
        created lane HasNone (HasIdle m.made_at) d e k m t false g 0 asks_making made here
        (λ l id has. record {
          map = found m.made_at (is_known_in_zone 0 Idle) (l.map_at m.made_at);
          returns =
              has.returns;
        }) h

  asks_grab : Each lane (HasIdle m.made_at) (λ l. MayAsk l (Grab m zone 1 true))
  asks_grab l id h = (sym id, omega arith, h.map)

  -- the map got a page, which it may give back
  pub grabbed_one : Knows lane (HasIdle m.made_at) d → (page : ℕ)
      → HoldsAtDoor d lane (Grab m zone 1 true) (Granted (as_pages (page ∷ []))) e
      → Knows lane (HasOne m.made_at Returning (page_back m.made_at page ∷ [])) e
  grabbed_one k page h =
      unloads lane (HasOne m.made_at (Loaded (page ∷ [])) []) e
      (granted lane (HasIdle m.made_at) (HasOne m.made_at (Loaded (page ∷ [])) []) d e k m zone 1 true (page ∷ [])
      asks_grab (λ l id has. record {
        map = found m.made_at (is_known_in_zone 0 (Loaded (page ∷ []))) (l.map_at m.made_at);
        returns = has.returns;
      }) h) (HasOne m.made_at Returning (page_back m.made_at page ∷ [])) m.made_at 0 (page ∷ [])
      (λ l id has. has.map) (λ l id has. one_unloaded m.made_at page l has)

  asks_back : (page : ℕ) → Each lane (HasOne m.made_at Returning (page_back m.made_at page ∷ []))
      (λ l. MayAsk l (Release m zone (record { 0 = page })))
  asks_back page l id h = (
    sym id,
    subst (λ rs. IsFront rs m.made_at 0 page) (sym h.returns) (refl, refl, refl),
  )

  pub may_give_back : (page : ℕ) → Knows lane (HasOne m.made_at Returning (page_back m.made_at page ∷ [])) d
      → Allows d lane (Release m zone (record { 0 = page }))
  may_give_back page k =
      allows lane (HasOne m.made_at Returning (page_back m.made_at page ∷ [])) d k
      (Release m zone (record { 0 = page })) (asks_back page)

  pub given_one : (page moved : ℕ) → Knows lane (HasOne m.made_at Returning (page_back m.made_at page ∷ [])) d
      → HoldsAtDoor d lane (Release m zone (record { 0 = page })) (Served moved) e → Knows lane (HasIdle m.made_at) e
  given_one page moved k h =
      released lane (HasOne m.made_at Returning (page_back m.made_at page ∷ [])) (HasIdle m.made_at) d e k m zone
      (record { 0 = page }) moved (page_back m.made_at page) [] (asks_back page) (λ l id has. has.returns)
      (λ l id has. one_again m.made_at page l has) h
