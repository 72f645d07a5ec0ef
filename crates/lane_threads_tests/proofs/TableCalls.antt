-- The calls of lane 0 in the worked table: what allows each, and what it leads to.
use Rattle.std.proofs.Common.{◌≡◌, ℕ, Bool, true, false, List, [], ◌∷◌, Option, Some, None, IsTrue}
use Rattle.std.proofs.Common.{refl, sym, ap, subst, arith}
use Rattle.busdma_machine.specs.declared.name.MapId.{MapId}
use Rattle.busdma_machine.specs.declared.name.ZoneId.{ZoneId}
use Rattle.busdma_machine.specs.declared.tags.tag.TagLimits.{TagLimits}
use Rattle.busdma_machine.specs.Tags.Tag.{could_bounce}
use Rattle.busdma_machine.specs.declared.bounce.zone.Grown.{Grown}
use Rattle.busdma_machine.specs.declared.bounce.hold.HubCall.TheVariants.{CreateMap, DestroyMap, Grab, Release}
use Rattle.busdma_machine.specs.declared.bounce.hold.HubCall.TheVariants.{TakeCallback, MemAlloc}
use Rattle.busdma_machine.specs.declared.bounce.hold.HubReply.TheVariants.{Nothing, Grown as GrownBy, Granted, Queued}
use Rattle.busdma_machine.specs.declared.bounce.hold.HubReply.TheVariants.{NoPages, Served, Called}
use Rattle.busdma_machine.specs.Bounce.AccountStep.{as_pages}
use Rattle.busdma_machine.specs.Bounce.Door.{Seen, Allows, HoldsAtDoor, memory_reply}
use Rattle.busdma_machine.specs.Machine.PageList.{RoomyPages}
use Rattle.lane_agreement.specs.View.{View, OwnMap, Return, Idle}
use Rattle.lane_agreement.specs.View.{Waiting, Loaded, Returning, view_staged, zone_in}
use Rattle.lane_agreement.specs.After.{MayAsk, IsFront, after_mem_alloc}
use Rattle.lane_threads_tests.specs.Knowing.{Knows, HasMaps, is_known_in_zone}
use Rattle.lane_threads_tests.proofs.Knowing.{IsOf, Each, allows, held, unloads}
use Rattle.lane_threads_tests.proofs.Calls.{created, granted, queued, released, called, destroyed, refused}
use Rattle.lane_threads_tests.proofs.Table.{bounces, first_in, second_in, first_gone, back, first_unloaded}
use Rattle.lane_threads_tests.proofs.Table.{one_back, both_back}

-- the maps and memories of lane 0, by their operations, and the zone
abbrev pub of_table : ℕ → MapId
of_table k = record { lane = record { 0 = 0 }; made_at = k }

abbrev pub zone : ZoneId
zone = record { 0 = 0 }

abbrev pub idle : Option OwnMap
idle = is_known_in_zone 0 Idle

abbrev Fresh : View → Type 0
Fresh = HasMaps None None []

-- the two maps are made, of a tag that could bounce
module _ (d e : Seen) (t : TagLimits) (could : IsTrue (could_bounce t 0x1010)) where
  asks_first : Each 0 Fresh (λ l. MayAsk l (CreateMap (of_table 1) t false))
  asks_first l id h = (sym id, bounces t l.maxmem h.maxmem could, h.one)

  asks_second : Each 0 (HasMaps idle None []) (λ l. MayAsk l (CreateMap (of_table 2) t true))
  asks_second l id h = (sym id, bounces t l.maxmem h.maxmem could, h.two)

  pub may_make_first : Knows 0 Fresh d → Allows d 0 (CreateMap (of_table 1) t false)
  may_make_first k = allows 0 Fresh d k (CreateMap (of_table 1) t false) asks_first

  pub first_made : Knows 0 Fresh d → (g : Grown) → g.made ≡ true → g.zone.0 ≡ 0
      → HoldsAtDoor d 0 (CreateMap (of_table 1) t false) (GrownBy g) e → Knows 0 (HasMaps idle None []) e
  first_made k g made here h =
      created 0 Fresh (HasMaps idle None []) d e k (of_table 1) t false g 0 asks_first made here
      (λ l id has. first_in None None [] l has 0 Idle) h

  pub may_make_second : Knows 0 (HasMaps idle None []) d → Allows d 0 (CreateMap (of_table 2) t true)
  may_make_second k = allows 0 (HasMaps idle None []) d k (CreateMap (of_table 2) t true) asks_second

  pub second_made : Knows 0 (HasMaps idle None []) d → (g : Grown) → g.made ≡ true → g.zone.0 ≡ 0
      → HoldsAtDoor d 0 (CreateMap (of_table 2) t true) (GrownBy g) e → Knows 0 (HasMaps idle idle []) e
  second_made k g made here h =
      created 0 (HasMaps idle None []) (HasMaps idle idle []) d e k (of_table 2) t true g 0 asks_second made here
      (λ l id has. second_in idle None [] l has 0 Idle) h

module _ (d e : Seen) (one two : Option OwnMap) where
  asks_one : Each 0 (HasMaps idle two []) (λ l. MayAsk l (Grab (of_table 1) zone 2 false))
  asks_one l id h = (sym id, omega arith, h.one)

  asks_two : (nowait : Bool) → Each 0 (HasMaps one idle []) (λ l. MayAsk l (Grab (of_table 2) zone 2 nowait))
  asks_two nowait l id h = (sym id, omega arith, h.two)

  pub may_load_first : Knows 0 (HasMaps idle two []) d → Allows d 0 (Grab (of_table 1) zone 2 false)
  may_load_first k = allows 0 (HasMaps idle two []) d k (Grab (of_table 1) zone 2 false) asks_one

  pub first_loaded : Knows 0 (HasMaps idle two []) d → (pages : List ℕ)
      → HoldsAtDoor d 0 (Grab (of_table 1) zone 2 false) (Granted (as_pages pages)) e
      → Knows 0 (HasMaps (is_known_in_zone 0 (Loaded pages)) two []) e
  first_loaded k pages h =
      granted 0 (HasMaps idle two []) (HasMaps (is_known_in_zone 0 (Loaded pages)) two []) d e k (of_table 1) zone 2
      false
      pages asks_one (λ l id has. first_in idle two [] l has 0 (Loaded pages)) h

  pub may_load_second : (nowait : Bool) → Knows 0 (HasMaps one idle []) d → Allows d 0
      (Grab (of_table 2) zone 2 nowait)
  may_load_second nowait k = allows 0 (HasMaps one idle []) d k (Grab (of_table 2) zone 2 nowait) (asks_two nowait)

  pub second_refused : Knows 0 (HasMaps one idle []) d → HoldsAtDoor d 0 (Grab (of_table 2) zone 2 true) NoPages e
      → Knows 0 (HasMaps one idle []) e
  second_refused k h = refused 0 (HasMaps one idle []) d e k (of_table 2) zone 2 true (asks_two true) h

  pub second_waits : Knows 0 (HasMaps one idle []) d → (have : ℕ)
      → HoldsAtDoor d 0 (Grab (of_table 2) zone 2 false) (Queued have) e →
      Knows 0 (HasMaps one (is_known_in_zone 0 (Waiting 2)) []) e
  second_waits k have h =
      queued 0 (HasMaps one idle []) (HasMaps one (is_known_in_zone 0 (Waiting 2)) []) d e k (of_table 2) zone 2 have
      false
      (asks_two false) (λ l id has. second_in one idle [] l has 0 (Waiting 2)) h

  pub unload_first : (p q : ℕ) → Knows 0 (HasMaps (is_known_in_zone 0 (Loaded (p ∷ q ∷ []))) two []) d
      → Knows 0 (HasMaps (is_known_in_zone 0 Returning) two (back p ∷ back q ∷ [])) d
  unload_first p q k =
      unloads 0 (HasMaps (is_known_in_zone 0 (Loaded (p ∷ q ∷ []))) two []) d k
      (HasMaps (is_known_in_zone 0 Returning) two (back p ∷ back q ∷ [])) 1 0 (p ∷ q ∷ []) (λ l id has. has.one)
      (λ l id has. first_unloaded p q two l has)

  asks_back : (p : ℕ) (rs : List Return)
      → Each 0 (HasMaps one two (back p ∷ rs)) (λ l. MayAsk l (Release (of_table 1) zone (record { 0 = p })))
  asks_back p rs l id h = (sym id, subst (λ qs. IsFront qs 1 0 p) (sym h.returns) (refl, refl, refl))

  pub may_give_back : (p : ℕ) (rs : List Return) → Knows 0 (HasMaps one two (back p ∷ rs)) d
      → Allows d 0 (Release (of_table 1) zone (record { 0 = p }))
  may_give_back p rs k =
      allows 0 (HasMaps one two (back p ∷ rs)) d k (Release (of_table 1) zone (record { 0 = p })) (asks_back p rs)

  pub second_called : Knows 0 (HasMaps one (is_known_in_zone 0 (Waiting 2)) []) d → (m : MapId) (pages : List ℕ) → m
      ≡ of_table
      2
      → HoldsAtDoor d 0 TakeCallback (Called m (as_pages pages)) e
      → Knows 0 (HasMaps one (is_known_in_zone 0 (Loaded pages)) []) e
  second_called k m pages is h =
      called 0 (HasMaps one (is_known_in_zone 0 (Waiting 2)) []) (HasMaps one (is_known_in_zone 0 (Loaded pages)) []) d
      e k
      (of_table 2) pages
      (λ l id has. subst (λ z. HasMaps one (is_known_in_zone 0 (Loaded pages)) [] (view_staged l 2 z (Loaded pages)))
      (sym (ap zone_in has.two)) (second_in one (is_known_in_zone 0 (Waiting 2)) [] l has 0 (Loaded pages)))
      (subst (λ n. HoldsAtDoor d 0 TakeCallback (Called n (as_pages pages)) e) is h)

  pub may_end_first : Knows 0 (HasMaps idle two []) d → Allows d 0 (DestroyMap (of_table 1) zone)
  may_end_first k = allows 0 (HasMaps idle two []) d k (DestroyMap (of_table 1) zone) (λ l id has. (sym id, has.one))

  pub first_ended : Knows 0 (HasMaps idle two []) d → HoldsAtDoor d 0 (DestroyMap (of_table 1) zone) Nothing e
      → Knows 0 (HasMaps None two []) e
  first_ended k h =
      destroyed 0 (HasMaps idle two []) (HasMaps None two []) d e k (of_table 1) zone (λ l id has. (sym id, has.one))
      (λ l id has. first_gone idle two [] l has) h

  pub may_make_memory : (t : TagLimits) → Knows 0 (HasMaps one two []) d → Allows d 0 (MemAlloc (of_table 3) t)
  may_make_memory t k = allows 0 (HasMaps one two []) d k (MemAlloc (of_table 3) t) (λ l id has. (sym id, has.three))

-- the second page goes back, and then the first map is idle
module _ (d e : Seen) (two : Option OwnMap) (p q moved : ℕ) where
  pub first_back : Knows 0 (HasMaps (is_known_in_zone 0 Returning) two (back p ∷ back q ∷ [])) d
      → HoldsAtDoor d 0 (Release (of_table 1) zone (record { 0 = p })) (Served moved) e
      → Knows 0 (HasMaps (is_known_in_zone 0 Returning) two (back q ∷ [])) e
  first_back k h =
      released 0 (HasMaps (is_known_in_zone 0 Returning) two (back p ∷ back q ∷ []))
      (HasMaps (is_known_in_zone 0 Returning) two (back q ∷ [])) d e k (of_table 1) zone (record { 0 = p }) moved
      (back p)
      (back q ∷ []) (asks_back d e (is_known_in_zone 0 Returning) two p (back q ∷ [])) (λ l id has. has.returns)
      (λ l id has. one_back p q two l has) h

  pub second_back : Knows 0 (HasMaps (is_known_in_zone 0 Returning) two (back q ∷ [])) d
      → HoldsAtDoor d 0 (Release (of_table 1) zone (record { 0 = q })) (Served moved) e →
      Knows 0 (HasMaps idle two []) e
  second_back k h =
      released 0 (HasMaps (is_known_in_zone 0 Returning) two (back q ∷ [])) (HasMaps idle two []) d e k (of_table 1)
      zone
      (record { 0 = q }) moved (back q) [] (asks_back d e (is_known_in_zone 0 Returning) two q [])
      (λ l id has. has.returns)
      (λ l id has. both_back q two l has) h

-- no memory of the operation of number 4
record HasNoFourth (l : View) : Type 0 where
  four : l.mem_at 4 ≡ None

no_fourth : (l : View) (r : Option RoomyPages) → l.id ≡ 0 → l.mem_at 4 ≡ None
    → IsOf 0 HasNoFourth (after_mem_alloc l 3 (memory_reply r))
no_fourth l None id none = (id, record { four = none })
no_fourth l (Some pages) id none = (id, record { four = none })

-- whatever became of that of number 3, that of number 4 may be asked for
pub may_make_next : (d e : Seen) (one two : Option OwnMap) (t u : TagLimits) → Knows 0 (HasMaps one two []) d
    → (r : Option RoomyPages) → HoldsAtDoor d 0 (MemAlloc (of_table 3) t) (memory_reply r) e
    → Allows e 0 (MemAlloc (of_table 4) u)
may_make_next d e one two t u k r h =
    allows 0 HasNoFourth e (held 0 (HasMaps one two []) d k HasNoFourth e (MemAlloc (of_table 3) t) (memory_reply r)
    (λ l id has. (sym id, has.three)) (λ l id has. no_fourth l r id has.four) h) (MemAlloc (of_table 4) u)
    (λ l id has. (sym id, has.four))
