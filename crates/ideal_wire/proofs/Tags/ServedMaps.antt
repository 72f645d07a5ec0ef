-- The zones of maps serve their tags after each step, and whatever others call.
use Rattle.std.proofs.Common.{◌≡◌, ℕ, ◌<◌, ◌≤◌, ◌==◌, ◌&&◌, Bool, true, false, cond, List, [], length, Option, Some}
use Rattle.std.proofs.Common.{None, refl, ap, sym, ◌∙◌, subst, arith, nat_le, inl, inr, unwrap_or, option_map, IsTrue}
use Rattle.std.proofs.Common.{◌⊎◌}
use Rattle.std.proofs.lemmas.Bool.{and_parts, cases_lt, leb-true}
use Rattle.std.proofs.lemmas.List.{get_or_past}
use Rattle.std.specs.FinMap.{get}
use Rattle.busdma_machine.specs.declared.bounce.hold.HubCall.{HubCall}
use Rattle.busdma_machine.specs.declared.bounce.hold.HubCall.TheVariants as call
use Rattle.busdma_machine.specs.declared.bounce.hold.HubReply.{HubReply}
use Rattle.busdma_machine.specs.declared.bounce.hold.HubReply.TheVariants as reply
use Rattle.busdma_machine.specs.declared.bounce.hold.HoldEntry.{HoldEntry}
use Rattle.busdma_base.specs.declared.journals.journal.Side.{Side}
use Rattle.busdma_machine.specs.declared.tags.tag.TagLimits.{TagLimits}
use Rattle.busdma_machine.specs.Bounce.Account.{Account, no_zone, zone_at}
use Rattle.busdma_machine.specs.Bounce.AccountStep.{account_step}
use Rattle.busdma_machine.specs.Bounce.Growth.{serves_tag}
use Rattle.busdma_machine.specs.Bounce.History.{account_of}
use Rattle.busdma_machine.specs.Bounce.KeptZones.{KeepsZones}
use Rattle.busdma_machine.proofs.Accounts.KeptZones.{keeps-all, keeps-history, keeps-step, serves-created}
use Rattle.ideal_lane.specs.Asking.{Asking, Gives, Asks, call_of, by_reply}
use Rattle.ideal_lane.specs.Loads.{limits_of, no_limits}
use Rattle.ideal_lane.specs.Maps.{with_map}
use Rattle.ideal_lane.specs.Outcomes.{Outcome}
use Rattle.ideal_lane.specs.Sends.{Send, copied}
use Rattle.ideal_lane.specs.Standing.{Stands}
use Rattle.ideal_lane.specs.State.{LaneState, LaneTag, LaneMap, Idle, named}
use Rattle.ideal_lane.specs.Tags.{with_tag}
use Rattle.ideal_lane.specs.Turns.{Turned, lane_step}
use Rattle.ideal_lane.proofs.Effects.{Advances, Calls, IsReplyOf, Leaves, Makes, Releases, Stays, Steps, Touched, Work}
use Rattle.ideal_lane.proofs.Effects.{Declines, Keeps, Resends}
use Rattle.ideal_lane.proofs.Stepping.{turn-steps}
use Rattle.ideal_lane.proofs.Lookups.{get_put}
use Rattle.ideal_wire.specs.Machine.{IsInMachine}
use Rattle.ideal_wire.specs.Served.{AreServed, KeepsServed}
use Rattle.ideal_wire.proofs.Obeys.AcceptedLaws.{limits-effective}
use Rattle.ideal_wire.proofs.Faithful.CopiedClusters.{copied-machine}
use Rattle.ideal_wire.proofs.Tags.KeptMaps.{KeepsMaps, back-kept, same, makes-kept, IsCreated, Creation}
use Rattle.ideal_wire.proofs.Tags.KeptTags.{put-keeps, put-there}
use Rattle.ideal_wire.proofs.Laid.Positions.{found_one}
use Rattle.ideal_lane.proofs.Refusing.{past}
use Rattle.busdma_machine.specs.declared.bounce.zone.Grown.{Grown}

-- ---- zones that stay

-- a zone that serves a tag is one of the account's
zone-inside : (t : TagLimits) (a : Account) (z : ℕ) → 1 ≤ t.alignment → serves_tag t (zone_at a z) ≡ true →
    z < length a.zones
zone-inside t a z some serves = elim (cases_lt z (length a.zones)) as (λ _. z < length a.zones) [
  | inl inside ↦ inside
  | inr past ↦
      let none : zone_at a z ≡ no_zone = get_or_past a.zones z no_zone past in
      let low : (nat_le t.alignment 0 && nat_le 0 t.lowaddr.0) ≡ true = sym (ap (serves_tag t) none) ∙ serves in
      let zero : t.alignment ≤ 0 = leb-true t.alignment 0 (and_parts (nat_le t.alignment 0) _ low).0 in
      absurd (omega (arith, some, zero))
]

-- a zone serves a tag as long as the zone keeps its lowaddr and its alignment
still-serves : (t : TagLimits) (a b : Account) (z : ℕ) → 1 ≤ t.alignment → KeepsZones a b →
    serves_tag t (zone_at a z) ≡ true → serves_tag t (zone_at b z) ≡ true
still-serves t a b z some kept serves =
    let inside = zone-inside t a z some serves in
    (λ i. nat_le t.alignment (kept.alignment z inside i) && nat_le (kept.lowaddr z inside i) t.lowaddr.0) ∙ serves

module _ (l : LaneState) (stands : Stands l) (a : Account) (machine : IsInMachine l) (served : AreServed l a) where
  aligned : (m : ℕ) (o : LaneMap) → get l.maps m ≡ Some o → 1 ≤ (limits_of l o).alignment
  aligned m o there = (limits-effective l machine stands m o there).alignment_low

  kept-served : (l' : LaneState) (b : Account) → KeepsZones a b → KeepsMaps l stands l' → AreServed l' b
  kept-served l' b zones maps m z o e zone =
      let w = maps m z o e zone in
      ap (λ t. serves_tag t (zone_at b z)) w.limits
      ∙ still-serves (limits_of l w.map) a b z (aligned m w.map w.there) zones (served m z w.map w.there w.zone)

  -- whatever is called meanwhile
  pub served-on : (es : List HoldEntry) → AreServed l (account_of a es)
  served-on es = kept-served l (account_of a es) (keeps-history a es) (same l stands)

  -- the making of a map, with the zone that the account's reply names
  module _ (t : ℕ) (g : LaneTag) (there : get l.tags t ≡ Some g) where
    abbrev asks : HubCall
    asks = call.CreateMap (named l l.place) g.limits g.first_done

    made-by : (n : Grown) → (account_step l.id asks a).reply ≡ reply.Grown n →
        AreServed (with_tag t g.limits true (with_map t (Some n.zone.0) l)) (account_step l.id asks a).account
    made-by n e = all
      where
        after : Account
        after = (account_step l.id asks a).account

        new : LaneMap
        new = record { tag = t; zone = Some n.zone.0; tried = false; stage = Idle }

        made : LaneState
        made = with_tag t g.limits true (with_map t (Some n.zone.0) l)

        tags : (n : ℕ) (o : LaneMap) → get l.maps n ≡ Some o → limits_of made o ≡ limits_of l o
        tags = put-keeps (λ q. unwrap_or (option_map (λ (x : LaneTag). x.limits) q) no_limits) l stands made t
            (record { limits = g.limits; first_done = true; device = false }) refl
            (λ x f. ap (λ (y : LaneTag). y.limits) (found_one (get l.tags t) x g f there))

        new-limits : limits_of made new ≡ g.limits
        new-limits = ap (λ q. unwrap_or (option_map (λ (x : LaneTag). x.limits) q) no_limits)
            (put-there l.tags t (record { limits = g.limits; first_done = true; device = false }))

        serves : IsTrue (serves_tag g.limits (zone_at after n.zone.0))
        serves = serves-created (named l l.place) g.limits g.first_done a n [] e

        all : AreServed made after
        all m z o f zone = at (m == l.place) (sym (get_put l.maps l.place new m) ∙ f)
          where
            at : (b : Bool) → cond b (Some new) (get l.maps m) ≡ Some o →
                serves_tag (limits_of made o) (zone_at after z) ≡ true
            at true q =
                let is : new ≡ o = found_one (Some new) new o refl q in
                let at-zone : n.zone.0 ≡ z =
                found_one (Some n.zone.0) n.zone.0 z refl (ap (λ (y : LaneMap). y.zone) is ∙ zone) in
                sym (λ i. serves_tag (limits_of made (is i)) (zone_at after (at-zone i)))
                ∙ ap (λ y. serves_tag y (zone_at after n.zone.0)) new-limits
                ∙ serves
            at false q =
                ap (λ y. serves_tag y (zone_at after z)) (tags m o q)
                ∙ still-serves (limits_of l o) a after z (aligned m o q) (keeps-step l.id asks a) (served m z o q zone)

  -- the account after a call, if one was made
  abbrev account_after : Option HubCall → Account
  account_after None = a
  account_after (Some c) = (account_step l.id c a).account

  zones : (c : Option HubCall) → KeepsZones a (account_after c)
  zones None = keeps-all a a refl
  zones (Some c) = keeps-step l.id c a

  kept-or-made : {d : Work} {c : Option HubCall} {r : HubReply} {x : Outcome} → IsReplyOf l.id a c r →
      (IsCreated l d c r x) ⊎ KeepsMaps l stands x.lane → AreServed x.lane (account_after c)
  kept-or-made e (inl (Creation name t g there n)) = made-by t g there n e
  kept-or-made {c = c} {x = x} e (inr kept) = kept-served x.lane (account_after c) (zones c) kept

  makes-served : {d : Work} {c : Option HubCall} {r : HubReply} {x : Outcome} → IsReplyOf l.id a c r →
      Makes l d c r x → AreServed x.lane (account_after c)
  makes-served e m = kept-or-made e (makes-kept l stands m)

-- ---- the turn
module _ (l : LaneState) (stands : Stands l) (a : Account) (machine : IsInMachine l) (served : AreServed l a) where
  abbrev after : Option HubCall → Account
  after c = account_after l stands a machine served c

  abbrev kept : (l' : LaneState) (c : Option HubCall) → KeepsMaps l stands l' → AreServed l' (after c)
  kept l' c = kept-served l stands a machine served l' (after c) (zones l stands a machine served c)

  -- the bytes of the driver bear on no account
  same-account : (s : Send) (c : Option HubCall) →
      account_after (copied s l) stands a (copied-machine l s machine) served c ≡ after c
  same-account s None = refl
  same-account s (Some c) = refl

  steps-served : {s : Side} {c : Option HubCall} {r : HubReply} {t : Turned} → IsReplyOf l.id a c r →
      Steps l s c r t → AreServed t.lane (after c)
  steps-served {c = c} e (Stays t is) = kept l c (same l stands)
  steps-served e (Advances o at free m) = λ k z y f zone. makes-served l stands a machine served e m k z y f zone
  steps-served e (Keeps o at free s is big held m) =
      λ k z y f zone. makes-served l stands a machine served e m k z y f zone
  steps-served {c = c} e (Declines s now x why) = λ k z y f zone. kept l c (same l stands) k z y f zone
  steps-served {c = c} {t = t} e (Resends s now k told m) =
      subst (AreServed t.lane) (same-account s c)
      (λ j z y f zone. makes-served (copied s l) stands a (copied-machine l s machine) served e m j z y f zone)
  steps-served e (Leaves q rest is t) =
      λ k z y f zone. makes-served l stands a machine served {r = reply.Nothing} e (Touched t) k z y f zone
  steps-served {c = c} e (Releases q rest is y there) = kept _ c (back-kept l stands q rest y there)
  steps-served e (Calls m pages k) = makes-served l stands a machine served e k

  pub turn-served : (s : Side) → KeepsServed l.id a (lane_step l s)
  turn-served s = by (lane_step l s) (turn-steps l s)
    where
      by : (x : Asking Turned) → ((r : HubReply) → Steps l s (call_of x) r (by_reply x r)) → KeepsServed l.id a x
      by (Gives t) h = steps-served tt (h reply.Nothing)
      by (Asks c k) h = steps-served refl (h (account_step l.id c a).reply)
