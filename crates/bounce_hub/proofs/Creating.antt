-- The making of a map.
use Rattle.std.proofs.Common.{◌≡◌, ℕ, ◌<◌, ◌≤◌, ◌+◌, ◌==◌, ◌||◌, ◌∷◌, ◌++◌, [], Bool, true, false, List, length, take}
use Rattle.std.proofs.Common.{set, get_or, sym, ap, ◌∙◌, arith, slice_get}
use Rattle.std.proofs.lemmas.List.{length-append, length-set}
use Rattle.busdma_machine.specs.declared.name.MapId.{MapId}
use Rattle.busdma_machine.specs.declared.name.ZoneId.{ZoneId}
use Rattle.busdma_machine.specs.declared.tags.tag.TagLimits.{TagLimits}
use Rattle.busdma_machine.specs.declared.bounce.hold.HubCall.TheVariants.{CreateMap}
use Rattle.busdma_machine.specs.declared.bounce.hold.HubReply.TheVariants.{Grown}
use Rattle.busdma_machine.specs.Bounce.Account.{Account, zone_at, total}
use Rattle.busdma_machine.specs.Bounce.AccountStep.{AccountReply as Outcome, created}
use Rattle.busdma_machine.specs.Bounce.Growth.{zone_for_tag, with_zone_for, wanted_for}
use Rattle.busdma_machine.specs.Bounce.Growth.{wanted_by_map, most_pages, maxpages}
use Rattle.busdma_machine.specs.Bounce.Growth.{added, grown, with_zone_map}
use Rattle.bounce_hub.specs.declared.hub_zone.HubZone.{HubZone}
use Rattle.bounce_hub.specs.declared.pool.Pool.{Pool}
use Rattle.bounce_hub.specs.Growing.{GrewBy, Grows, place_for, grown_maps, grown_pages}
use Rattle.bounce_hub.specs.Pools.{Matches, PoolAgrees, Fits, Stepped}
use Rattle.bounce_hub.proofs.Agreeing.{Around, agrees-as, zone-matches}
use Rattle.bounce_hub.proofs.Mapping.{agrees-mapped, maps-owed, created-made, created-not}
use Rattle.bounce_hub.proofs.ZoneGrowth.{place-is, place-inside, wanted-is}

module _ (p q : Pool) (t : TagLimits) (first_done : Bool) (m : MapId) (place wanted n : ℕ) (zone : ZoneId)
    (a : Account) (agrees : PoolAgrees p a) (fits : Fits p a)
    (found : place ≡ place_for t p.zones.items) (named : zone ≡ record { 0 = place })
    (wants : wanted ≡ wanted_for t first_done (grown_maps (slice_get p.zones.items place))
    (grown_pages (slice_get p.zones.items place)) (most_pages t p.max_bpages p.maxmem))
    (grows : Grows p t place wanted n q) where
  abbrev z : ℕ
  z = zone_for_tag t a.zones

  abbrev b : Account
  b = with_zone_for t a

  at : place ≡ z
  at = found ∙ place-is t p a agrees

  grew : GrewBy p t place wanted n a q
  grew = grows a agrees fits at

  now : PoolAgrees q (grown b z n)
  now = agrees-as q (grown b place n) (grown b z n) (ap (λ (k : ℕ). grown b k n) at) grew.agrees

  inside : place < length (grown b z n).zones
  inside =
      omega (
        arith,
        at,
        length-set b.zones z (record (zone_at b z) { avail = (zone_at b z).avail ++ take n a.bank }),
        place-inside t a.zones,
      )

  wish : wanted ≡ wanted_by_map t first_done (zone_at b z) (total b z) (maxpages t a)
  wish = wants ∙ wanted-is t first_done p a place agrees fits.well at

  count : n ≡ added b z wanted
  count = grew.added ∙ ap (λ (k : ℕ). added b k wanted) at

  pub create-inside : place < length q.zones.items
  create-inside = omega (arith, inside, now.count)

  pub create-small : (s : HubZone) → s ≡ get_or q.zones.items place s → s.maps ≤ q.owed
  create-small s here =
      omega (
        arith,
        (zone-matches q (grown b z n) place s now inside here).maps,
        maps-owed (grown b z n) place inside,
        now.owed,
      )

  reply_is : (v : Bool) → Grown (record { zone = zone; added = n; made = v })
      ≡ Grown (record { zone = record { 0 = z }; added = n; made = v })
  reply_is v = ap (λ (k : ZoneId). Grown (record { zone = k; added = n; made = v })) (named
      ∙ ap (λ (k : ℕ). record { 0 = k }) at)

  pub create-not : (v : Bool) → v ≡ (first_done || n == wanted) → v ≡ false →
      Stepped p m.lane.0 (CreateMap m t first_done) (Grown (record { zone = zone; added = n; made = v })) a q
  create-not v e fails =
      let is = created-not m t first_done a n wanted wish count (sym e ∙ fails) in
      record {
        agrees =
            agrees-as q (grown b z n) (created m t first_done a).account
            (sym (ap (λ (o : Outcome). o.account) is)) now;
        reply = ap (λ (w : Bool). Grown (record { zone = zone; added = n; made = w })) fails ∙ reply_is false
            ∙ sym (ap (λ (o : Outcome). o.reply) is);
        room = grew.room;
      }

  pub create-made : (r : Pool) (s : HubZone) (v : Bool) → s ≡ get_or q.zones.items place s → Around q r →
      r.zones.items ≡ set q.zones.items place (record s { maps = s.maps + 1 }) →
      r.ready ≡ q.ready → r.owed ≡ q.owed + 1
      → v ≡ (first_done || n == wanted) → v ≡ true →
      Stepped p m.lane.0 (CreateMap m t first_done) (Grown (record { zone = zone; added = n; made = v })) a r
  create-made r s v here around zones ready more e holds =
      let g : Account = grown b z n in
      let is = created-made m t first_done a n wanted wish count (sym e ∙ holds) in
      let maps : List MapId = (zone_at g place).maps ++ m ∷ [] in
      let matches : Matches s g place = zone-matches q g place s now inside here in
      let longer : length maps ≡ length (zone_at g place).maps + 1 = length-append (zone_at g place).maps (m ∷ []) in
      let joined : PoolAgrees r (with_zone_map g place m) =
      agrees-mapped q r g place s (record s { maps = s.maps + 1 }) maps now around inside matches
      (ap (λ (k : ℕ). record s { maps = k }) (omega (arith, matches.maps, longer))) zones
      ready (omega (arith, more, longer)) in
      record {
        agrees = agrees-as r (with_zone_map g place m) (created m t first_done a).account
            (ap (λ (k : ℕ). with_zone_map g k m) at
            ∙ sym (ap (λ (o : Outcome). o.account) is)) joined;
        reply = ap (λ (w : Bool). Grown (record { zone = zone; added = n; made = w })) holds ∙ reply_is true
            ∙ sym (ap (λ (o : Outcome). o.reply) is);
        room = ap (λ b. b.room) around.bank ∙ grew.room;
      }
