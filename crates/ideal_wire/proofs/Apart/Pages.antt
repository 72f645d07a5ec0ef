-- The pages that a map is given are frames, which the device of a tag reaches where their zone serves the tag.
use Rattle.std.proofs.Common.{◌≡◌, ℕ, ◌+◌, ◌≤◌, ◌==◌, Bool, true, false, if◌then◌else◌, List, [], ◌∷◌, length, take}
use Rattle.std.proofs.Common.{All, sym, subst, arith, nat_le, inl, inr}
use Rattle.std.proofs.lemmas.Bool.{and_parts, leb-true, cases_lt}
use Rattle.std.proofs.lemmas.List.{get_or_past}
use Rattle.std.proofs.lemmas.List.Elements.{All-nil, All-head, All-tail, All-take, All-get_or}
use Rattle.std.specs.List.{AllByRecursion}
use Rattle.busdma_machine.specs.declared.bounce.hold.HubReply.TheVariants.{Granted, Queued, NoPages, Called, Nothing}
use Rattle.busdma_machine.specs.declared.bounce.zone.Waiter.{Waiter}
use Rattle.busdma_machine.specs.declared.machine.address.Pa.{Pa}
use Rattle.busdma_machine.specs.declared.name.MapId.{MapId}
use Rattle.busdma_machine.specs.declared.tags.tag.TagLimits.{TagLimits}
use Rattle.busdma_machine.specs.Bounce.Account.{Account, Zone, no_zone, zone_at, free}
use Rattle.busdma_machine.specs.Bounce.AccountStep.{AccountReply, as_pages, grabbed, called_from}
use Rattle.busdma_machine.specs.Bounce.EachFrame.{EachFrame}
use Rattle.busdma_machine.specs.Bounce.Growth.{serves_tag}
use Rattle.busdma_machine.specs.Bounce.History.{IsFrame}
use Rattle.busdma_machine.specs.Bounce.LowPages.{EndsWithin, PagesLieLow}
use Rattle.busdma_machine.specs.Bounce.Serving.{handed, waiting_at_tail}
use Rattle.busdma_rules.specs.Segments.Obeying.{IsReachable}
use Rattle.busdma_rules.specs.Segments.Trace.{IsPage}

-- frames that end at or below an address that is at or below lowaddr
reach : (t : TagLimits) (limit : ℕ) (xs : List ℕ) → limit ≤ t.lowaddr.0 → All IsFrame xs →
    All (EndsWithin limit) xs → AllByRecursion (IsReachable t) (as_pages xs)
reach t limit [] low frames ends = tt
reach t limit (x ∷ xs) low frames ends =
    let f : IsFrame x = All-head IsFrame x xs frames in
    let e : x + 4095 ≤ limit = All-head (EndsWithin limit) x xs ends in (
      ((f.whole, f.numbered), omega (arith, e, low)),
      reach t limit xs low (All-tail IsFrame x xs frames) (All-tail (EndsWithin limit) x xs ends),
    )

-- ---- the pages that a zone gives
module _ (a : Account) (z : ℕ) where
  zone-frames : EachFrame IsFrame a → All IsFrame (zone_at a z).avail
  zone-frames each = elim (cases_lt z (length a.zones)) as (λ _. All IsFrame (zone_at a z).avail) [
    | inl inside ↦ All-get_or (λ (s : Zone). All IsFrame s.avail) a.zones z no_zone inside each.listed
    | inr past ↦
        subst (λ (s : Zone). All IsFrame s.avail) (sym (get_or_past a.zones z no_zone past)) (All-nil IsFrame)
  ]

  -- the end of a wish for pages, by whether there are as many and whether it must not wait
  abbrev granting : MapId → ℕ → Bool → Bool → AccountReply
  granting m need b c =
      if b then record { account = handed a m z need; reply = Granted (as_pages (take need (zone_at a z).avail)) }
      else if c then record { account = a; reply = NoPages }
      else record { account = waiting_at_tail a m z need; reply = Queued (free a z) }

  -- what holds of the first pages of the zone holds of those that are granted
  granted-first : (P : List Pa → Type 0) → ((n : ℕ) → P (as_pages (take n (zone_at a z).avail))) →
      (m : MapId) (need : ℕ) (no_wait : Bool) (pages : List Pa) →
      (grabbed m z need no_wait a).reply ≡ Granted pages → P pages
  granted-first P first m need no_wait pages = by (nat_le need (free a z)) no_wait
    where
      by : (b c : Bool) → (granting m need b c).reply ≡ Granted pages → P pages
      by true c e =
          let is : as_pages (take need (zone_at a z).avail) ≡ pages = cc in subst P is (first need)
      by false true e = absurd (cc)
      by false false e = absurd (cc)

-- the end of the taking of a callback, by whether its head is the lane's
abbrev calling : Account → Waiter → List Waiter → Bool → AccountReply
calling a w ws b =
    if b then record {
      account = handed (record a { ready = ws }) w.map w.zone.0 w.need;
      reply = Called w.map (as_pages (take w.need (zone_at a w.zone.0).avail));
    }
    else record { account = a; reply = Nothing }

-- what holds of the first pages of its zone holds of those that a callback brings
called-first : (P : List Pa → Type 0) (a : Account) (lane : ℕ) (w : Waiter) (ws : List Waiter) (m : MapId)
    (pages : List Pa) → ((n : ℕ) → P (as_pages (take n (zone_at a w.zone.0).avail))) →
    (called_from (w ∷ ws) lane a).reply ≡ Called m pages → P pages
called-first P a lane w ws m pages first = by (w.map.lane.0 == lane)
  where
    by : (b : Bool) → (calling a w ws b).reply ≡ Called m pages → P pages
    by true e =
        let is : as_pages (take w.need (zone_at a w.zone.0).avail) ≡ pages = cc in subst P is (first w.need)
    by false e = absurd (cc)

-- ---- they are frames

whole : (xs : List ℕ) → All IsFrame xs → AllByRecursion IsPage (as_pages xs)
whole [] frames = tt
whole (x ∷ xs) frames =
    let f : IsFrame x = All-head IsFrame x xs frames in
    ((f.whole, f.numbered), whole xs (All-tail IsFrame x xs frames))

first-whole : (a : Account) → EachFrame IsFrame a → (z n : ℕ) →
    AllByRecursion IsPage (as_pages (take n (zone_at a z).avail))
first-whole a each z n =
    whole (take n (zone_at a z).avail) (All-take IsFrame n (zone_at a z).avail (zone-frames a z each))

pub granted-whole : (a : Account) → EachFrame IsFrame a → (m : MapId) (z need : ℕ) (no_wait : Bool) (pages : List Pa) →
    (grabbed m z need no_wait a).reply ≡ Granted pages → AllByRecursion IsPage pages
granted-whole a each m z = granted-first a z (AllByRecursion IsPage) (first-whole a each z) m

pub called-whole : (a : Account) → EachFrame IsFrame a →
    (lane : ℕ) (ready : List Waiter) (m : MapId) (pages : List Pa) →
    (called_from ready lane a).reply ≡ Called m pages → AllByRecursion IsPage pages
called-whole a each lane [] m pages e = absurd (cc)
called-whole a each lane (w ∷ ws) m pages e =
    called-first (AllByRecursion IsPage) a lane w ws m pages (first-whole a each w.zone.0) e

-- ---- the device of a tag reaches those of a zone that serves the tag

pub first-reachable : (t : TagLimits) (a : Account) (low : PagesLieLow a) (each : EachFrame IsFrame a) (z : ℕ) →
    serves_tag t (zone_at a z) ≡ true → (n : ℕ) →
    AllByRecursion (IsReachable t) (as_pages (take n (zone_at a z).avail))
first-reachable t a low each z serves n =
    let parts = and_parts (nat_le t.alignment (zone_at a z).alignment)
    (nat_le (zone_at a z).lowaddr t.lowaddr.0) serves in
    reach t (zone_at a z).lowaddr (take n (zone_at a z).avail)
    (leb-true (zone_at a z).lowaddr t.lowaddr.0 parts.1)
    (All-take IsFrame n (zone_at a z).avail (zone-frames a z each))
    (All-take (EndsWithin (zone_at a z).lowaddr) n (zone_at a z).avail (low.listed z))

pub granted-reachable : (t : TagLimits) (a : Account) (low : PagesLieLow a) (each : EachFrame IsFrame a) (z : ℕ) →
    serves_tag t (zone_at a z) ≡ true → (m : MapId) (need : ℕ) (no_wait : Bool) (pages : List Pa) →
    (grabbed m z need no_wait a).reply ≡ Granted pages → AllByRecursion (IsReachable t) pages
granted-reachable t a low each z serves =
    granted-first a z (AllByRecursion (IsReachable t)) (first-reachable t a low each z serves)

pub called-reachable : (t : TagLimits) (a : Account) (lane : ℕ) (w : Waiter) (ws : List Waiter) (m : MapId)
    (pages : List Pa) → PagesLieLow a → EachFrame IsFrame a → serves_tag t (zone_at a w.zone.0) ≡ true →
    (called_from (w ∷ ws) lane a).reply ≡ Called m pages → AllByRecursion (IsReachable t) pages
called-reachable t a lane w ws m pages low each serves =
    called-first (AllByRecursion (IsReachable t)) a lane w ws m pages (first-reachable t a low each w.zone.0 serves)
