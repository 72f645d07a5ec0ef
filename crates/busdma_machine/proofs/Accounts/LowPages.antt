-- The pages of each zone end at or below its lowaddr in every account that a sound history leads to.
use Rattle.std.proofs.Common.{◌≡◌, ℕ, zero, suc, ◌+◌, ◌<◌, ◌≤◌, Bool, true, false, cond, not, List, [], ◌∷◌, ◌++◌, map}
use Rattle.std.proofs.Common.{take, get_or, set, refl, sym, subst, arith, eqb, leb, if◌then◌else◌, ◌==◌, nat_le}
use Rattle.std.proofs.Common.{Option, Some, None, All}
use Rattle.std.specs.List.{count_by}
use Rattle.std.proofs.lemmas.Bool.{leb-true, leb-false, eqb-true, lt-leb}
use Rattle.std.proofs.lemmas.List.Sums.{sum_by-cons}
use Rattle.std.proofs.lemmas.List.Elements.{All-nil, All-cons, All-head, All-tail, All-take, All-drop, All-append}
use Rattle.std.proofs.lemmas.List.Elements.{All-weaker, All-map, All-filter}
use Rattle.busdma_machine.specs.declared.name.MapId.{MapId}
use Rattle.busdma_machine.specs.declared.tags.tag.TagLimits.{TagLimits}
use Rattle.busdma_machine.specs.declared.bounce.zone.Waiter.{Waiter}
use Rattle.busdma_machine.specs.declared.bounce.hold.HubCall.{HubCall}
use Rattle.busdma_machine.specs.declared.bounce.hold.HubCall.TheVariants.{AttachTag, CreateMap, DestroyMap, Grab}
use Rattle.busdma_machine.specs.declared.bounce.hold.HubCall.TheVariants.{Release}
use Rattle.busdma_machine.specs.declared.bounce.hold.HubCall.TheVariants.{TakeCallback, MemAlloc, MemFree}
use Rattle.busdma_machine.specs.declared.bounce.hold.HubReply.TheVariants.{Nothing, Granted, Queued, NoPages, Called}
use Rattle.busdma_machine.specs.declared.bounce.hold.HoldEntry.{HoldEntry}
use Rattle.busdma_machine.specs.Bounce.Account.{Account, Zone, Held, zone_at, with_zone, no_zone, free, total}
use Rattle.busdma_machine.specs.Bounce.Growth.{serves_tag, zones_for, zone_for_tag}
use Rattle.busdma_machine.specs.Bounce.Growth.{with_zone_for, frames_below, added, grown}
use Rattle.busdma_machine.specs.Bounce.Growth.{maxpages, wanted_by_tag, wanted_by_map, with_zone_map}
use Rattle.busdma_machine.specs.Bounce.Serving.{is_holding, handed, waiting_at_tail, returned, served}
use Rattle.busdma_machine.specs.Bounce.AccountStep.{AccountReply, account_step, as_pages}
use Rattle.busdma_machine.specs.Bounce.AccountStep.{created, grabbed, called_from}
use Rattle.busdma_machine.specs.Bounce.AccountStep.{memory_placed}
use Rattle.busdma_machine.specs.Bounce.Conditions.{MayCall, times_held}
use Rattle.busdma_machine.specs.Bounce.History.{IsRising, IsOpening, IsSound, after_entry, account_of}
use Rattle.busdma_machine.specs.Bounce.LowPages.{EndsWithin, PagesLieLow}
use Rattle.busdma_machine.specs.Bounce.Places.{places}
use Rattle.busdma_machine.specs.Bounce.WellFormed.{IsAccountWellFormed}
use Rattle.busdma_machine.proofs.Accounts.EditedSums.{get_or-set_as}
use Rattle.busdma_machine.proofs.Accounts.Names.{and_left, and_right, get_or-zones_for}
use Rattle.busdma_machine.proofs.Accounts.Places.{where-step, places-opening, times-rising, tail_rises}
use Rattle.busdma_machine.proofs.Accounts.Rising.{rising-step, above_first}
use Rattle.busdma_machine.proofs.Accounts.WellFormed.{well-step, well-opening}

abbrev weight : Bool → ℕ
weight b = cond b 1 0

-- no zone gets a lower lowaddr, and zones and maps keep their pages
low-like : (a b : Account) → ((z : ℕ) → (zone_at a z).lowaddr ≤ (zone_at b z).lowaddr) →
    ((z : ℕ) → (zone_at b z).avail ≡ (zone_at a z).avail) → b.held ≡ a.held → PagesLieLow a → PagesLieLow b
low-like a b higher avail held low = record {
  listed =
      λ z. rw (avail z) (All-weaker (EndsWithin (zone_at a z).lowaddr) (EndsWithin (zone_at b z).lowaddr)
      (λ f h. omega (arith, h, higher z)) (zone_at a z).avail (low.listed z));
  held =
      rw held (All-weaker (λ (h : Held). EndsWithin (zone_at a h.zone).lowaddr h.page)
      (λ (h : Held). EndsWithin (zone_at b h.zone).lowaddr h.page)
      (λ h e. omega (arith, e, higher h.zone)) a.held low.held);
}

-- what holds of the new element and of the old one holds of the element at its place after the edit
get_or-set_any : (Q : Zone → Type 0) (zs : List Zone) (i j : ℕ) (k : Zone) → Q k →
    Q (get_or zs j no_zone) → Q (get_or (set zs i k) j no_zone)
get_or-set_any Q [] i j k new old = old
get_or-set_any Q (z ∷ zs) zero zero k new old = new
get_or-set_any Q (z ∷ zs) zero (suc j) k new old = old
get_or-set_any Q (z ∷ zs) (suc i) zero k new old = old
get_or-set_any Q (z ∷ zs) (suc i) (suc j) k new old = get_or-set_any Q zs i j k new old

-- a zone is replaced by one with the same lowaddr and low pages, and maps hold other pages that lie low
low-with_zone : (a b : Account) (z : ℕ) (k : Zone) → b.zones ≡ (with_zone a z k).zones →
    k.lowaddr ≡ (zone_at a z).lowaddr → All (EndsWithin (zone_at a z).lowaddr) k.avail
    → All (λ h. EndsWithin (zone_at a h.zone).lowaddr h.page) b.held → PagesLieLow a → PagesLieLow b
low-with_zone a b z k is lowaddr pages held low =
    let same : (y : ℕ) → (zone_at b y).lowaddr ≡ (zone_at a y).lowaddr =
    (λ y. rw is (get_or-set_as (λ (s : Zone). s.lowaddr) a.zones z y k no_zone lowaddr)) in
    record {
      listed =
          λ y. rw is (get_or-set_any (λ s. All (EndsWithin s.lowaddr) s.avail) a.zones z y k
          (subst (λ n. All (EndsWithin n) k.avail) (sym lowaddr) pages) (low.listed y));
      held =
          All-weaker (λ (h : Held). EndsWithin (zone_at a h.zone).lowaddr h.page)
          (λ (h : Held). EndsWithin (zone_at b h.zone).lowaddr h.page)
          (λ h e. omega (arith, e, same h.zone)) b.held held;
    }

lowaddr-zones_for : (t : TagLimits) (zs : List Zone) (z : ℕ) →
    (get_or zs z no_zone).lowaddr ≤ (get_or (zones_for t zs) z no_zone).lowaddr
lowaddr-zones_for t [] z = omega arith
lowaddr-zones_for t (x ∷ xs) zero = omega arith
lowaddr-zones_for t (x ∷ xs) (suc z) =
    elim (serves_tag t x) as (λ v. (get_or xs z no_zone).lowaddr
    ≤ (get_or (if v then xs else zones_for t xs) z no_zone).lowaddr)
    [ true ↦ omega arith | false ↦ lowaddr-zones_for t xs z ]

low-with_zone_for : (t : TagLimits) (a : Account) → PagesLieLow a → PagesLieLow (with_zone_for t a)
low-with_zone_for t a low =
    low-like a (with_zone_for t a) (lowaddr-zones_for t a.zones)
    (λ z. get_or-zones_for t (λ (s : Zone). s.avail) refl a.zones z) refl low

-- the lowest frames are those that lie low
none_below : (limit : ℕ) (fs : List ℕ) → All (λ f. limit < f + 4095) fs → frames_below limit fs ≡ 0
none_below limit [] above = refl
none_below limit (f ∷ fs) above =
    let none : weight (nat_le (f + 4095) limit) ≡ 0 =
    rw (lt-leb (f + 4095) limit (All-head (λ g. limit < g + 4095) f fs above)) refl in
    omega (
      arith,
      none,
      sum_by-cons (λ g. weight (nat_le (g + 4095) limit)) f fs,
      none_below limit fs (All-tail (λ g. limit < g + 4095) f fs above),
    )

first_below : (limit n : ℕ) (fs : List ℕ) → IsRising fs →
    n ≤ frames_below limit fs → All (EndsWithin limit) (take n fs)
first_below limit zero fs rising few = All-nil (EndsWithin limit)
first_below limit (suc n) [] rising few = All-nil (EndsWithin limit)
first_below limit (suc n) (f ∷ fs) rising few =
    (elim (leb (f + 4095) limit) as (λ v. leb (f + 4095) limit ≡ v → All (EndsWithin limit) (f ∷ take n fs)) [
      | true ↦ λ e. (let one : weight (nat_le (f + 4095) limit) ≡ 1 = rw e refl in
          All-cons (EndsWithin limit) f (take n fs) (leb-true (f + 4095) limit e)
          (first_below limit n fs (tail_rises f fs rising)
          (omega (arith, few, one, sum_by-cons (λ g. weight (nat_le (g + 4095) limit)) f fs))))
      | false ↦ λ e. (let over : limit < f + 4095 = leb-false (f + 4095) limit e in
          let above : All (λ g. limit < g + 4095) (f ∷ fs) =
          All-cons (λ g. limit < g + 4095) f fs over
          (All-weaker (λ g. f < g) (λ g. limit < g + 4095) (λ g h. omega (arith, h, over))
          fs (above_first f fs rising)) in
          absurd (omega (arith, few, none_below limit (f ∷ fs) above)))
    ]) refl

low-grown : (a : Account) (z wanted : ℕ) → IsRising a.bank → PagesLieLow a → PagesLieLow (grown a z (added a z wanted))
low-grown a z wanted rising low =
    let limit : ℕ = (zone_at a z).lowaddr in
    low-with_zone a (grown a z (added a z wanted)) z
    (record (zone_at a z) { avail = (zone_at a z).avail ++ take (added a z wanted) a.bank }) refl refl
    (All-append (EndsWithin limit) (zone_at a z).avail (take (added a z wanted) a.bank) (low.listed z)
    (first_below limit (added a z wanted) a.bank rising (omega arith)))
    low.held low

low-either : (b c : Account) (v : Bool) → PagesLieLow b → PagesLieLow c → PagesLieLow (if v then c else b)
low-either b c true s t = t
low-either b c false s t = s

-- a zone gets other maps or waiters
low-same : (a b : Account) (z : ℕ) (k : Zone) → b.zones ≡ (with_zone a z k).zones → k.lowaddr ≡ (zone_at a z).lowaddr →
    k.avail ≡ (zone_at a z).avail → b.held ≡ a.held → PagesLieLow a → PagesLieLow b
low-same a b z k is lowaddr avail held low =
    low-with_zone a b z k is lowaddr (rw avail (low.listed z)) (rw held low.held) low

low-created : (m : MapId) (t : TagLimits) (first_done : Bool) (a : Account) → IsRising a.bank → PagesLieLow a →
    PagesLieLow (created m t first_done a).account
low-created m t first_done a rising low =
    let b : Account = with_zone_for t a in
    let z : ℕ = zone_for_tag t a.zones in
    let c : Account = grown b z (added b z (wanted_by_map t first_done (zone_at b z) (total b z) (maxpages t a))) in
    let c_low : PagesLieLow c =
    low-grown b z (wanted_by_map t first_done (zone_at b z) (total b z) (maxpages t a))
    rising (low-with_zone_for t a low) in
    low-either c (with_zone_map c z m) _ c_low (low-same c (with_zone_map c z m) z _ refl refl refl refl c_low)

low-handed : (a : Account) (m : MapId) (z need : ℕ) → PagesLieLow a → PagesLieLow (handed a m z need)
low-handed a m z need low =
    let limit : ℕ = (zone_at a z).lowaddr in
    let avail : List ℕ = (zone_at a z).avail in
    low-with_zone a (handed a m z need) z _ refl refl (All-drop (EndsWithin limit) need avail (low.listed z))
    (All-append (λ (h : Held). EndsWithin (zone_at a h.zone).lowaddr h.page) a.held
    (map (λ p. record { page = p; zone = z; map = m }) (take need avail)) low.held
    (All-map (λ (h : Held). EndsWithin (zone_at a h.zone).lowaddr h.page) (λ p. record { page = p; zone = z; map = m })
    (take need avail) (All-take (EndsWithin limit) need avail (low.listed z))))
    low

low-grabbed : (m : MapId) (z need : ℕ) (nowait : Bool) (a : Account) → PagesLieLow a →
    PagesLieLow (grabbed m z need nowait a).account
low-grabbed m z need nowait a low =
    elim (leb need (free a z)) as (λ v. let o : AccountReply = if v
    then record { account = handed a m z need; reply = Granted (as_pages (take need (zone_at a z).avail)) }
    else (if nowait then record { account = a; reply = NoPages }
    else record { account = waiting_at_tail a m z need; reply = Queued (free a z) }) in PagesLieLow o.account) [
      | true ↦ low-handed a m z need low
      | false ↦
          (elim nowait as (λ v. let o : AccountReply = if v then record { account = a; reply = NoPages }
          else record { account = waiting_at_tail a m z need; reply = Queued (free a z) } in PagesLieLow o.account) [
            | true ↦ low
            | false ↦ low-same a (waiting_at_tail a m z need) z _ refl refl refl refl low
          ])
    ]

low-called : (ws : List Waiter) (lane : ℕ) (a : Account) → PagesLieLow a → PagesLieLow (called_from ws lane a).account
low-called [] lane a low = low
low-called (w ∷ ws) lane a low =
    let b : Account = record a { ready = ws } in
    elim (eqb w.map.lane.0 lane) as (λ v. let o : AccountReply = if v
    then record {
      account = handed b w.map w.zone.0 w.need;
      reply = Called w.map (as_pages (take w.need (zone_at a w.zone.0).avail));
    } else record {
      account = a;
      reply =
          Nothing;
    } in PagesLieLow o.account) [
      | true ↦ low-handed b w.map w.zone.0 w.need (record { listed = low.listed; held = low.held })
      | false ↦ low
    ]

-- a held page of a zone lies low
held_low : (a : Account) (m : MapId) (z page : ℕ) (hs : List Held) → 1 ≤ count_by (is_holding m z page) hs →
    All (λ h. EndsWithin (zone_at a h.zone).lowaddr h.page) hs → EndsWithin (zone_at a z).lowaddr page
held_low a m z page [] some all = absurd (omega (arith, some))
held_low a m z page (h ∷ hs) some all =
    (elim (is_holding m z page h) as (λ v. is_holding m z page h ≡ v → EndsWithin (zone_at a z).lowaddr page) [
      | true ↦ λ e. (let is_page : h.page ≡ page = eqb-true h.page page (and_left (eqb h.page page) _ e) in
          let is_zone : h.zone ≡ z = eqb-true h.zone z (and_left (eqb h.zone z) _ (and_right (eqb h.page page) _ e)) in
          subst (λ k. EndsWithin (zone_at a k).lowaddr page) is_zone
          (subst (λ k. EndsWithin (zone_at a h.zone).lowaddr k) is_page
          (All-head (λ (x : Held). EndsWithin (zone_at a x.zone).lowaddr x.page) h hs all)))
      | false ↦ λ e. (let none : weight (is_holding m z page h) ≡ 0 = rw e refl in
          held_low a m z page hs (omega (arith, some, none, sum_by-cons (λ x. weight (is_holding m z page x)) h hs))
          (All-tail (λ (x : Held). EndsWithin (zone_at a x.zone).lowaddr x.page) h hs all))
    ]) refl

low-released : (m : MapId) (z page : ℕ) (a : Account) → times_held m z page a ≡ 1 → PagesLieLow a →
    PagesLieLow (served (returned a m z page) z)
low-released m z page a held low =
    let b : Account = returned a m z page in
    let limit : ℕ = (zone_at a z).lowaddr in
    let back : EndsWithin limit page = held_low a m z page a.held (omega (arith, held)) low.held in
    let b_low : PagesLieLow b =
    low-with_zone a b z _ refl refl (All-cons (EndsWithin limit) page (zone_at a z).avail back (low.listed z))
    (All-filter (λ h. not (is_holding m z page h))
    (λ (h : Held). EndsWithin (zone_at a h.zone).lowaddr h.page) a.held low.held) low in
    low-same b (served b z) z _ refl refl refl refl b_low

low-placed : (m : MapId) (n : ℕ) (first : Option ℕ) (a : Account) → PagesLieLow a →
    PagesLieLow (memory_placed m n first a).account
low-placed m n None a low = low
low-placed m n (Some first) a low = record { listed = low.listed; held = low.held }

low-step : (lane : ℕ) (c : HubCall) (a : Account) → MayCall lane c a → IsRising a.bank → PagesLieLow a →
    PagesLieLow (account_step lane c a).account
low-step lane (AttachTag t) a may rising low =
    low-grown (with_zone_for t a) _ (wanted_by_tag t (total (with_zone_for t a) (zone_for_tag t a.zones))) rising
    (low-with_zone_for t a low)
low-step lane (CreateMap m t first_done) a may rising low = low-created m t first_done a rising low
low-step lane (DestroyMap m z) a may rising low = low-same a _ z.0 _ refl refl refl refl low
low-step lane (Grab m z need nowait) a may rising low = low-grabbed m z.0 need nowait a low
low-step lane (Release m z page) a may rising low = low-released m z.0 page.0 a may.1 low
low-step lane TakeCallback a may rising low = low-called a.ready lane a low
low-step lane (MemAlloc m t) a may rising low = low-placed m _ _ a low
low-step lane (MemFree m) a may rising low = record { listed = low.listed; held = low.held }

low-history : (a : Account) (es : List HoldEntry) → IsAccountWellFormed a → ((p : ℕ) → places p a ≤ 1) →
    IsRising a.bank →
    PagesLieLow a → IsSound a es → PagesLieLow (account_of a es)
low-history a [] well once rising low sound = low
low-history a (e ∷ es) well once rising low sound =
    low-history (after_entry e a) es (well-step e.lane.0 e.call a sound.0.may well)
    (λ p. omega (arith, once p, where-step (λ f. f == p) e.lane.0 e.call a sound.0.may well))
    (rising-step e.lane.0 e.call a once rising) (low-step e.lane.0 e.call a sound.0.may rising low) sound.1

low-opening : (a : Account) → IsOpening a → PagesLieLow a
low-opening a opens =
    record {
      listed = λ z. rw opens.zones (All-nil (EndsWithin 0));
      held = rw opens.held (All-nil (λ (h : Held). EndsWithin (zone_at a h.zone).lowaddr h.page));
    }

pub pages-low : (a : Account) (es : List HoldEntry) → IsOpening a → IsSound a es → PagesLieLow (account_of a es)
pages-low a es opens sound =
    low-history a es (well-opening a opens)
    (λ p. omega (arith, places-opening p a opens, times-rising p a.bank opens.rising))
    opens.rising (low-opening a opens) sound
