-- The free frames rise in every account that a sound history leads to.
use Rattle.std.proofs.Common.{◌≡◌, ◌≢◌, ℕ, zero, suc, ◌+◌, ◌<◌, ◌≤◌, Bool, true, false, cond, not, List, [], ◌∷◌, take}
use Rattle.std.proofs.Common.{drop, refl, arith, eqb, leb, if◌then◌else◌, ◌==◌, Option, Some, None, nat_lt, All}
use Rattle.std.specs.List.{filter}
use Rattle.std.proofs.lemmas.Bool.{eq-eqb, ltb-true, ltb-false}
use Rattle.std.proofs.lemmas.List.Sums.{sum_by-cons}
use Rattle.std.proofs.lemmas.List.Elements.{All-nil, All-cons, All-head, All-tail, All-weaker, All-filter}
use Rattle.busdma_machine.specs.declared.name.MapId.{MapId}
use Rattle.busdma_machine.specs.declared.bounce.zone.Waiter.{Waiter}
use Rattle.busdma_machine.specs.declared.tags.tag.TagLimits.{TagLimits}
use Rattle.busdma_machine.specs.declared.bounce.hold.HubCall.{HubCall}
use Rattle.busdma_machine.specs.declared.bounce.hold.HubCall.TheVariants.{AttachTag, CreateMap, DestroyMap, Grab}
use Rattle.busdma_machine.specs.declared.bounce.hold.HubCall.TheVariants.{Release}
use Rattle.busdma_machine.specs.declared.bounce.hold.HubCall.TheVariants.{TakeCallback, MemAlloc, MemFree}
use Rattle.busdma_machine.specs.declared.bounce.hold.HubReply.TheVariants.{Nothing, Granted, Queued, NoPages, Called}
use Rattle.busdma_machine.specs.declared.bounce.hold.HoldEntry.{HoldEntry}
use Rattle.busdma_machine.specs.Bounce.Account.{Account, zone_at, free}
use Rattle.busdma_machine.specs.Bounce.Growth.{with_zone_for, zone_for_tag}
use Rattle.busdma_machine.specs.Bounce.Growth.{grown, growth_for_map, with_zone_map}
use Rattle.busdma_machine.specs.Bounce.Serving.{handed, waiting_at_tail}
use Rattle.busdma_machine.specs.Bounce.MemoryRuns.{in_run, put_in, put_all, frames_of}
use Rattle.busdma_machine.specs.Bounce.AccountStep.{AccountReply, account_step, as_pages}
use Rattle.busdma_machine.specs.Bounce.AccountStep.{created, grabbed, called_from}
use Rattle.busdma_machine.specs.Bounce.AccountStep.{memory_placed}
use Rattle.busdma_machine.specs.Bounce.History.{IsRising, IsOpening, IsSound, after_entry, account_of}
use Rattle.busdma_machine.specs.Bounce.Places.{times, places}
use Rattle.busdma_machine.specs.Bounce.WellFormed.{IsAccountWellFormed}
use Rattle.busdma_machine.proofs.Accounts.Places.{count-put_all, times-rising, places-opening, where-step, mems-split}
use Rattle.busdma_machine.proofs.Accounts.WellFormed.{well-step, well-opening}

abbrev weight : Bool → ℕ
weight b = cond b 1 0

tail_rises : (f : ℕ) (fs : List ℕ) → IsRising (f ∷ fs) → IsRising fs
tail_rises f [] rising = tt
tail_rises f (g ∷ gs) rising = rising.1

-- a list rises if its first frame is below all others and the others rise
cons_rises : (f : ℕ) (fs : List ℕ) → All (λ g. f < g) fs → IsRising fs → IsRising (f ∷ fs)
cons_rises f [] above rising = tt
cons_rises f (g ∷ gs) above rising = (All-head (λ x. f < x) g gs above, rising)

pub above_first : (f : ℕ) (fs : List ℕ) → IsRising (f ∷ fs) → All (λ g. f < g) fs
above_first f [] rising = All-nil (λ g. f < g)
above_first f (g ∷ gs) rising =
    All-cons (λ x. f < x) g gs rising.0 (All-weaker (λ x. g < x) (λ x. f < x)
    (λ x h. omega (arith, h, rising.0)) gs (above_first g gs rising.1))

drop_rises : (n : ℕ) (fs : List ℕ) → IsRising fs → IsRising (drop n fs)
drop_rises zero fs rising = rising
drop_rises (suc n) [] rising = rising
drop_rises (suc n) (f ∷ fs) rising = drop_rises n fs (tail_rises f fs rising)

filter_rises : (q : ℕ → Bool) (fs : List ℕ) → IsRising fs → IsRising (filter q fs)
filter_rises q [] rising = rising
filter_rises q (f ∷ fs) rising =
    let rest : IsRising (filter q fs) = filter_rises q fs (tail_rises f fs rising) in
    elim (q f) as (λ v. IsRising (cond v (f ∷ filter q fs) (filter q fs))) [
      | true ↦ cons_rises f (filter q fs) (All-filter q (λ g. f < g) fs (above_first f fs rising)) rest
      | false ↦ rest
    ]

above_put : (low f : ℕ) (gs : List ℕ) → low < f → All (λ g. low < g) gs → All (λ g. low < g) (put_in f gs)
above_put low f [] first above = All-cons (λ g. low < g) f [] first above
above_put low f (g ∷ gs) first above =
    elim (nat_lt f g) as (λ v. All (λ x. low < x) (if v then f ∷ g ∷ gs else g ∷ put_in f gs)) [
      | true ↦ All-cons (λ x. low < x) f (g ∷ gs) first above
      | false ↦ All-cons (λ x. low < x) g (put_in f gs) (All-head (λ x. low < x) g gs above)
          (above_put low f gs first (All-tail (λ x. low < x) g gs above))
    ]

-- a new frame is put in its place
put_rises : (f : ℕ) (gs : List ℕ) → IsRising gs → times f gs ≡ 0 → IsRising (put_in f gs)
put_rises f [] rising new = tt
put_rises f (g ∷ gs) rising new =
    (elim (nat_lt f g) as (λ v. nat_lt f g ≡ v → IsRising (if v then f ∷ g ∷ gs else g ∷ put_in f gs)) [
      | true ↦ λ e. (ltb-true f g e, rising)
      | false ↦ λ e. (let low : g < f = below g (ltb-false f g e) (λ same. differ same) in
          cons_rises g (put_in f gs) (above_put g f gs low (above_first g gs rising))
          (put_rises f gs (tail_rises g gs rising) (omega (arith, new, sum_by-cons (λ x. weight (x == f)) g gs))))
    ]) refl
  where
    below : (k : ℕ) → k ≤ f → k ≢ f → k < f
    below k h apart = grind (arith, h, apart)

    differ : g ≡ f → ⊥
    differ same = let one : weight (g == f) ≡ 1 =
        rw (eq-eqb g f same) refl in absurd (omega (arith, one, new, sum_by-cons (λ x. weight (x == f)) g gs))

all_put_rise : (fs gs : List ℕ) → IsRising gs → ((p : ℕ) → times p fs + times p gs ≤ 1) → IsRising (put_all fs gs)
all_put_rise [] gs rising once = rising
all_put_rise (f ∷ fs) gs rising once =
    let rest : IsRising (put_all fs gs) =
    all_put_rise fs gs rising (λ p. omega (arith, once p, sum_by-cons (λ x. weight (x == p)) f fs)) in
    let one : weight (f == f) ≡ 1 = rw (eq-eqb f f refl) refl in
    put_rises f (put_all fs gs) rest (omega (
      arith,
      count-put_all (λ x. x == f) fs gs,
      once f,
      one,
      sum_by-cons (λ x. weight (x == f)) f fs,
    ))

either_rises : (b c : Account) (v : Bool) → IsRising b.bank → IsRising c.bank → IsRising (if v then c else b).bank
either_rises b c true s t = t
either_rises b c false s t = s

rising-created : (m : MapId) (t : TagLimits) (first_done : Bool) (a : Account) → IsRising a.bank →
    IsRising (created m t first_done a).account.bank
rising-created m t first_done a rising =
    let b : Account = with_zone_for t a in
    let z : ℕ = zone_for_tag t a.zones in
    let c : Account = grown b z (growth_for_map t first_done b z).added in
    let rest : IsRising c.bank = drop_rises _ a.bank rising in
    either_rises c (with_zone_map c z m) _ rest rest

rising-grabbed : (m : MapId) (z need : ℕ) (nowait : Bool) (a : Account) → IsRising a.bank →
    IsRising (grabbed m z need nowait a).account.bank
rising-grabbed m z need nowait a rising =
    elim (leb need (free a z)) as (λ v. let o : AccountReply = if v
    then record { account = handed a m z need; reply = Granted (as_pages (take need (zone_at a z).avail)) }
    else (if nowait then record { account = a; reply = NoPages }
    else record { account = waiting_at_tail a m z need; reply = Queued (free a z) }) in IsRising o.account.bank) [
      | true ↦ rising
      | false ↦
          (elim nowait as (λ v. let o : AccountReply = if v then record { account = a; reply = NoPages }
          else record { account = waiting_at_tail a m z need; reply = Queued (free a z) } in
          IsRising o.account.bank) [ true ↦ rising | false ↦ rising ])
    ]

rising-called : (ws : List Waiter) (lane : ℕ) (a : Account) → IsRising a.bank →
    IsRising (called_from ws lane a).account.bank
rising-called [] lane a rising = rising
rising-called (w ∷ ws) lane a rising =
    elim (eqb w.map.lane.0 lane) as (λ v. let o : AccountReply = if v
    then record {
      account = handed (record a { ready = ws }) w.map w.zone.0 w.need;
      reply = Called w.map (as_pages (take w.need (zone_at a w.zone.0).avail));
    } else record {
      account = a;
      reply =
          Nothing;
    } in IsRising o.account.bank) [
      | true ↦ rising
      | false ↦ rising
    ]

rising-placed : (m : MapId) (n : ℕ) (first : Option ℕ) (a : Account) → IsRising a.bank →
    IsRising (memory_placed m n first a).account.bank
rising-placed m n None a rising = rising
rising-placed m n (Some first) a rising = filter_rises (λ f. not (in_run first n f)) a.bank rising

pub rising-step : (lane : ℕ) (c : HubCall) (a : Account) → ((p : ℕ) → places p a ≤ 1) → IsRising a.bank →
    IsRising (account_step lane c a).account.bank
rising-step lane (AttachTag t) a once rising = drop_rises _ a.bank rising
rising-step lane (CreateMap m t first_done) a once rising = rising-created m t first_done a rising
rising-step lane (DestroyMap m z) a once rising = rising
rising-step lane (Grab m z need nowait) a once rising = rising-grabbed m z.0 need nowait a rising
rising-step lane (Release m z page) a once rising = rising
rising-step lane TakeCallback a once rising = rising-called a.ready lane a rising
rising-step lane (MemAlloc m t) a once rising = rising-placed m _ _ a rising
rising-step lane (MemFree m) a once rising =
    all_put_rise (frames_of m a.mems) a.bank rising (λ p. omega (arith, once p, mems-split (λ f. f == p) m a.mems))

rising-history : (a : Account) (es : List HoldEntry) → IsAccountWellFormed a → ((p : ℕ) → places p a ≤ 1) →
    IsRising a.bank →
    IsSound a es → IsRising (account_of a es).bank
rising-history a [] well once rising sound = rising
rising-history a (e ∷ es) well once rising sound =
    rising-history (after_entry e a) es (well-step e.lane.0 e.call a sound.0.may well)
    (λ p. omega (arith, once p, where-step (λ f. f == p) e.lane.0 e.call a sound.0.may well))
    (rising-step e.lane.0 e.call a once rising) sound.1

pub bank-rises : (a : Account) (es : List HoldEntry) → IsOpening a → IsSound a es → IsRising (account_of a es).bank
bank-rises a es opening sound =
    rising-history a es (well-opening a opening)
    (λ p. omega (arith, places-opening p a opening, times-rising p a.bank opening.rising)) opening.rising sound
