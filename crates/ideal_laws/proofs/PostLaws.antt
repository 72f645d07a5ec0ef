-- A post to a ring is done, because no load lends a byte of a ring's memory and the driver reaches each of them.
use Rattle.std.proofs.Common.{◌≡◌, ℕ, zero, suc, ◌+◌, ◌-◌, ◌*◌, ◌<◌, ◌≤◌, Bool, true, false, if◌then◌else◌, List, []}
use Rattle.std.proofs.Common.{◌∷◌}
use Rattle.std.proofs.Common.{map, Option, Some, None, slice_get, unwrap_or, nat_lt, refl, sym, ap, ◌∙◌, subst, arith}
use Rattle.std.proofs.lemmas.Bool.{and_parts, false≢true, le-leb, lt-ltb, ltb-true}
use Rattle.std.specs.FinMap.{get, entries, get-entries}
use Rattle.std.specs.List.{AllByRecursion}
use Rattle.std.specs.Option.{option_map}
use Rattle.busdma_machine.specs.declared.report.Judged.{Judged}
use Rattle.busdma_machine.specs.declared.report.Judged.TheVariants.{Fine}
use Rattle.busdma_machine.specs.declared.report.ReportName.{ReportName}
use Rattle.busdma_machine.specs.declared.report.ReportName.TheVariants.{CpuWriteLent, NotLoaded, PastEnd}
use Rattle.busdma_machine.specs.Bounce.Account.{Account}
use Rattle.busdma_machine.specs.Bounce.MemoryRuns.{in_run}
use Rattle.busdma_machine.specs.Judging.{judged, refused_or}
use Rattle.busdma_machine.specs.Machine.VirtualPages.{pages_end}
use Rattle.busdma_machine.specs.Runs.{run_of}
use Rattle.busdma_base.specs.declared.journals.answer.Answer.TheVariants.{Done, Refused}
use Rattle.busdma_machine.specs.declared.report.Errno.TheVariants.{EINVAL}
use Rattle.busdma_rules.specs.Lending.Access.{cpu_write_answer, cpu_write_refusal}
use Rattle.busdma_rules.specs.Lending.Loans.{in_any_way, lent}
use Rattle.busdma_rules.specs.Memory.Translation.{missing, physical_or_0, unreached}
use Rattle.busdma_rules.specs.Rings.Descriptors.{descriptor_bytes}
use Rattle.ideal_lane.specs.Accesses.{cpu_write}
use Rattle.ideal_lane.specs.Agreement.{AgreesWith}
use Rattle.ideal_lane.specs.Asking.{Asking}
use Rattle.ideal_lane.specs.IdealMemory.{written}
use Rattle.ideal_lane.specs.Loads.{is_coherent}
use Rattle.ideal_lane.specs.Outcomes.{Outcome, gives, is_loaded, load_length, refused, unless_absent, unless_past}
use Rattle.ideal_lane.specs.Outcomes.{unless_refused}
use Rattle.ideal_lane.specs.Outcomes.{unless_unloaded}
use Rattle.ideal_lane.specs.Places.{begin_of, bytes_at, first_unreached, is_in_memory, is_memory_byte, or_in_memory}
use Rattle.ideal_lane.specs.Places.{physical}
use Rattle.ideal_lane.specs.Places.{virtual_at}
use Rattle.ideal_lane.specs.Rings.{posted, ring_post, slot_place}
use Rattle.ideal_lane.specs.Standing.{IsRing, Stands}
use Rattle.ideal_lane.specs.State.{LaneMap, LaneMemory, LaneState}
use Rattle.ideal_lane.specs.Unloads.{segments_in}
use Rattle.ideal_wire.specs.Apart.{IsApart}
use Rattle.ideal_wire.specs.Centre.{IsExclusive}
use Rattle.ideal_wire.specs.Laid.{AreLaid, is_loadable}
use Rattle.ideal_wire.specs.Machine.{IsInMachine}
use Rattle.ideal_wire.proofs.Apart.Frames.{agreeing-apart}
use Rattle.ideal_wire.proofs.Faithful.Lent.{Lender, find_any, lender_of}
use Rattle.ideal_wire.proofs.Loads.MemoryLoads.{no-page}
use Rattle.ideal_wire.proofs.Faithful.PlacedLoads.{Load, load-of}
use Rattle.ideal_world.specs.WellFormed.{IsWellFormed}
use Rattle.ideal_world.specs.Wires.{AllFaithful, Wires}
use Rattle.ideal_world.specs.World.{WorldState}
use Rattle.busdma_base.specs.declared.scenarios.scenario.Scenario.{Scenario}
use Rattle.ideal_laws.specs.Posts.{CanPost, after_post}

-- ---- steps whose refusals do not come

absent-is : {X : Type 0} (l : LaneState) (o : Option X) (x : X) (step : X → Asking Outcome) → o ≡ Some x →
    unless_absent o l step ≡ step x
absent-is l o x step e = ap (λ q. unless_absent q l step) e

loaded-is : (l : LaneState) (m : ℕ) (o : LaneMap) (step : LaneMap → Asking Outcome) → get l.maps m ≡ Some o →
    is_loaded o.stage ≡ true → unless_unloaded m l step ≡ step o
loaded-is l m o step e loaded =
    absent-is l (get l.maps m) o (λ q. if is_loaded q.stage then step q else refused NotLoaded 0 l) e
    ∙ ap (λ b. if b then step o else refused NotLoaded 0 l) loaded

past-is : (l : LaneState) (m off len : ℕ) (step : Asking Outcome) → off + len ≤ load_length l m →
    unless_past m off len l step ≡ step
past-is l m off len step short =
    ap (λ b. if b then step else refused PastEnd (load_length l m - off) l) (le-leb (off + len) (load_length l m) short)

fine-is : (l : LaneState) (j : Judged) (step : Asking Outcome) → j ≡ Fine → unless_refused j l step ≡ step
fine-is l j step e = ap (λ q. unless_refused q l step) e

-- what is refused nowhere is judged fine
all-fine : {X : Type 0} (f : X → Option ReportName) (at : ℕ) (xs : List X) → AllByRecursion (λ x. f x ≡ None) xs →
    judged f at xs ≡ Fine
all-fine f at [] h = refl
all-fine f at (x ∷ xs) h = ap (λ o. refused_or o at (judged f (at + 1) xs)) h.0 ∙ all-fine f (at + 1) xs h.1

-- what holds of each address of a run holds of the run, and of what each address is mapped to
all-run : (P : ℕ → Type 0) (a n : ℕ) → ((b : ℕ) → a ≤ b → b < a + n → P b) → AllByRecursion P (run_of a n)
all-run P a zero h = tt
all-run P a (suc n) h =
    (h a (omega arith) (omega arith), all-run P (a + 1) n (λ b low high. h b (omega arith) (omega arith)))

all-map : (P : ℕ → Type 0) (f : ℕ → ℕ) (xs : List ℕ) → AllByRecursion (λ x. P (f x)) xs → AllByRecursion P (map f xs)
all-map P f [] h = tt
all-map P f (x ∷ xs) h = (h.0, all-map P f xs h.1)

-- ---- the bytes of a memory

module _ (l : LaneState) (laid : AreLaid l) (machine : IsInMachine l) (apart : IsApart l)
    (exclusive : IsExclusive l.loans)
    (k : ℕ) (x : LaneMemory) (there : get l.mems k ≡ Some x) where
  -- the driver reaches each of them
  module _ (va : ℕ) (low : begin_of x ≤ va) (high : va < begin_of x + x.len) where
    in-memory : is_memory_byte l va ≡ true
    in-memory =
        find_any (λ e. is_in_memory va e.1) (entries l.mems) k x (sym (get-entries l.mems k) ∙ there)
        (rw (le-leb (begin_of x) va low, lt-ltb va (begin_of x + x.len) high) refl)

    reached : physical l va ≡ Some (va - pages_end)
    reached =
        let up : pages_end ≤ va = omega (arith, low) in
        ap (or_in_memory l va) (no-page l.maxmem l.pages va machine.pages up)
        ∙ ap (λ b. if b then Some (va - pages_end) else None) in-memory

  -- no load lends one of them, if the memory is coherent
  module _ (coherent : x.coherent ≡ true) (pa : ℕ) (inside : in_run x.first x.count pa ≡ true) where
    unlent : lent in_any_way pa l.loans ≡ false
    unlent = by (lent in_any_way pa l.loans) refl
      where
        no-lender : lent in_any_way pa l.loans ≡ true → ⊥
        no-lender e =
            false≢true (sym (exclusive.unlent b.by_map b.place b.position
            (h.load.coherent ∙ ap (λ n. is_coherent (get l.mems n)) own ∙ ap is_coherent there ∙ coherent) b.at)
            ∙ b.lends)
          where
            b : Lender in_any_way pa l.loans
            b = lender_of in_any_way pa l.loans e

            h : Load l laid b.by_map
            h = load-of l laid b.by_map b.place b.position b.at

            own : b.by_map ≡ k
            own = at (get l.mems b.by_map) refl
                (subst (λ a. is_loadable (get l.mems b.by_map) l a ≡ true) b.same
                (h.load.bytes b.place b.position b.at))
              where
                at : (o : Option LaneMemory) → get l.mems b.by_map ≡ o → is_loadable o l pa ≡ true → b.by_map ≡ k
                at None q has = absurd (false≢true (sym (apart.pages k pa x there inside) ∙ has))
                at (Some y) q has = apart.memories b.by_map k pa y x q there has inside

        by : (t : Bool) → lent in_any_way pa l.loans ≡ t → lent in_any_way pa l.loans ≡ false
        by false e = e
        by true e = absurd (no-lender e)

-- ---- the post

module _ (l : LaneState) (stands : Stands l) (laid : AreLaid l) (machine : IsInMachine l) (apart : IsApart l)
    (exclusive : IsExclusive l.loans) (k slot m off len kind fill : ℕ) (p : CanPost l k slot m off len kind) where
  is-ring : IsRing l.place l.maps l.mems p.ring
  is-ring = stands.ring k p.ring p.there

  in-slots : slot < p.ring.slots
  in-slots = ltb-true slot p.ring.slots (and_parts (nat_lt slot p.ring.slots) _ p.may).0

  -- the slot's first byte
  abbrev va : ℕ
  va = begin_of p.memory + 16 * slot

  at : virtual_at l (slot_place p.ring slot) ≡ Some va
  at = ap (option_map (λ (y : LaneMemory). begin_of y + 16 * slot)) p.within

  room : 16 * slot + 16 ≤ p.memory.len
  room =
      let fits : 16 * p.ring.slots ≤ p.memory.len = is-ring.fits p.memory p.within in
      let below = in-slots in
      omega (arith, fits, below)

  slot-reached : (b : ℕ) → va ≤ b → b < va + 16 → physical l b ≡ Some (b - pages_end)
  slot-reached b low high =
      let enough = room in
      reached l laid machine apart exclusive p.ring.mem p.memory p.within b (omega (arith, low))
      (omega (arith, high, enough))

  reaches : first_unreached l va 16 ≡ Fine
  reaches =
      all-fine (unreached (physical l)) 0 (run_of va 16)
      (all-run (λ b. unreached (physical l) b ≡ None) va 16 (λ b low high. ap missing (slot-reached b low high)))

  slot-free : (b : ℕ) → va ≤ b → b < va + 16 → cpu_write_refusal l.loans (physical_or_0 (physical l) b) ≡ None
  slot-free b low high =
      let enough = room in
      let whole = (laid.runs p.ring.mem p.memory p.within).room in
      let from : p.memory.first ≤ b - pages_end = omega (arith, low) in
      let to : b - pages_end < p.memory.first + 4096 * p.memory.count = omega (arith, low, high, enough, whole) in
      let inside : in_run p.memory.first p.memory.count (b - pages_end) ≡ true =
      rw (
        le-leb p.memory.first (b - pages_end) from,
        lt-ltb (b - pages_end) (p.memory.first + 4096 * p.memory.count) to,
      ) refl in
      ap (λ o. cpu_write_refusal l.loans (unwrap_or o 0)) (slot-reached b low high)
      ∙ ap (λ t. if t then Some CpuWriteLent else None)
      (unlent l laid machine apart exclusive p.ring.mem p.memory p.within (is-ring.coherent p.memory p.within)
      (b - pages_end) inside)

  free : cpu_write_answer l.loans (bytes_at l (run_of va 16)) ≡ Fine
  free =
      all-fine (cpu_write_refusal l.loans) 0 (bytes_at l (run_of va 16))
      (all-map (λ a. cpu_write_refusal l.loans a ≡ None) (physical_or_0 (physical l)) (run_of va 16)
      (all-run (λ b. cpu_write_refusal l.loans (physical_or_0 (physical l) b) ≡ None) va 16 slot-free))

  abbrev bytes : List ℕ
  bytes = descriptor_bytes (posted (segments_in p.map.stage) off len kind fill)

  writes : cpu_write (slot_place p.ring slot) bytes l ≡ gives (after_post l p.ring slot p.map off len kind fill) Done
  writes =
      absent-is l (virtual_at l (slot_place p.ring slot)) va _ at
      ∙ fine-is l (first_unreached l va 16) _ reaches
      ∙ fine-is l (cpu_write_answer l.loans (bytes_at l (run_of va 16))) _ free
      ∙ ap (λ q. gives (record l { memory = written (bytes_at l (run_of (unwrap_or q 0) 16)) bytes l.memory }) Done)
      (sym at)

  pub post-done : ring_post k slot m off len kind fill l ≡ gives (after_post l p.ring slot p.map off len kind fill) Done
  post-done =
      absent-is l (get l.rings k) p.ring _ p.there
      ∙ absent-is l (get l.mems p.ring.mem) p.memory _ p.within
      ∙ loaded-is l m p.map _ p.found p.loaded
      ∙ past-is l m off len _ p.short
      ∙ ap (λ b. if b then cpu_write (slot_place p.ring slot) bytes l else gives l (Refused EINVAL)) p.may
      ∙ writes

-- if driver and account agree
pub post-by : (l : LaneState) (a : Account) (k slot m off len kind fill : ℕ) → Stands l → AgreesWith l a → AreLaid l →
    IsInMachine l → IsExclusive l.loans → (p : CanPost l k slot m off len kind) →
    ring_post k slot m off len kind fill l ≡ gives (after_post l p.ring slot p.map off len kind fill) Done
post-by l a k slot m off len kind fill stands agrees laid machine exclusive p =
    post-done l stands laid machine (agreeing-apart l a agrees stands laid) exclusive k slot m off len kind fill p

pub post-in : (s : Scenario) (w : WorldState) (wires : Wires) (i : ℕ) (l : LaneState) (k slot m off len kind fill : ℕ) →
    IsWellFormed s w → AllFaithful wires w → slice_get w.lanes i ≡ Some l → (p : CanPost l k slot m off len kind) →
    ring_post k slot m off len kind fill l ≡ gives (after_post l p.ring slot p.map off len kind fill) Done
post-in s w wires i l k slot m off len kind fill well faithful there p =
    let d = well.each i l there in
    post-by l w.account k slot m off len kind fill d.stands d.agrees d.laid d.machine (faithful i l there).exclusive p
