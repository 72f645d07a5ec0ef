-- A merged journal has its steps in order.
use Rattle.std.proofs.Common.{◌≡◌, ◌≢◌, ◌⊎◌, inl, inr, ℕ, zero, suc, ◌+◌, ◌<◌, ◌≤◌, ◌==◌, cond, List, [], ◌∷◌}
use Rattle.std.proofs.Common.{◌++◌, length, map, All, refl, sym, ap, ◌∙◌, subst, arith, eq-eqb, ne_eqb}
use Rattle.std.proofs.Common.{slice_set, append-nil}
use Rattle.std.specs.List.{count_by, filter}
use Rattle.std.proofs.lemmas.Bool.{cases_order}
use Rattle.std.proofs.lemmas.List.{get_or-set_other, get_or-set_same, map-append}
use Rattle.std.proofs.lemmas.List.Sums.{sum_by-cons}
use Rattle.std.proofs.lemmas.List.Elements.{All-cons, All-head, All-nil, All-tail, filter-append}
use Rattle.busdma_machine.specs.declared.bounce.hold.HoldEntry.{HoldEntry}
use Rattle.busdma_machine.specs.Bounce.LaneEntries.{of_lane}
use Rattle.busdma_base.specs.declared.journals.journal.JournalEntry.{JournalEntry}
use Rattle.ideal_lane.specs.State.{LaneState}
use Rattle.ideal_world.proofs.Lanes.{found}
use Rattle.ideal_runs.specs.declared.logged_step.LoggedStep.{LoggedStep}
use Rattle.ideal_runs.specs.declared.logged_step.LoggedStep.TheVariants.{Local, Held}
use Rattle.ideal_runs.specs.Merged.{AllRun, AreNumbered, all_entries, log_entries}
use Rattle.ideal_runs.specs.Merged.{log_of, merged, past_hold, through_hold}
use Rattle.ideal_runs.specs.Order.{AreOfDrivers, AreOrdered, HoldsNot, IsRest, driver_of, has_held}
use Rattle.ideal_runs.specs.Runs.{Log, Runs}
use Rattle.ideal_runs.proofs.Leading.{other-entry, own-entry}
use Rattle.ideal_runs.proofs.OneTurn.{alone-owned, by-owned}
use Rattle.ideal_runs.proofs.Seams.{length-slice_set}

-- ---- logs

-- the steps of a log are this driver's, and as many of them held as there are holds
abbrev Fits : ℕ → Log → List HoldEntry → Type 0
Fits i [] [] = Unit {0}
Fits i [] (h ∷ hs) = ⊥
Fits i (Local e ∷ log) hs = (e.actor.lane.0 ≡ i) × Fits i log hs
Fits i (Held e ∷ log) [] = ⊥
Fits i (Held e ∷ log) (h ∷ hs) = (e.actor.lane.0 ≡ i) × Fits i log hs

runs-fit : (i : ℕ) (log : Log) (hs : List HoldEntry) (l m : LaneState) → l.id ≡ i → Runs l log hs m → Fits i log hs
runs-fit i [] [] l m number run = tt
runs-fit i [] (h ∷ hs) l m number run = absurd run
runs-fit i (Local e ∷ log) hs l m number run =
    let own = alone-owned l run.0 e run.1 in
    (own.lane ∙ number, runs-fit i log hs run.0 m (own.same ∙ number) run.2)
runs-fit i (Held e ∷ log) [] l m number run = absurd run
runs-fit i (Held e ∷ log) (h ∷ hs) l m number run =
    let own = by-owned l run.0 e h run.1 in
    (own.lane ∙ number, runs-fit i log hs run.0 m (own.same ∙ number) run.2)

-- the steps of a log up to the first that held, and that step
abbrev through : Log → Log
through [] = []
through (Local e ∷ log) = Local e ∷ through log
through (Held e ∷ log) = Held e ∷ []

abbrev all_steps : List Log → Log
all_steps [] = []
all_steps (log ∷ logs) = log ++ all_steps logs

-- the steps of a merged journal
abbrev merged_steps : List HoldEntry → List Log → Log
merged_steps [] logs = all_steps logs
merged_steps (h ∷ hs) logs =
    let log : Log = log_of logs h.lane.0 in
    through log ++ merged_steps hs (slice_set logs h.lane.0 (past_hold log))

through-entries : (log : Log) → through_hold log ≡ log_entries (through log)
through-entries [] = refl
through-entries (Local e ∷ log) = ap (λ es. e ∷ es) (through-entries log)
through-entries (Held e ∷ log) = refl

entries-append : (xs ys : Log) → log_entries xs ++ log_entries ys ≡ log_entries (xs ++ ys)
entries-append [] ys = refl
entries-append (x ∷ xs) ys = grind (arith, entries-append xs ys)

all-entries : (logs : List Log) → all_entries logs ≡ log_entries (all_steps logs)
all-entries [] = refl
all-entries (log ∷ logs) = ap (λ es. log_entries log ++ es) (all-entries logs) ∙ entries-append log (all_steps logs)

merged-entries : (hs : List HoldEntry) (logs : List Log) → merged hs logs ≡ log_entries (merged_steps hs logs)
merged-entries [] logs = all-entries logs
merged-entries (h ∷ hs) logs =
    let log : Log = log_of logs h.lane.0 in
    let logs' : List Log = slice_set logs h.lane.0 (past_hold log) in
    ap (λ es. es ++ merged hs logs') (through-entries log)
    ∙ ap (λ es. log_entries (through log) ++ es) (merged-entries hs logs')
    ∙ entries-append (through log) (merged_steps hs logs')

past-fits : (i : ℕ) (log : Log) (h : HoldEntry) (hs : List HoldEntry) → Fits i log (h ∷ hs) → Fits i (past_hold log) hs
past-fits i [] h hs fit = absurd fit
past-fits i (Local e ∷ log) h hs fit = past-fits i log h hs fit.1
past-fits i (Held e ∷ log) h hs fit = fit.1

parts : (log : Log) → through log ++ past_hold log ≡ log
parts [] = refl
parts (Local e ∷ log) = ap (λ ss. Local e ∷ ss) (parts log)
parts (Held e ∷ log) = refl

-- ---- the steps of one driver

abbrev own : ℕ → Log → Log
own i steps = filter (λ s. driver_of s == i) steps

own-here : (i : ℕ) (s : LoggedStep) (steps : Log) → driver_of s ≡ i → own i (s ∷ steps) ≡ s ∷ own i steps
own-here i s steps e = rw (eq-eqb (driver_of s) i e) refl

own-other : (i : ℕ) (s : LoggedStep) (steps : Log) → driver_of s ≢ i → own i (s ∷ steps) ≡ own i steps
own-other i s steps e = rw (ne_eqb (driver_of s) i e) refl

-- the first part of a driver's log has only this driver's steps
own-through : (i : ℕ) (log : Log) (hs : List HoldEntry) → Fits i log hs → own i (through log) ≡ through log
own-through i [] hs fit = refl
own-through i (Local e ∷ log) hs fit =
    own-here i (Local e) (through log) fit.0 ∙ ap (λ ss. Local e ∷ ss) (own-through i log hs fit.1)
own-through i (Held e ∷ log) [] fit = absurd fit
own-through i (Held e ∷ log) (h ∷ hs) fit = own-here i (Held e) [] fit.0

others-through : (i k : ℕ) (log : Log) (hs : List HoldEntry) → k ≢ i → Fits k log hs → own i (through log) ≡ []
others-through i k [] hs off fit = refl
others-through i k (Local e ∷ log) hs off fit =
    own-other i (Local e) (through log) (λ is. off (sym fit.0 ∙ is)) ∙ others-through i k log hs off fit.1
others-through i k (Held e ∷ log) [] off fit = absurd fit
others-through i k (Held e ∷ log) (h ∷ hs) off fit = own-other i (Held e) [] (λ is. off (sym fit.0 ∙ is))

own-log : (i : ℕ) (log : Log) → Fits i log [] → own i log ≡ log
own-log i [] fit = refl
own-log i (Local e ∷ log) fit = own-here i (Local e) log fit.0 ∙ ap (λ ss. Local e ∷ ss) (own-log i log fit.1)
own-log i (Held e ∷ log) fit = absurd fit

others-log : (i k : ℕ) (log : Log) → k ≢ i → Fits k log [] → own i log ≡ []
others-log i k [] off fit = refl
others-log i k (Local e ∷ log) off fit =
    own-other i (Local e) log (λ is. off (sym fit.0 ∙ is)) ∙ others-log i k log off fit.1
others-log i k (Held e ∷ log) off fit = absurd fit

-- logs without a hold; the first is the log of the driver of this number
abbrev FitFrom : ℕ → List Log → Type 0
FitFrom n logs = (k : ℕ) → k < length logs → Fits (n + k) (log_of logs k) []

rest-fit : (n : ℕ) (log : Log) (logs : List Log) → FitFrom n (log ∷ logs) → FitFrom (suc n) logs
rest-fit n log logs fit k below =
    let same : n + suc k ≡ suc n + k = omega arith in
    subst (λ j. Fits j (log_of logs k) []) same (fit (suc k) (omega arith))

first-fit : (n : ℕ) (log : Log) (logs : List Log) → FitFrom n (log ∷ logs) → Fits n log []
first-fit n log logs fit = let same : n + 0 ≡ n = omega arith in
    subst (λ j. Fits j log []) same (fit 0 (omega arith))

own-none : (i n : ℕ) (logs : List Log) → i < n → FitFrom n logs → own i (all_steps logs) ≡ []
own-none i n [] low fit = refl
own-none i n (log ∷ logs) low fit =
    filter-append (λ s. driver_of s == i) log (all_steps logs)
    ∙ ap (λ ss. ss ++ own i (all_steps logs)) (others-log i n log (λ is. absurd (omega (arith, low, is)))
    (first-fit n log logs fit))
    ∙ own-none i (suc n) logs (omega (arith, low)) (rest-fit n log logs fit)

own-all : (n k : ℕ) (logs : List Log) → k < length logs → FitFrom n logs → own (n + k) (all_steps logs) ≡ log_of logs k
own-all n k [] below fit = absurd (omega arith)
own-all n zero (log ∷ logs) below fit =
    let same : n + 0 ≡ n = omega arith in
    filter-append (λ s. driver_of s == n + 0) log (all_steps logs)
    ∙ (λ i. own (same i) log ++ own (same i) (all_steps logs))
    ∙ ap (λ ss. ss ++ own n (all_steps logs)) (own-log n log (first-fit n log logs fit))
    ∙ ap (λ ss. log ++ ss) (own-none n (suc n) logs (omega arith) (rest-fit n log logs fit))
    ∙ append-nil log
own-all n (suc k) (log ∷ logs) below fit =
    let same : n + suc k ≡ suc n + k = omega arith in
    filter-append (λ s. driver_of s == n + suc k) log (all_steps logs)
    ∙ ap (λ ss. ss ++ own (n + suc k) (all_steps logs)) (others-log (n + suc k) n log
    (λ is. absurd (omega (arith, is))) (first-fit n log logs fit))
    ∙ ap (λ j. own j (all_steps logs)) same
    ∙ own-all (suc n) k logs (omega arith) (rest-fit n log logs fit)

-- ---- the steps that held

held-log : (i : ℕ) (log : Log) → Fits i log [] → filter has_held log ≡ []
held-log i [] fit = refl
held-log i (Local e ∷ log) fit = held-log i log fit.1
held-log i (Held e ∷ log) fit = absurd fit

held-none : (n : ℕ) (logs : List Log) → FitFrom n logs → filter has_held (all_steps logs) ≡ []
held-none n [] fit = refl
held-none n (log ∷ logs) fit =
    filter-append has_held log (all_steps logs)
    ∙ ap (λ ss. ss ++ filter has_held (all_steps logs)) (held-log n log (first-fit n log logs fit))
    ∙ held-none (suc n) logs (rest-fit n log logs fit)

held-through : (i : ℕ) (log : Log) (h : HoldEntry) (hs : List HoldEntry) → Fits i log (h ∷ hs) →
    map driver_of (filter has_held (through log)) ≡ i ∷ []
held-through i [] h hs fit = absurd fit
held-through i (Local e ∷ log) h hs fit = held-through i log h hs fit.1
held-through i (Held e ∷ log) h hs fit = ap (λ j. j ∷ []) fit.0

-- ---- where the steps are that held nothing

-- the next step is this driver's
abbrev IsFollowed : ℕ → Log → Type 0
IsFollowed i [] = ⊥
IsFollowed i (s ∷ steps) = driver_of s ≡ i

-- the next step is this driver's; or nothing holds any more, and drivers of lower numbers have no step
abbrev GoesOn : ℕ → Log → Type 0
GoesOn i steps = IsFollowed i steps ⊎ All (IsRest i) steps

abbrev Stand : Log → Type 0
Stand [] = Unit {0}
Stand (Local e ∷ steps) = GoesOn e.actor.lane.0 steps × Stand steps
Stand (Held e ∷ steps) = Stand steps

stand-after : (before steps : Log) → Stand (before ++ steps) → Stand steps
stand-after [] steps h = h
stand-after (Local e ∷ before) steps h = stand-after before steps h.1
stand-after (Held e ∷ before) steps h = stand-after before steps h

directly-from : (i : ℕ) (between after : Log) (f : JournalEntry) → GoesOn i (between ++ (Held f ∷ after)) →
    Stand (between ++ (Held f ∷ after)) → All (HoldsNot i) between → All (λ s. driver_of s ≡ i) between
directly-from i [] after f goes stand none = All-nil (λ (s : LoggedStep). driver_of s ≡ i)
directly-from i (s ∷ between) after f (inr rest) stand none =
    absurd (let no = (All-head (IsRest i) (Held f) after (drop-all between (All-tail (IsRest i) s
    (between ++ (Held f ∷ after)) rest))).unheld in cc)
  where
    drop-all : (xs : Log) → All (IsRest i) (xs ++ (Held f ∷ after)) → All (IsRest i) (Held f ∷ after)
    drop-all [] h = h
    drop-all (x ∷ xs) h = drop-all xs (All-tail (IsRest i) x (xs ++ (Held f ∷ after)) h)
directly-from i (Held e ∷ between) after f (inl here) stand none =
    absurd (let no = All-head (HoldsNot i) (Held e) between none here in cc)
directly-from i (Local e ∷ between) after f (inl here) stand none =
    All-cons (λ (s : LoggedStep). driver_of s ≡ i) (Local e) between here
    (directly-from i between after f (subst (λ j. GoesOn j (between ++ (Held f ∷ after))) here stand.0) stand.1
    (All-tail (HoldsNot i) (Local e) between none))

last-from : (i : ℕ) (after : Log) → GoesOn i after → Stand after → All (HoldsNot i) after → All (IsRest i) after
last-from i [] goes stand none = All-nil (IsRest i)
last-from i (s ∷ after) (inr rest) stand none = rest
last-from i (Held e ∷ after) (inl here) stand none =
    absurd (let no = All-head (HoldsNot i) (Held e) after none here in cc)
last-from i (Local e ∷ after) (inl here) stand none =
    All-cons (IsRest i) (Local e) after (record { unheld = refl; driver = omega (arith, here) })
    (last-from i after (subst (λ j. GoesOn j after) here stand.0) stand.1 (All-tail (HoldsNot i) (Local e) after none))

-- the steps up to a hold come before others
followed : (i : ℕ) (log : Log) (h : HoldEntry) (hs : List HoldEntry) (rest : Log) → Fits i log (h ∷ hs) →
    IsFollowed i (through log ++ rest)
followed i [] h hs rest fit = absurd fit
followed i (Local e ∷ log) h hs rest fit = fit.0
followed i (Held e ∷ log) h hs rest fit = fit.0

through-stands : (i : ℕ) (log : Log) (h : HoldEntry) (hs : List HoldEntry) (rest : Log) → Fits i log (h ∷ hs) →
    Stand rest → Stand (through log ++ rest)
through-stands i [] h hs rest fit stand = absurd fit
through-stands i (Local e ∷ log) h hs rest fit stand = (
  inl (subst (λ j. IsFollowed j (through log ++ rest)) (sym fit.0) (followed i log h hs rest fit.1)),
  through-stands i log h hs rest fit.1 stand,
)
through-stands i (Held e ∷ log) h hs rest fit stand = stand

-- the steps of logs without a hold are at the end
rest-log : (i n : ℕ) (log rest : Log) → i ≤ n → Fits n log [] → All (IsRest i) rest → All (IsRest i) (log ++ rest)
rest-log i n [] rest low fit all = all
rest-log i n (Local e ∷ log) rest low fit all =
    All-cons (IsRest i) (Local e) (log ++ rest)
    (record { unheld = refl; driver = let at : e.actor.lane.0 ≡ n = fit.0 in omega (arith, low, at) })
    (rest-log i n log rest low fit.1 all)
rest-log i n (Held e ∷ log) rest low fit all = absurd fit

rest-all : (i n : ℕ) (logs : List Log) → i ≤ n → FitFrom n logs → All (IsRest i) (all_steps logs)
rest-all i n [] low fit = All-nil (IsRest i)
rest-all i n (log ∷ logs) low fit =
    rest-log i n log (all_steps logs) low (first-fit n log logs fit)
    (rest-all i (suc n) logs (omega (arith, low)) (rest-fit n log logs fit))

log-stands : (n : ℕ) (log rest : Log) → Fits n log [] → All (IsRest n) rest → Stand rest → Stand (log ++ rest)
log-stands n [] rest fit all stand = stand
log-stands n (Local e ∷ log) rest fit all stand = (
  inr (subst (λ j. All (IsRest j) (log ++ rest)) (sym fit.0)
      (rest-log n n log rest (omega arith) fit.1 all)),
  log-stands n log rest fit.1 all stand,
)
log-stands n (Held e ∷ log) rest fit all stand = absurd fit

all-stand : (n : ℕ) (logs : List Log) → FitFrom n logs → Stand (all_steps logs)
all-stand n [] fit = tt
all-stand n (log ∷ logs) fit =
    log-stands n log (all_steps logs) (first-fit n log logs fit)
    (rest-all n (suc n) logs (omega arith) (rest-fit n log logs fit)) (all-stand (suc n) logs (rest-fit n log logs fit))

-- ---- the merged steps

-- each log is its driver's, with its holds of a history
abbrev AllFit : List HoldEntry → List Log → Type 0
AllFit hs logs = (i : ℕ) → i < length logs → Fits i (log_of logs i) (of_lane i hs)

pub record AreMerged (hs : List HoldEntry) (logs : List Log) : Type 0 where
  pub each : (i : ℕ) → i < length logs → own i (merged_steps hs logs) ≡ log_of logs i
  pub held : map driver_of (filter has_held (merged_steps hs logs)) ≡ map (λ (h : HoldEntry). h.lane.0) hs
  pub stand : Stand (merged_steps hs logs)

all-fit-from : (logs : List Log) → AllFit [] logs → FitFrom 0 logs
all-fit-from logs fit k below =
    let same : k ≡ 0 + k = omega arith in subst (λ j. Fits j (log_of logs k) []) same (fit k below)

log-here : (logs : List Log) (i : ℕ) (log : Log) → i < length logs → log_of (slice_set logs i log) i ≡ log
log-here logs i log below = get_or-set_same logs i log [] below

log-other : (logs : List Log) (i j : ℕ) (log : Log) → i ≢ j → log_of (slice_set logs i log) j ≡ log_of logs j
log-other logs i j log off = get_or-set_other logs i j log [] (λ e. off (sym e))

-- the part of one hold
module _ (h : HoldEntry) (hs : List HoldEntry) (logs : List Log) (below : h.lane.0 < length logs)
    (fit : AllFit (h ∷ hs) logs) where
  abbrev k : ℕ
  k = h.lane.0

  abbrev log : Log
  log = log_of logs k

  abbrev logs' : List Log
  logs' = slice_set logs k (past_hold log)

  here : Fits k log (h ∷ of_lane k hs)
  here = subst (Fits k log) (own-entry k h hs refl) (fit k below)

  shorter : (i : ℕ) → i < length logs' → i < length logs
  shorter i lt = omega (arith, lt, length-slice_set logs k (past_hold log))

  fits-on : AllFit hs logs'
  fits-on i lt = by (cases_order i k)
    where
      other : k ≢ i → Fits i (log_of logs' i) (of_lane i hs)
      other off =
          subst (λ (x : Log). Fits i x (of_lane i hs)) (sym (log-other logs k i (past_hold log) off))
          (subst (Fits i (log_of logs i)) (other-entry i h hs off) (fit i (shorter i lt)))

      by : (i ≡ k) ⊎ ((i < k) ⊎ (k < i)) → Fits i (log_of logs' i) (of_lane i hs)
      by (inl e) =
          subst (λ j. Fits j (log_of logs' j) (of_lane j hs)) (sym e)
          (subst (λ (x : Log). Fits k x (of_lane k hs)) (sym (log-here logs k (past_hold log) below))
          (past-fits k log h (of_lane k hs) here))
      by (inr (inl low)) = other (λ e. absurd (omega (arith, low, e)))
      by (inr (inr high)) = other (λ e. absurd (omega (arith, high, e)))

  merged-on : AreMerged hs logs' → AreMerged (h ∷ hs) logs
  merged-on more = record {
    each = λ i lt.
        filter-append (λ s. driver_of s == i) (through log) (merged_steps hs logs')
        ∙ by i (cases_order i k) (more.each i (omega (arith, lt, length-slice_set logs k (past_hold log))));
    held =
        ap (map driver_of) (filter-append has_held (through log) (merged_steps hs logs'))
        ∙ map-append driver_of (filter has_held (through log)) (filter has_held (merged_steps hs logs'))
        ∙ (λ j. held-through k log h (of_lane k hs) here j ++ more.held j);
    stand = through-stands k log h (of_lane k hs) (merged_steps hs logs') here more.stand;
  }
    where
      other : (i : ℕ) → k ≢ i → own i (merged_steps hs logs') ≡ log_of logs' i →
          own i (through log) ++ own i (merged_steps hs logs') ≡ log_of logs i
      other i off rest =
          ap (λ ss. ss ++ own i (merged_steps hs logs')) (others-through i k log (h ∷ of_lane k hs) off here)
          ∙ rest ∙ log-other logs k i (past_hold log) off

      by : (i : ℕ) → (i ≡ k) ⊎ ((i < k) ⊎ (k < i)) → own i (merged_steps hs logs') ≡ log_of logs' i →
          own i (through log) ++ own i (merged_steps hs logs') ≡ log_of logs i
      by i (inl e) rest =
          (λ j. own (e j) (through log) ++ (rest ∙ ap (log_of logs') e) j)
          ∙ (λ j. own-through k log (h ∷ of_lane k hs) here j ++ log-here logs k (past_hold log) below j)
          ∙ parts log ∙ ap (log_of logs) (sym e)
      by i (inr (inl low)) rest = other i (λ e. absurd (omega (arith, low, e))) rest
      by i (inr (inr high)) rest = other i (λ e. absurd (omega (arith, high, e))) rest

are-merged : (hs : List HoldEntry) (logs : List Log) → All (λ (h : HoldEntry). h.lane.0 < length logs) hs →
    AllFit hs logs → AreMerged hs logs
are-merged [] logs below fit =
    let from : FitFrom 0 logs = all-fit-from logs fit in
    record {
      each = λ i lt. let same : i ≡ 0 + i = omega arith in
          ap (λ j. own j (all_steps logs)) same ∙ own-all 0 i logs lt from;
      held = ap (map driver_of) (held-none 0 logs from);
      stand = all-stand 0 logs from;
    }
are-merged (h ∷ hs) logs below fit =
    let first : h.lane.0 < length logs = All-head (λ (x : HoldEntry). x.lane.0 < length logs) h hs below in
    let rest = All-tail (λ (x : HoldEntry). x.lane.0 < length logs) h hs below in
    let same = length-slice_set logs h.lane.0 (past_hold (log_of logs h.lane.0)) in
    merged-on h hs logs first fit
    (are-merged hs (slice_set logs h.lane.0 (past_hold (log_of logs h.lane.0)))
    (subst (λ n. All (λ (x : HoldEntry). x.lane.0 < n) hs) (sym same) rest) (fits-on h hs logs first fit))

-- logs that fit a history are merged in order
fitting-ordered : (hs : List HoldEntry) (logs : List Log) → All (λ (h : HoldEntry). h.lane.0 < length logs) hs →
    AllFit hs logs → AreOrdered hs logs (merged hs logs)
fitting-ordered hs logs below fit =
    let steps = are-merged hs logs below fit in
    record {
      steps = merged_steps hs logs;
      order = record {
        each = steps.each;
        held = steps.held;
        directly = λ before between after e f is same none.
            let stand : Stand (Local e ∷ (between ++ (Held f ∷ after))) = stand-after before
            (Local e ∷ (between ++ (Held f ∷ after))) (subst Stand is steps.stand) in
            directly-from e.actor.lane.0 between after f stand.0 stand.1 none;
        last = λ before after e is none.
            let stand : Stand (Local e ∷ after) = stand-after before (Local e ∷ after) (subst Stand is steps.stand) in
            last-from e.actor.lane.0 after stand.0 stand.1 none;
      };
      is = merged-entries hs logs;
    }

pub merged-ordered : (hs : List HoldEntry) (logs : List Log) (firsts lasts : List LaneState) → AreNumbered firsts →
    AllRun firsts logs hs lasts → AreOrdered hs logs (merged hs logs)
merged-ordered hs logs firsts lasts numbers all =
    fitting-ordered hs logs (subst (λ n. All (λ (x : HoldEntry). x.lane.0 < n) hs) (sym all.logged) all.own) (λ i lt.
    let first = found firsts i (omega (arith, lt, all.logged)) in
    let last = found lasts i (omega (arith, lt, all.logged, all.last)) in
    runs-fit i (log_of logs i) (of_lane i hs) first.0 last.0 (numbers i first.0 first.1)
    (all.each i first.0 last.0 first.1 last.1))

-- a log whose steps are this driver's, and as many of them held as there are holds
counted-fit : (i : ℕ) (log : Log) (hs : List HoldEntry) → All (λ s. driver_of s ≡ i) log →
    count_by has_held log ≡ length hs → Fits i log hs
counted-fit i [] [] all count = tt
counted-fit i [] (h ∷ hs) all count = absurd (omega (arith, count))
counted-fit i (Local e ∷ log) hs all count = (
  All-head (λ (s : LoggedStep). driver_of s ≡ i) (Local e) log all,
  counted-fit i log hs (All-tail (λ (s : LoggedStep). driver_of s ≡ i) (Local e) log all)
      (let more = sum_by-cons (λ (s : LoggedStep). cond (has_held s) 1 0) (Local e) log in omega (arith, more, count)),
)
counted-fit i (Held e ∷ log) [] all count =
    absurd (let more = sum_by-cons (λ (s : LoggedStep). cond (has_held s) 1 0) (Held e) log in
    omega (arith, more, count))
counted-fit i (Held e ∷ log) (h ∷ hs) all count = (
  All-head (λ (s : LoggedStep). driver_of s ≡ i) (Held e) log all,
  counted-fit i log hs (All-tail (λ (s : LoggedStep). driver_of s ≡ i) (Held e) log all)
      (let more = sum_by-cons (λ (s : LoggedStep). cond (has_held s) 1 0) (Held e) log in omega (arith, more, count)),
)

pub logs-ordered : (hs : List HoldEntry) (logs : List Log) → AreOfDrivers hs logs → AreOrdered hs logs (merged hs logs)
logs-ordered hs logs of =
    fitting-ordered hs logs of.within (λ i lt. counted-fit i (log_of logs i) (of_lane i hs) (of.own i lt)
    (of.held i lt))
