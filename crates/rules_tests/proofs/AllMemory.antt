-- What a call leaves of a table over all memory.
use Rattle.std.proofs.Common.{◌≡◌, ℕ, ◌+◌, ◌≤◌, Bool, true, false, if◌then◌else◌, List, IsSome, sym, subst}
use Rattle.std.specs.FinMap.{get, insert}
use Rattle.busdma_machine.specs.declared.report.Judged.{Judged}
use Rattle.busdma_machine.specs.declared.report.Judged.TheVariants.{Fine, Refused}
use Rattle.busdma_machine.specs.Runs.{run_of}
use Rattle.busdma_rules.specs.Lending.Loans.{Loans, loan_of}
use Rattle.busdma_rules.specs.Lending.SyncEffects.{lost, marked_range, synced}
use Rattle.loan_table.specs.Table.{Table, AreIn, HasMap, IsSame, IsSynced, OnFine, OnRefused, set_all}
use Rattle.loan_table.proofs.Addresses.{AreIn-set_all}
use Rattle.loan_table.proofs.Inside.{put_there}
use Rattle.rules_tests.specs.AllMemory.{HasAll}

-- a mark removes no byte
pub all-marked : (end : ℕ) (t u : Table) (keys : List ℕ) (v : Bool) → u.bytes ≡ set_all t.bytes keys v → HasAll end t →
    HasAll end u
all-marked end t u keys v is all a k below =
    subst (λ bytes. AreIn bytes (run_of a k)) (sym is) (AreIn-set_all t.bytes keys v (run_of a k) (all a k below))

pub all-same : (end : ℕ) (t u : Table) → IsSame t u → HasAll end t → HasAll end u
all-same end t u same all a k below = subst (λ bytes. AreIn bytes (run_of a k)) (sym same.bytes) (all a k below)

pub map-same : (t u : Table) (m : ℕ) → IsSame t u → HasMap t m → HasMap u m
map-same t u m same there = subst (λ (loans : Loans). IsSome (get loans m)) (sym same.loans) there

-- a sync does not remove the map
synced-there : (loans : Loans) (m off len ops : ℕ) → IsSome (get loans m) → IsSome (get (synced loans m off len ops) m)
synced-there loans m off len ops there = by (loan_of loans m).coherent
  where
    by : (b : Bool) → IsSome (get (if b then loans else insert loans m
        (record { coherent = false; positions = marked_range ops off len (loan_of loans m).positions })) m)
    by true = there
    by false = put_there _ _ _

pub map-judged : (j : Judged) (t u : Table) (m off len ops : ℕ) → OnFine j (IsSynced t u m off len ops) →
    OnRefused j (IsSame t u) → HasMap t m → HasMap u m
map-judged Fine t u m off len ops done refused there =
    subst (λ (loans : Loans). IsSome (get loans m)) (sym done.loans) (synced-there t.loans m off len ops there)
map-judged (Refused r) t u m off len ops done refused there = map-same t u m refused there

pub all-judged : (end : ℕ) (j : Judged) (t u : Table) (m off len ops : ℕ) → OnFine j (IsSynced t u m off len ops) →
    OnRefused j (IsSame t u) → HasAll end t → HasAll end u
all-judged end Fine t u m off len ops done refused all = all-marked end t u (lost t.loans m off len ops) false
    done.bytes all
all-judged end (Refused r) t u m off len ops done refused all = all-same end t u refused all
