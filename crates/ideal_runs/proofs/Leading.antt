-- A merged journal leads through the logs of all drivers and the history.
use Rattle.std.proofs.Common.{◌≡◌, ◌≢◌, ℕ, suc, ◌+◌, ◌<◌, List, [], ◌∷◌, ◌++◌, length, All, Some, refl, sym}
use Rattle.std.proofs.Common.{ap, ◌∙◌, subst, arith, slice_get, slice_set, append_assoc, add-zero, eq-eqb, ne_eqb}
use Rattle.std.proofs.Common.{unwrap_or, length-append}
use Rattle.std.proofs.lemmas.List.Elements.{All-head, All-tail}
use Rattle.std.proofs.lemmas.List.{get_or-set_same, get_or-set_other}
use Rattle.busdma_machine.specs.declared.bounce.hold.HoldEntry.{HoldEntry}
use Rattle.busdma_base.specs.declared.journals.journal.JournalEntry.{JournalEntry}
use Rattle.busdma_base.specs.declared.scenarios.scenario.Scenario.{Scenario}
use Rattle.busdma_machine.specs.Bounce.Account.{Account}
use Rattle.busdma_machine.specs.Bounce.History.{IsSound, account_of, after_entry}
use Rattle.busdma_machine.specs.Bounce.LaneEntries.{of_lane}
use Rattle.busdma_base.specs.Scenarios.Opening.{maxmem_of, opening}
use Rattle.ideal_lane.specs.State.{LaneState}
use Rattle.ideal_world.specs.Ends.{IsAtRest}
use Rattle.ideal_world.specs.Legal.{IsLegal, Leads, journal_of}
use Rattle.ideal_world.specs.World.{WorldState, opening_world, step}
use Rattle.ideal_world.proofs.Lanes.{found, each_set, opening_at}
use Rattle.ideal_runs.specs.Merged.{AllRun, AreNumbered, all_entries}
use Rattle.ideal_runs.specs.Merged.{log_entries, log_of, merged, merged_run}
use Rattle.ideal_runs.specs.Merged.{past_hold, through_hold, world_of}
use Rattle.ideal_runs.specs.Runs.{Log, Runs}
use Rattle.ideal_runs.proofs.Logged.{one-hold, no-hold}
use Rattle.ideal_runs.proofs.Seams.{length-slice_set, get-seam, set-seam}

leads-append : (w v u : WorldState) (xs ys : List JournalEntry) → Leads w xs v → Leads v ys u → Leads w (xs ++ ys) u
leads-append w v u [] ys p q = subst (λ x. Leads x ys u) (sym p) q
leads-append w v u (x ∷ xs) ys p q = (p.0, leads-append (step w x.actor).world v u xs ys p.1 q)

pub Some-inj : (l m : LaneState) → Some l ≡ Some m → l ≡ m
Some-inj l m e = ap (λ o. unwrap_or o l) e

-- logs without a hold, driver by driver
rest-leads : (done firsts lasts : List LaneState) (logs : List Log) (a : Account) →
    length logs ≡ length firsts → length lasts ≡ length firsts →
    ((k : ℕ) (l : LaneState) → slice_get firsts k ≡ Some l → l.id ≡ length done + k) →
    ((k : ℕ) (l m : LaneState) → slice_get firsts k ≡ Some l → slice_get lasts k ≡ Some m → Runs l (log_of logs k) []
    m) →
    Leads (world_of (done ++ firsts) a) (all_entries logs) (world_of (done ++ lasts) a)
rest-leads done [] [] [] a p q numbers run = refl
rest-leads done [] (m ∷ lasts) [] a p q numbers run = absurd (let z : suc (length lasts) ≡ 0 = q in omega arith)
rest-leads done (l ∷ firsts) lasts [] a p q numbers run = absurd (let z : 0 ≡ suc (length firsts) = p in omega arith)
rest-leads done [] lasts (log ∷ logs) a p q numbers run = absurd (let z : suc (length logs) ≡ 0 = p in omega arith)
rest-leads done (l ∷ firsts) [] (log ∷ logs) a p q numbers run = absurd
    (let z : 0 ≡ suc (length firsts) = q in omega arith)
rest-leads done (l ∷ firsts) (m ∷ lasts) (log ∷ logs) a p q numbers run =
    let n : ℕ = length done in
    let more : List LaneState = done ++ m ∷ [] in
    let number : l.id ≡ n = numbers 0 l refl ∙ add-zero n in
    let w : WorldState = world_of (done ++ l ∷ firsts) a in
    let v : WorldState = world_of (done ++ m ∷ firsts) a in
    let first : Leads w (log_entries log) v = subst (λ ls. Leads w (log_entries log) (world_of ls a))
    (set-seam done firsts l m)
    (no-hold n m log l w number (get-seam done firsts l) (run 0 l m refl refl)) in
    let longer : (k : ℕ) → length more + k ≡ n + suc k = (λ k. omega (arith, length-append done (m ∷ []))) in
    let later : Leads (world_of (more ++ firsts) a) (all_entries logs) (world_of (more ++ lasts) a) =
    rest-leads more firsts lasts logs a (omega arith) (omega arith)
    (λ k x there. numbers (suc k) x there ∙ sym (longer k)) (λ k x y there end. run (suc k) x y there end) in
    leads-append w v (world_of (done ++ m ∷ lasts) a) (log_entries log) (all_entries logs) first
    (subst (λ (z : List LaneState × List LaneState). Leads (world_of z.0 a) (all_entries logs) (world_of z.1 a))
    (λ i. (append_assoc done (m ∷ []) firsts i, append_assoc done (m ∷ []) lasts i)) later)

pub own-entry : (i : ℕ) (h : HoldEntry) (hs : List HoldEntry) → h.lane.0 ≡ i → of_lane i (h ∷ hs) ≡ h ∷ of_lane i hs
own-entry i h hs own = rw (eq-eqb h.lane.0 i own) refl

pub other-entry : (i : ℕ) (h : HoldEntry) (hs : List HoldEntry) → h.lane.0 ≢ i → of_lane i (h ∷ hs) ≡ of_lane i hs
other-entry i h hs other = rw (ne_eqb h.lane.0 i other) refl

-- after one driver's entries up to its hold, each driver's log runs it on by what is left of the history
module _ (h : HoldEntry) (hs : List HoldEntry) (firsts lasts : List LaneState) (logs : List Log) (k : LaneState) where
  abbrev i : ℕ
  i = h.lane.0

  abbrev past : Log
  past = past_hold (log_of logs i)

  all-run-on : AllRun firsts logs (h ∷ hs) lasts →
      ((m : LaneState) → slice_get lasts i ≡ Some m → Runs k past (of_lane i hs) m) →
      AllRun (slice_set firsts i k) (slice_set logs i past) hs lasts
  all-run-on all runs =
      let same : length (slice_set firsts i k) ≡ length firsts = length-slice_set firsts i k in
      let below : i < length firsts = All-head (λ (x : HoldEntry). x.lane.0 < length firsts) h hs all.own in
      record {
        logged = length-slice_set logs i past ∙ all.logged ∙ sym same;
        last = all.last ∙ sym same;
        own = subst (λ n. All (λ (x : HoldEntry). x.lane.0 < n) hs) (sym same)
            (All-tail (λ (x : HoldEntry). x.lane.0 < length firsts) h hs all.own);
        each = λ j l m there end.
            each_set (λ j l. (m : LaneState) → slice_get lasts j ≡ Some m → Runs l (log_of (slice_set logs i past) j)
            (of_lane j hs) m)
            firsts i k
            (λ m end. subst (λ log. Runs k log (of_lane i hs) m)
            (sym (get_or-set_same logs i past [] (let e = all.logged in omega arith))) (runs m end))
            (λ j l other there m end.
            let same_log : log_of (slice_set logs i past) j ≡ log_of logs j = get_or-set_other logs i j past []
            other in
            subst (λ (z : Log × List HoldEntry). Runs l z.0 z.1 m)
            (λ t. (sym same_log t, other-entry j h hs (λ e. other (sym e)) t)) (all.each j l m there end))
            j l there m end;
      }

pub merged-leads : (a : Account) (history : List HoldEntry) (logs : List Log) (firsts lasts : List LaneState) →
    AreNumbered firsts → IsSound a history → AllRun firsts logs history lasts →
    Leads (world_of firsts a) (merged history logs) (world_of lasts (account_of a history))
merged-leads a [] logs firsts lasts numbers sound all =
    rest-leads [] firsts lasts logs a all.logged all.last (λ k l there. numbers k l there ∙ omega arith) all.each
merged-leads a (h ∷ hs) logs firsts lasts numbers sound all =
    let i : ℕ = h.lane.0 in
    let below : i < length firsts = All-head (λ (x : HoldEntry). x.lane.0 < length firsts) h hs all.own in
    let first = found firsts i below in
    let last = found lasts i (let e = all.last in omega arith) in
    let log : Log = log_of logs i in
    let run : Runs first.0 log (h ∷ of_lane i hs) last.0 =
    subst (λ es. Runs first.0 log es last.0) (own-entry i h hs refl) (all.each i first.0 last.0 first.1 last.1) in
    let one = one-hold i last.0 log first.0 (world_of firsts a) h (of_lane i hs) (numbers i first.0 first.1) first.1
    refl sound.0 run in
    let firsts' : List LaneState = slice_set firsts i one.next in
    let logs' : List Log = slice_set logs i (past_hold log) in
    let on : AllRun firsts' logs' hs lasts = all-run-on h hs firsts lasts logs one.next all
    (λ m end. subst (Runs one.next (past_hold log) (of_lane i hs)) (Some-inj last.0 m (sym last.1 ∙ end)) one.runs) in
    let b : Account = after_entry h a in
    let numbers' : AreNumbered firsts' = each_set (λ j (l : LaneState). l.id ≡ j) firsts i one.next one.number
    (λ j l other there. numbers j l there) in
    leads-append (world_of firsts a) (world_of firsts' b) (world_of lasts (account_of b hs)) (through_hold log)
    (merged hs logs') one.leads
    (merged-leads b hs logs' firsts' lasts numbers' sound.1 on)

-- the drivers of a scenario open with the numbers of their places
pub opening-numbered : (s : Scenario) → AreNumbered (opening_world s).lanes
opening-numbered s i l there =
    let o = opening_at 0 (maxmem_of s.frames) s.drivers i l there in
    ap (λ (x : LaneState). x.id) o.opens ∙ omega arith

pub merged-legal : (s : Scenario) (history : List HoldEntry) (logs : List Log) (lasts : List LaneState) →
    IsSound (opening s) history → AllRun (opening_world s).lanes logs history lasts →
    IsAtRest (world_of lasts (account_of (opening s) history)) →
    IsLegal s (journal_of (merged_run s history logs lasts))
merged-legal s history logs lasts sound all rest = record {
  last = world_of lasts (account_of (opening s) history);
  leads = merged-leads (opening s) history logs (opening_world s).lanes lasts (opening-numbered s) sound all;
  rest = rest;
  zones = refl;
  end = refl;
}
