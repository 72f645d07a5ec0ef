-- The step of a ring's device does nothing, or does what the descriptor at the head says.
use Rattle.std.proofs.Common.{◌≡◌, ℕ, ◌+◌, ◌==◌, not, Bool, true, false, if◌then◌else◌}
use Rattle.std.proofs.Common.{slice_get, Option, Some, None, unwrap_or, nat_le, refl, ap, sym, subst}
use Rattle.std.specs.FinMap.{get}
use Rattle.busdma_base.specs.declared.journals.answer.Answer.{Answer}
use Rattle.busdma_base.specs.declared.journals.answer.Answer.TheVariants as answer
use Rattle.busdma_machine.specs.declared.report.Errno.TheVariants.{EINVAL}
use Rattle.busdma_machine.specs.declared.report.Judged.TheVariants.{Fine}
use Rattle.busdma_machine.specs.declared.report.Report.{Report}
use Rattle.busdma_machine.specs.Machine.Wire.{Wire}
use Rattle.busdma_rules.specs.Lending.Access.{dev_read_answer}
use Rattle.busdma_rules.specs.Lending.Loans.{loan_of, load_bytes}
use Rattle.ideal_lane.specs.Accesses.{values}
use Rattle.ideal_lane.specs.Asking.{Asking}
use Rattle.ideal_lane.specs.IdealMemory.{is_known}
use Rattle.ideal_lane.specs.Outcomes.{Outcome, gives, load_length}
use Rattle.ideal_lane.specs.Rings.{Candidate, allowed, at_first, blame, candidates, head_at, head_of}
use Rattle.ideal_lane.specs.Rings.{is_work, judged_at, no_ring, ring_of, ring_step, told, used_candidate}
use Rattle.ideal_lane.specs.State.{LaneState, LaneRing}
use Rattle.ideal_lane.proofs.Effects.{Fetching, after_fetch, fetched-is}
use Rattle.ideal_lane.proofs.Firsts.{first-allowed}
use Rattle.ideal_lane.proofs.Refusing.{absent, either, judged, unloaded}
use Rattle.ideal_wire.specs.WireStep.{if_fetched}

-- an answer of a step that did nothing
abbrev pub IsUnfetched : Answer → Type 0
IsUnfetched answer.Done = ⊥
IsUnfetched (answer.Bytes vs) = ⊥
IsUnfetched _ = Unit {0}

pub unfetched : (a : Answer) (after w : Wire) → IsUnfetched a → if_fetched a after w ≡ w
unfetched answer.Done after w u = absurd u
unfetched (answer.Bytes vs) after w u = absurd u
unfetched _ after w u = refl

yes : (b : Bool) → not b ≡ false → b ≡ true
yes true e = refl
yes false e = sym e

-- what holds if the step did nothing, and if it did what the descriptor at the head says, holds of the step
module _ (l : LaneState) (k : ℕ) (P : Asking Outcome → Type 0) (idle : (a : Answer) → IsUnfetched a → P (gives l a))
    (done : (g : Fetching l k) → P (gives (after_fetch l k g.r (head_of g.r l) g.c) (told (head_of g.r l) g.c l)))
  where
    report : (x : Report) → P (gives l (answer.Report x))
    report x = idle (answer.Report x) tt

    at-first : (r : LaneRing) (c : Option Candidate) →
        ((x : Candidate) → c ≡ Some x →
        P (gives (after_fetch l k r (head_of r l) x) (told (head_of r l) x l))) →
        P (at_first k r (head_of r l) (candidates r l) c l)
    at-first r None h = report (blame (head_of r l) l (slice_get (candidates r l) 0))
    at-first r (Some x) h =
        subst (λ n. P (gives n (told (head_of r l) x l))) (sym (fetched-is l k r (head_of r l) x)) (h x refl)

    pub by-fetch : P (ring_step k l)
    by-fetch =
        absent l P report (get l.rings k) _ (λ r ring.
        unloaded l P report r.mem _ (λ o there loaded.
        either l P report (nat_le (head_at r + 16) (load_length l r.mem)) _ _ (λ within.
        judged l P report (dev_read_answer (is_known l.memory) (loan_of l.loans r.mem) (head_at r) 16) _ (λ fine.
        either l P report (not ((head_of r l).owner == 1)) _ _ (λ no. idle answer.Idle tt) (λ owned.
        either l P report (not (is_work (head_of r l).kind (head_of r l).len)) _ _
        (λ no. idle (answer.Refused EINVAL) tt) (λ work.
        at-first r (slice_get (allowed (head_of r l) l (candidates r l)) 0) (λ c first. done (record {
          r = r;
          ring = ring;
          o = o;
          there = there;
          loaded = loaded;
          within = within;
          fine = fine;
          owned = yes ((head_of r l).owner == 1) owned;
          work = yes (is_work (head_of r l).kind (head_of r l).len) work;
          c = c;
          first = first;
        })))))) (λ past. report _)))

module _ (l : LaneState) (k : ℕ) (g : Fetching l k) where
  -- the ring, and the candidate that is used
  pub ring-is : ring_of l k ≡ g.r
  ring-is = ap (λ o. unwrap_or o no_ring) g.ring

  pub candidate-is : used_candidate g.r l ≡ g.c
  candidate-is = ap (λ o. unwrap_or o (record { map = 0; off = 0 })) g.first

  pub allows : judged_at (head_of g.r l) l g.c ≡ Fine
  allows = first-allowed g.r l g.c g.first

  -- the answer of the step says that it was done
  pub told-fetched : (after w : Wire) → if_fetched (told (head_of g.r l) g.c l) after w ≡ after
  told-fetched after w = by ((head_of g.r l).kind == 1)
    where
      by : (b : Bool) → if_fetched (if b
          then answer.Bytes (values l (load_bytes l.loans g.c.map g.c.off (head_of g.r l).len)) else answer.Done)
          after w ≡ after
      by true = refl
      by false = refl
