-- What a step of a ring's device is, by what is there.
use Rattle.std.proofs.Common.{◌≡◌, ℕ, ◌+◌, ◌==◌, ◌≤◌, not, Bool, true, false, cond, if◌then◌else◌, List, ◌∷◌}
use Rattle.std.proofs.Common.{Option, Some, None, slice_get, unwrap_or, refl, sym, ap, ◌∙◌}
use Rattle.std.specs.FinMap.{get}
use Rattle.std.specs.Option.{option_map}
use Rattle.busdma_base.specs.declared.journals.answer.Answer.TheVariants as answer
use Rattle.busdma_machine.specs.declared.report.Errno.TheVariants.{EINVAL}
use Rattle.busdma_machine.specs.declared.report.Judged.TheVariants.{Fine, Refused}
use Rattle.busdma_machine.specs.declared.report.Report.{Report}
use Rattle.busdma_rules.specs.Lending.Access.{dev_read_answer}
use Rattle.busdma_rules.specs.Lending.Loans.{loan_of}
use Rattle.busdma_rules.specs.declared.descriptor.Descriptor.{Descriptor}
use Rattle.busdma_rules.specs.Rings.Ranges.{place_of}
use Rattle.ideal_lane.specs.Accesses.{unless_unread}
use Rattle.ideal_lane.specs.Asking.{Asking}
use Rattle.ideal_lane.specs.IdealMemory.{is_known}
use Rattle.ideal_lane.specs.Outcomes.{Outcome, gives, is_loaded, unless_absent, unless_past, unless_refused}
use Rattle.ideal_lane.specs.Outcomes.{unless_unloaded}
use Rattle.ideal_lane.specs.Outcomes.{load_length}
use Rattle.ideal_lane.specs.Rings as rings
use Rattle.ideal_lane.specs.Rings.{allowed, at_first, before_others, blame, blame_of, candidates, candidates_in, fetch}
use Rattle.ideal_lane.specs.Rings.{fetched}
use Rattle.ideal_lane.specs.Rings.{head_at, head_of, is_fine, is_left_out, is_work, judged_at, ring_step}
use Rattle.ideal_lane.specs.State.{LaneMap, LaneRing, LaneState}
use Rattle.ideal_lane.specs.Unloads.{segments_in}
use Rattle.lane_state.proofs.Reading.{passes, refused}
use Rattle.lane_rings.specs.declared.rings.Candidate.{Candidate}
use Rattle.lane_rings.specs.declared.rings.Work.{Work}
use Rattle.lane_rings.specs.declared.rings.Work.TheVariants as work
use Rattle.lane_rings.specs.Ringing.{IsReadable, IsUnread, at_or_refused, candidate_in, candidate_of, work_of}
use Rattle.lane_access.proofs.DeviceReads.{ends, loads}

-- ---- what the device may read

module _ (l : LaneState) (m off len : ℕ) where
  -- the device's read is not refused
  pub readable-passes : IsReadable l m off len → (step : Asking Outcome) → unless_unread m off len l step ≡ step
  readable-passes r step =
      loads l m r.map r.there r.loaded _ ∙ ends l m off len r.range _
      ∙ passes (dev_read_answer (is_known l.memory) (loan_of l.loans m) off len) l step r.fine

  -- the map is not loaded
  pub unread-unloaded : (r : Report) →
      ((step : LaneMap → Asking Outcome) → unless_unloaded m l step ≡ gives l (answer.Report r)) →
      IsUnread l m off len r
  unread-unloaded r h step = h (λ o. unless_past m off len l
      (unless_refused (dev_read_answer (is_known l.memory) (loan_of l.loans m) off len) l step))

  module _ (o : LaneMap) (there : get l.maps m ≡ Some o) (on : is_loaded o.stage ≡ true) where
    -- the range reaches past the end
    pub unread-past : (r : Report) →
        ((step : Asking Outcome) → unless_past m off len l step ≡ gives l (answer.Report r)) → IsUnread l m off len r
    unread-past r h step =
        loads l m o there on _
        ∙ h (unless_refused (dev_read_answer (is_known l.memory) (loan_of l.loans m) off len) l step)

    -- a byte is refused
    pub unread-refused : off + len ≤ load_length l m → (r : Report) →
        Refused r ≡ dev_read_answer (is_known l.memory) (loan_of l.loans m) off len → IsUnread l m off len r
    unread-refused range r is step =
        loads l m o there on _ ∙ ends l m off len range _
        ∙ refused (dev_read_answer (is_known l.memory) (loan_of l.loans m) off len) r l step (sym is)

-- ---- the candidates

-- a candidate before others, if there is one
abbrev pub joined : Option rings.Candidate → List rings.Candidate → List rings.Candidate
joined None cs = cs
joined (Some c) cs = c ∷ cs

module _ (d : Descriptor) (own : ℕ) (l : LaneState) where
  pub candidates-more : (e : ℕ × LaneMap) (es : List (ℕ × LaneMap)) →
      candidates_in d own l (e ∷ es) ≡ joined (candidate_in d own l e) (candidates_in d own l es)
  candidates-more e es = by (is_left_out own l e) (place_of d.addr d.len (segments_in e.1.stage))
    where
      cs : List rings.Candidate
      cs = candidates_in d own l es

      by : (b : Bool) (o : Option ℕ) →
          (if b then cs else before_others e.0 o cs)
          ≡ joined (if b then None else option_map (λ off. record { map = e.0; off = off }) o) cs
      by true o = refl
      by false None = refl
      by false (Some off) = refl

-- what is found among candidates, after the first of earlier ones was refused with this report, if there was one
abbrev pub found_in : Descriptor → LaneState → Option Report → List rings.Candidate → Work
found_in d l first cs =
    at_or_refused (slice_get (allowed d l cs) 0) (unwrap_or first (blame d l (slice_get cs 0)))

module _ (d : Descriptor) (l : LaneState) where
  -- the first candidate allows the access
  pub found-fine : (first : Option Report) (c : Candidate) (cs : List rings.Candidate) →
      Fine ≡ judged_at d l (candidate_of c) → work.At c ≡ found_in d l first (candidate_of c ∷ cs)
  found-fine first c cs fine =
      ap (λ j. at_or_refused (slice_get (cond (is_fine j) (candidate_of c ∷ allowed d l cs) (allowed d l cs)) 0)
      (unwrap_or first (blame_of (judged_at d l (candidate_of c))))) fine

  -- the first candidate does not allow the access
  pub found-refused : (first : Option Report) (c : rings.Candidate) (cs : List rings.Candidate) (r : Report) →
      Refused r ≡ judged_at d l c →
      found_in d l (Some (unwrap_or first r)) cs ≡ found_in d l first (c ∷ cs)
  found-refused first c cs r is =
      ap (λ j. at_or_refused (slice_get (cond (is_fine j) (c ∷ allowed d l cs) (allowed d l cs)) 0)
      (unwrap_or first (blame_of j))) is

-- ---- the step

module _ (l : LaneState) (k : ℕ) (r : LaneRing) (ring : get l.rings k ≡ Some r) where
  abbrev d : Descriptor
  d = head_of r l

  -- the ring's map is not there, or the device's read of the descriptor at the head is refused
  pub step-unread : (x : Report) → IsUnread l r.mem (head_at r) 16 x → gives l (answer.Report x) ≡ ring_step k l
  step-unread x h =
      sym (ap (λ o. unless_absent o l (λ (q : LaneRing).
      unless_unread q.mem (head_at q) 16 l (fetch k q (head_of q l) l))) ring
      ∙ h (fetch k r d l))

  module _ (read : IsReadable l r.mem (head_at r) 16) where
    step-fetch : ring_step k l ≡ fetch k r d l
    step-fetch =
        ap (λ o. unless_absent o l (λ (q : LaneRing).
        unless_unread q.mem (head_at q) 16 l (fetch k q (head_of q l) l))) ring
        ∙ readable-passes l r.mem (head_at r) 16 read (fetch k r d l)

    -- the descriptor is the driver's
    pub step-idle : (d.owner == 1) ≡ false → gives l answer.Idle ≡ ring_step k l
    step-idle off = sym (step-fetch ∙ ap (λ b. if not b then gives l answer.Idle
        else if not (is_work d.kind d.len) then gives l (answer.Refused EINVAL)
        else at_first k r d (candidates r l) (slice_get (allowed d l (candidates r l)) 0) l) off)

    module _ (owned : (d.owner == 1) ≡ true) where
      step-owned : ring_step k l ≡
          (if not (is_work d.kind d.len) then gives l (answer.Refused EINVAL)
          else at_first k r d (candidates r l) (slice_get (allowed d l (candidates r l)) 0) l)
      step-owned = step-fetch ∙ ap (λ b. if not b then gives l answer.Idle
          else if not (is_work d.kind d.len) then gives l (answer.Refused EINVAL)
          else at_first k r d (candidates r l) (slice_get (allowed d l (candidates r l)) 0) l) owned

      -- no descriptor can say this work
      pub step-invalid : is_work d.kind d.len ≡ false → gives l (answer.Refused EINVAL) ≡ ring_step k l
      step-invalid off = sym (step-owned ∙ ap (λ b. if not b then gives l (answer.Refused EINVAL)
          else at_first k r d (candidates r l) (slice_get (allowed d l (candidates r l)) 0) l) off)

      module _ (works : is_work d.kind d.len ≡ true) where
        step-first : ring_step k l ≡ at_first k r d (candidates r l) (slice_get (allowed d l (candidates r l)) 0) l
        step-first = step-owned ∙ ap (λ b. if not b then gives l (answer.Refused EINVAL)
            else at_first k r d (candidates r l) (slice_get (allowed d l (candidates r l)) 0) l) works

        -- no candidate allows the access
        pub step-refused : (x : Report) → work.Refused x ≡ work_of d l (candidates r l) →
            gives l (answer.Report x) ≡ ring_step k l
        step-refused x is = by (slice_get (allowed d l (candidates r l)) 0) refl is
          where
            by : (o : Option rings.Candidate) → slice_get (allowed d l (candidates r l)) 0 ≡ o →
                work.Refused x ≡ at_or_refused o (blame d l (slice_get (candidates r l) 0)) →
                gives l (answer.Report x) ≡ ring_step k l
            by None e same =
                let told : x ≡ blame d l (slice_get (candidates r l) 0) = cc in
                ap (λ y. gives l (answer.Report y)) told
                ∙ sym (step-first ∙ ap (λ o. at_first k r d (candidates r l) o l) e)
            by (Some c) e same = absurd (cc)

        -- this candidate allows the access
        module _ (c : Candidate) (is : work.At c ≡ work_of d l (candidates r l)) where
          pub first-is : slice_get (allowed d l (candidates r l)) 0 ≡ Some (candidate_of c)
          first-is = by (slice_get (allowed d l (candidates r l)) 0) is
            where
              by : (o : Option rings.Candidate) →
                  work.At c ≡ at_or_refused o (blame d l (slice_get (candidates r l) 0)) → o ≡ Some (candidate_of c)
              by None same = absurd (cc)
              by (Some x) same =
                  let it : record { map = x.map; off = x.off } ≡ c = cc in
                  ap (λ (y : Candidate). Some (candidate_of y)) it

          pub step-used : ring_step k l ≡ gives (fetched k r d (candidate_of c) l).lane
              (fetched k r d (candidate_of c) l).answer
          step-used = step-first ∙ ap (λ o. at_first k r d (candidates r l) o l) first-is
