-- A step leaves the loads of IOMMU tags' maps in their runs, where the device finds their bytes.
use Rattle.std.proofs.Common.{◌≡◌, ◌≢◌, ℕ, ◌/◌, ◌≤◌, Bool, true, false, List, []}
use Rattle.std.proofs.Common.{◌∷◌, length, map, Some, inl, inr, refl, ap, sym, ◌∙◌, subst, arith}
use Rattle.std.proofs.Common.{◌+◌, ◌*◌, ◌%◌, slice_get}
use Rattle.std.proofs.lemmas.Bool.{false≢true}
use Rattle.std.specs.FinMap.{get}
use Rattle.std.specs.List.{AllByRecursion, Contains}
use Rattle.std.specs.Option.{option_map, option_map_or}
use Rattle.busdma_machine.specs.declared.machine.address.Segment.{Segment}
use Rattle.busdma_machine.specs.Machine.Wire.{buses}
use Rattle.busdma_rules.specs.Iommu.Space.{AreSpaceRuns, DeviceRun, Space, entered}
use Rattle.busdma_rules.specs.Iommu.Space.{first_free, frame_of_page, has_page, run_unmapped}
use Rattle.busdma_rules.specs.Iommu.Space.{translated}
use Rattle.busdma_rules.proofs.Iommu.Entering.{frame-left, frame-other}
use Rattle.busdma_rules.proofs.Iommu.Members.{gap-new, left-others, place-in, put-others}
use Rattle.busdma_rules.proofs.Iommu.Runs.{all-stay, run-apart, taken-gap}
use Rattle.busdma_rules.specs.Lending.Loans.{addresses_of, loan_of}
use Rattle.busdma_rules.specs.Segments.Segmentation.{segment_bytes}
use Rattle.ideal_lane.specs.Loads.{is_device}
use Rattle.ideal_lane.specs.Outcomes.{is_loaded}
use Rattle.ideal_lane.specs.State.{LaneState, LaneMap, LaneTag, Stage, Idle, Waiting, Loaded, Returning}
use Rattle.ideal_lane.specs.Syncs.{bounced_in}
use Rattle.ideal_lane.specs.Unloads.{first_of, segments_in}
use Rattle.ideal_wire.specs.Mapped.{AreMapped, HasRun, IsMapped}
use Rattle.ideal_wire.specs.Traces.{placed_from, stage_in}
use Rattle.ideal_wire.proofs.Tags.KeptTags.{KeepsTags}
use Rattle.ideal_wire.proofs.Laid.Positions.{found_one}
use Rattle.ideal_wire.proofs.Faithful.SyncedPositions.{decided}

-- ---- one space

-- addresses are found in one space as in another if the same pages are mapped to the same frames
same-found : (s t : Space) (run : DeviceRun) (bs : List ℕ) → AllByRecursion (λ a. has_page (a / 4096) run ≡ true) bs →
    ((p : ℕ) → has_page p run ≡ true → frame_of_page t.runs p ≡ frame_of_page s.runs p) →
    map (translated t) bs ≡ map (translated s) bs
same-found s t run [] within same = refl
same-found s t run (a ∷ bs) within same =
    (λ i. option_map (λ f. 4096 * f + a % 4096) (same (a / 4096) within.0 i) ∷ same-found s t run bs within.1 same i)

-- what a change of a space leaves of the load of these segments
pub record KeepsLoad (s t : Space) (segments : List Segment) : Type 0 where
  pub run : 1 ≤ length segments → HasRun t segments
  pub found : map (translated t) (segment_bytes segments) ≡ map (translated s) (segment_bytes segments)

pub same-space : (s t : Space) (segments : List Segment) → (1 ≤ length segments → HasRun s segments) → t ≡ s →
    KeepsLoad s t segments
same-space s t segments h same = record {
  run = λ some. subst (λ x. HasRun x segments) (sym same) (h some);
  found = ap (λ x. map (translated x) (segment_bytes segments)) same;
}

-- a load of no byte is found anywhere
no-load : (s t : Space) → KeepsLoad s t []
no-load s t = record { run = λ some. absurd (omega (arith, some)); found = refl }

-- a run is entered: the loads in other runs stay
pub entered-keeps : (s : Space) (fs : List ℕ) (first : ℕ) → AreSpaceRuns 1 s.pages s.runs → 1 ≤ length fs →
    first_free s (length fs) ≡ Some first → (segments : List Segment) →
    (1 ≤ length segments → HasRun s segments) → KeepsLoad s (entered (Some first) fs s) segments
entered-keeps s fs first space some e [] h = no-load s (entered (Some first) fs s)
entered-keeps s fs first space some e (x ∷ xs) h =
    let new : DeviceRun = record { first = first; frames = fs } in
    let old : HasRun s (x ∷ xs) = h (omega arith) in
    record {
      run = λ any. record {
        run = old.run;
        live = put-others new old.run s.runs old.live;
        first = old.first;
        within = old.within;
      };
      found = same-found s (entered (Some first) fs s) old.run (segment_bytes (x ∷ xs)) old.within (λ p has.
          frame-other p new s.runs (off p old has));
    }
  where
    off : (p : ℕ) (old : HasRun s (x ∷ xs)) → has_page p old.run ≡ true →
        has_page p (record { first = first; frames = fs }) ≡ false
    off p old has = by (has_page p (record { first = first; frames = fs })) refl
      where
        by : (b : Bool) → has_page p (record { first = first; frames = fs }) ≡ b →
            has_page p (record { first = first; frames = fs }) ≡ false
        by false g = g
        by true g =
            absurd (false≢true (sym (gap-new 1 s.pages (length fs) p (record { first = first; frames = fs }) old.run
            s.runs
            space some (taken-gap s (length fs) first space some e) refl old.live g) ∙ has))

-- a run ends: the loads in other runs stay
pub left-keeps : (s : Space) (first : ℕ) → AreSpaceRuns 1 s.pages s.runs → (q : DeviceRun) → Contains s.runs q →
    q.first ≡ first →
    (segments : List Segment) → (1 ≤ length segments → HasRun s segments) →
    (1 ≤ length segments → first_of segments ≢ first) → KeepsLoad s (run_unmapped first s) segments
left-keeps s first space q there begins [] h other = no-load s (run_unmapped first s)
left-keeps s first space q there begins (x ∷ xs) h other =
    let old : HasRun s (x ∷ xs) = h (omega arith) in
    record {
      run = λ any. record {
        run = old.run;
        live = left-others first old.run s.runs old.live (λ same. other (omega arith) (old.first ∙ same));
        first = old.first;
        within = old.within;
      };
      found = same-found s (run_unmapped first s) old.run (segment_bytes (x ∷ xs)) old.within (λ p has.
          let at = place-in s.runs q there in
          subst (λ f. frame_of_page (run_unmapped f s).runs p ≡ frame_of_page s.runs p) begins
          (frame-left 1 s.pages p at.0 q s.runs space at.1 (off p old has)));
    }
  where
    off : (p : ℕ) (old : HasRun s (x ∷ xs)) → has_page p old.run ≡ true → has_page p q ≡ false
    off p old has = by (has_page p q) refl
      where
        by : (b : Bool) → has_page p q ≡ b → has_page p q ≡ false
        by false g = g
        by true g =
            let i = place-in s.runs old.run old.live in
            let j = place-in s.runs q there in
            let same-place : i.0 ≡ j.0 = run-apart 1 s.pages s.runs i.0 j.0 p old.run q space i.1 j.1 has g in
            let same : old.run ≡ q = found_one (slice_get s.runs j.0) old.run q
            (ap (slice_get s.runs) (sym same-place) ∙ i.1) j.1 in
            absurd (other (omega arith) (old.first ∙ ap (λ (r : DeviceRun). r.first) same ∙ begins))

-- no run begins at page 0
pub left-none : (s : Space) → AreSpaceRuns 1 s.pages s.runs → run_unmapped 0 s ≡ s
left-none s space = ap (λ rs. record s { runs = rs }) (all-stay 1 s.pages 0 s.runs space (omega arith))

-- segments are those of a load
pub some-loaded : (s : Stage) → 1 ≤ length (segments_in s) → is_loaded s ≡ true
some-loaded Idle some = absurd (omega (arith, some))
some-loaded (Waiting w) some = absurd (omega (arith, some))
some-loaded (Loaded bounced segments pages) some = refl
some-loaded Returning some = absurd (omega (arith, some))

-- a load of an IOMMU tag's map
abbrev pub IsDeviceLoad : LaneState → LaneMap → Type 0
IsDeviceLoad l o = (is_device l o ≡ true) × (is_loaded o.stage ≡ true)

-- ---- one map may change
module _ (l l' : LaneState) (were : AreMapped l) (m : ℕ) (tags : KeepsTags l l')
    (maps : (n : ℕ) → n ≢ m → get l'.maps n ≡ get l.maps n)
    (bytes : (n : ℕ) → n ≢ m →
    addresses_of (loan_of l'.loans n).positions ≡ addresses_of (loan_of l.loans n).positions)
    (spaces : (n : ℕ) (o : LaneMap) → n ≢ m → get l.maps n ≡ Some o → IsDeviceLoad l o →
    KeepsLoad (l.spaces o.tag) (l'.spaces o.tag) (segments_in o.stage)) where
  -- the load of the map that changes is in a run that no other load has
  pub record IsHere (o : LaneMap) : Type 0 where
    pub mapped : IsMapped l' m o
    pub alone : (n : ℕ) (q : LaneMap) → n ≢ m → get l.maps n ≡ Some q → IsDeviceLoad l q → q.tag ≡ o.tag →
        1 ≤ length (segments_in o.stage) → 1 ≤ length (segments_in q.stage) →
        first_of (segments_in o.stage) ≢ first_of (segments_in q.stage)

  device-was : (n : ℕ) (o : LaneMap) → n ≢ m → get l'.maps n ≡ Some o → is_device l' o ≡ true →
      is_device l o ≡ true
  device-was n o off there device = sym (ap (λ x. x.1) (tags n o (sym (maps n off) ∙ there))) ∙ device

  module _ (here : (o : LaneMap) → get l'.maps m ≡ Some o → IsDeviceLoad l' o → IsHere o) where
    other-mapped : (n : ℕ) (o : LaneMap) → n ≢ m → get l'.maps n ≡ Some o → is_device l' o ≡ true →
        is_loaded o.stage ≡ true → IsMapped l' n o
    other-mapped n o off there device load =
        let was : get l.maps n ≡ Some o = sym (maps n off) ∙ there in
        let had : is_device l o ≡ true = device-was n o off there device in
        let old : IsMapped l n o = were.each n o was had load in
        let keeps = spaces n o off was (had, load) in
        record {
          run = keeps.run;
          found = keeps.found ∙ old.found
              ∙ (λ i. map (λ a. Some a)
              (buses (placed_from (bounced_in (stage_in (sym (maps n off) i))) 0 (sym (bytes n off) i))));
        }

    each : (n : ℕ) (o : LaneMap) → get l'.maps n ≡ Some o → is_device l' o ≡ true → is_loaded o.stage ≡ true →
        IsMapped l' n o
    each n o there device load = elim (decided n m) as (λ _. IsMapped l' n o) [
      | inl e ↦ subst (λ k. IsMapped l' k o) (sym e) (here o (ap (get l'.maps) (sym e) ∙ there) (device, load)).mapped
      | inr ne ↦ other-mapped n o ne there device load
    ]

    -- the map that changes, and another
    one-other : (n : ℕ) (o q : LaneMap) → n ≢ m → get l'.maps m ≡ Some o → get l'.maps n ≡ Some q →
        is_device l' o ≡ true → is_device l' q ≡ true → q.tag ≡ o.tag → 1 ≤ length (segments_in o.stage) →
        1 ≤ length (segments_in q.stage) → first_of (segments_in o.stage) ≢ first_of (segments_in q.stage)
    one-other n o q off there at device other same some any =
        (here o there (device, some-loaded o.stage some)).alone n q off (sym (maps n off) ∙ at)
        (device-was n q off at other, some-loaded q.stage any) same some any

    by-tag : (o q : LaneMap) → o.tag ≡ q.tag → is_device l' o ≡ true → is_device l' q ≡ true
    by-tag o q same device =
        ap (λ t. option_map_or (λ (x : LaneTag). x.device) (get l'.tags t) false) (sym same) ∙ device

    alone : (n k : ℕ) (o q : LaneMap) → get l'.maps n ≡ Some o → get l'.maps k ≡ Some q → is_device l' o ≡ true →
        o.tag ≡ q.tag → 1 ≤ length (segments_in o.stage) → 1 ≤ length (segments_in q.stage) →
        first_of (segments_in o.stage) ≡ first_of (segments_in q.stage) → n ≡ k
    alone n k o q there at device same some any first =
        (elim (decided n m) as (λ _. n ≡ k) [
          | inl e ↦ (elim (decided k m) as (λ _. n ≡ k) [
            | inl f ↦ e ∙ sym f
            | inr nf ↦ absurd (one-other k o q nf (ap (get l'.maps) (sym e) ∙ there) at device (by-tag o q same device)
                (sym same) some any first)
          ])
          | inr ne ↦ (elim (decided k m) as (λ _. n ≡ k) [
            | inl f ↦ absurd (one-other n q o ne (ap (get l'.maps) (sym f) ∙ at) there (by-tag o q same device) device
                same any some (sym first))
            | inr nf ↦ were.alone n k o q (sym (maps n ne) ∙ there) (sym (maps k nf) ∙ at)
                (device-was n o ne there device) same some any first
          ])
        ])

    pub one-mapped : AreMapped l'
    one-mapped = record { each = each; alone = alone }
