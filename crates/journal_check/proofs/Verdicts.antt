-- The laws of verdicts, over the laws of the ideal world.
use Rattle.std.proofs.Common.{◌≡◌, ◌≢◌, ◌⊎◌, inl, inr, ℕ, zero, suc, ◌+◌, ◌<◌, ◌≤◌, ◌^◌, Bool, true, false, List, []}
use Rattle.std.proofs.Common.{◌∷◌, ◌++◌, length, take}
use Rattle.std.proofs.Common.{Option, Some, None, refl, sym, ap, ◌∙◌, arith, subst, slice_get, nat_lt}
use Rattle.std.proofs.lemmas.Bool.Decides.{nat_tests}
use Rattle.std.proofs.lemmas.Option.{slice_get_past, same_Some}
use Rattle.std.proofs.lemmas.List.{take-take}
use Rattle.busdma_base.specs.declared.journals.journal.Actor.{Actor}
use Rattle.busdma_base.specs.declared.journals.journal.Journal.{Journal}
use Rattle.busdma_base.specs.declared.journals.journal.JournalEntry.{JournalEntry}
use Rattle.busdma_base.specs.declared.scenarios.scenario.Scenario.{Scenario}
use Rattle.busdma_base.specs.Scenarios.Valid.{IsValid}
use Rattle.program_rules.specs.Reports.Report.{entry_line, report}
use Rattle.program_rules.specs.Verdicts.TextLines.{lines, alike_lines as alike}
use Rattle.program_rules.specs.Verdicts.ReportLines.{entry_lines, closing_lines}
use Rattle.journal_check.proofs.EntryLines.{one-actor, lines-report, report-from_lines}
use Rattle.journal_check.proofs.Judging as judging
use Rattle.ideal_world.specs.Ends.{IsAtRest, world_end}
use Rattle.ideal_world.specs.Left.{left_of}
use Rattle.ideal_world.specs.Legal.{Leads, IsLegal, journal_of, round_from}
use Rattle.ideal_world.specs.WellFormed.{IsWellFormed}
use Rattle.ideal_world.specs.World.{WorldState, opening_world, step, step_of, step_entry, entry_of, zone_counts}
use Rattle.ideal_world.proofs.Falling.{step-falls}
use Rattle.ideal_world.proofs.Keeping.{step-keeps, step-named}
use Rattle.ideal_world.proofs.Opens.{opens-well}
use Rattle.ideal_world.proofs.RestRounds.{NoneSteps, in_round}
use Rattle.program_rules.specs.declared.verdict.Verdict.{Verdict}
use Rattle.program_rules.specs.declared.verdict.Verdict.TheVariants.{Yes, No}
use Rattle.program_rules.specs.Verdicts.Verdict.{FollowsText as Follows, journal_at, CanGoOn}
use Rattle.program_rules.specs.Verdicts.Verdict.{IsNextLine as IsNext, IsWrong, IsWhole, StopsWithin}
use Rattle.program_rules.specs.Verdicts.Verdict.{StopsAtEnd, IsVerdict}
use Rattle.journal_check.specs.Laws.{BreaksAt}

-- past the last driver no actor can step
past-rests : (w : WorldState) (a : Actor) → length w.lanes ≤ a.lane.0 → step_entry w a ≡ None
past-rests w a h = ap (λ o. entry_of (step_of w a o).turn) (slice_get_past w.lanes a.lane.0 h)

-- an actor that can step belongs to a driver of the world
pub steps-within : (w : WorldState) (a : Actor) (e : JournalEntry) → step_entry w a ≡ Some e → a.lane.0 < length w.lanes
steps-within w a e is = by (nat_lt a.lane.0 (length w.lanes)) refl
  where
    by : (b : Bool) → nat_lt a.lane.0 (length w.lanes) ≡ b → a.lane.0 < length w.lanes
    by true t = grind (arith, nat_tests)
    by false t =
        let none : step_entry w a ≡ None = past-rests w a (grind (arith, nat_tests)) in
        let clash : Some e ≡ None = sym is ∙ none in
        absurd (cc)

module _ (s : Scenario) where
  keeps : (w : WorldState) → IsWellFormed s w → (a : Actor) → IsWellFormed s (step w a).world
  keeps w well a = step-keeps s w well a

  named : (w : WorldState) → IsWellFormed s w → (a : Actor) (e : JournalEntry) → step_entry w a ≡ Some e → e.actor ≡ a
  named w well a e is = step-named s w well a e is

  falls : (w : WorldState) (a : Actor) (e : JournalEntry) → IsWellFormed s w → step_entry w a ≡ Some e →
      left_of (step w a).world < left_of w
  falls w a e well is = step-falls s w a e well is

  one : (n : ℕ) (w : WorldState) (e f : JournalEntry) → IsWellFormed s w → step_entry w e.actor ≡ Some e →
      step_entry w f.actor ≡ Some f → entry_line s n e ≡ entry_line s n f → e ≡ f
  one n w e f well is also h =
      let few = well.valid.few_drivers in
      let count = well.count in
      let a = steps-within w e.actor e is in
      let b = steps-within w f.actor f also in
      let same : e.actor ≡ f.actor = one-actor s n e f (omega (arith, a, count, few)) (omega (arith, b, count, few))
      h in
      same_Some e f (sym is ∙ (ap (step_entry w) same ∙ also))

  -- an actor of a list can step, or none of them can
  search_round : (w : WorldState) → IsWellFormed s w → (actors : List Actor) → NoneSteps w actors ⊎ CanGoOn w
  search_round w well [] = inl tt
  search_round w well (a ∷ actors) = by (step_entry w a) refl (search_round w well actors)
    where
      by : (o : Option JournalEntry) → step_entry w a ≡ o → NoneSteps w actors ⊎ CanGoOn w →
          NoneSteps w (a ∷ actors) ⊎ CanGoOn w
      by (Some e) is others = inr (e, ap (step_entry w) (named w well a e is) ∙ is)
      by None is (inl none) = inl (is, none)
      by None is (inr goes) = inr goes

  -- if the round over the drivers makes no step, no actor can step
  pub at-rest : (w : WorldState) → IsWellFormed s w → NoneSteps w (round_from 0 (length s.drivers)) → IsAtRest w
  at-rest w well none a = at a (nat_lt a.lane.0 (length s.drivers)) refl
    where
      at : (a : Actor) (b : Bool) → nat_lt a.lane.0 (length s.drivers) ≡ b → step_entry w a ≡ None
      at a true t =
          let z : 0 + a.lane.0 ≡ a.lane.0 = omega arith in
          subst (λ n. step_entry w (record { lane = record { 0 = n }; side = a.side }) ≡ None) z
          (in_round w (length s.drivers) 0 a.lane.0 a.side none (grind (arith, nat_tests)))
      at a false t = past-rests w a (let c = well.count in grind (arith, nat_tests))

  still-or-goes : (w : WorldState) → IsWellFormed s w → IsAtRest w ⊎ CanGoOn w
  still-or-goes w well = by (search_round w well (round_from 0 (length s.drivers)))
    where
      by : NoneSteps w (round_from 0 (length s.drivers)) ⊎ CanGoOn w → IsAtRest w ⊎ CanGoOn w
      by (inl none) = inl (at-rest w well none)
      by (inr goes) = inr goes

  pub rests : (w : WorldState) → IsWellFormed s w →
      (more : List JournalEntry) × (end : WorldState) × Leads w more end × IsAtRest end
  rests = judging.each-rests (λ (e : JournalEntry). e.actor) step_entry (λ w a. (step w a).world) (entry_line s)
      (IsWellFormed s) (λ w a well. keeps w well a) left_of (λ w e well is. falls w e.actor e well is) still-or-goes

  -- ---- the laws

  -- a legal journal is the journal of its entries and its last world
  its-own : (j : Journal) (legal : IsLegal s j) → j ≡ journal_at legal.last j.entries
  its-own j legal =
      ap (λ z. record { entries = j.entries; zones = z; end = j.end }) legal.zones
      ∙ ap (λ e. record { entries = j.entries; zones = zone_counts legal.last; end = e }) legal.end

  pub yes-legal : (text : List ℕ) (j : Journal) → IsWhole s text j → IsLegal s j × (text ≡ report s j)
  yes-legal text j f =
      let own : IsLegal s (journal_at f.right.world f.right.entries) =
      record { last = f.right.world; leads = f.right.leads; rest = f.still; zones = refl; end = refl } in (
        subst (IsLegal s) (sym f.journal) own,
        report-from_lines s j text (f.right.read ∙ (ap (λ c. entry_lines s 0 f.right.entries ++ c) f.closing
            ∙ ap (λ (x : Journal). entry_lines s 0 x.entries ++ closing_lines j) (sym f.journal))),
      )

  pub report-whole : (text : List ℕ) (j : Journal) → IsValid s → IsLegal s j → text ≡ report s j → IsWhole s text j
  report-whole text j valid legal h = record {
    right = record {
      entries = j.entries;
      world = legal.last;
      rest = closing_lines j;
      leads = legal.leads;
      read = ap lines h ∙ lines-report s j valid;
    };
    still = legal.rest;
    journal = its-own j legal;
    closing = refl;
  }

  module _ (valid : IsValid s) (opens : IsWellFormed s (opening_world s)) where
    closing : WorldState → List JournalEntry → List (List ℕ)
    closing w es = closing_lines (journal_at w es)

    -- the lines of a legal journal's report
    report-lines : (j : Journal) (legal : IsLegal s j) →
        lines (report s j) ≡ entry_lines s 0 j.entries ++ closing_lines (journal_at legal.last j.entries)
    report-lines j legal =
        lines-report s j valid ∙ ap (λ c. entry_lines s 0 j.entries ++ closing_lines c) (its-own j legal)

    abbrev Breaks : List (List ℕ) → ℕ → Type 0
    Breaks = judging.Breaks (λ (e : JournalEntry). e.actor) step_entry (λ w a. (step w a).world) (entry_line s)
        (IsWellFormed s) (λ w a well. keeps w well a) one (λ w es. closing_lines (journal_at w es)) (opening_world s)
        opens rests

    breaks-at : (text : List ℕ) (number : ℕ) → Breaks (lines text) number → BreaksAt s text number
    breaks-at text number b =
        let j : Journal = journal_at b.world b.entries in
        let legal : IsLegal s j =
        record { last = b.world; leads = b.leads; rest = b.still; zones = refl; end = refl } in
        record {
          before = b.before;
          place = b.place;
          journal = j;
          legal = legal;
          same = b.front ∙ sym (ap (take b.before) (lines-report s j valid));
          breaks = λ k own h. b.breaks k.entries own.last own.leads own.rest
              (h ∙ ap (take number) (report-lines k own));
        }

    pub no-breaks : (text : List ℕ) (number : ℕ) → IsVerdict s text (No number) → BreaksAt s text number
    no-breaks text number (inl f) =
        breaks-at text number (judging.within-breaks (λ (e : JournalEntry). e.actor) step_entry
        (λ w a. (step w a).world) (entry_line s)
        (IsWellFormed s) (λ w a well. keeps w well a) one (λ w es. closing_lines (journal_at w es)) (opening_world s)
        opens rests
        (lines text) number (record {
          right = record {
            entries = f.right.entries;
            world = f.right.world;
            rest = f.right.rest;
            leads = f.right.leads;
            lines = f.right.read;
          };
          goes_on = f.goes_on;
          wrong = f.wrong;
          place = f.place;
        }))
    no-breaks text number (inr f) =
        breaks-at text number (judging.end-breaks (λ (e : JournalEntry). e.actor) step_entry (λ w a. (step w a).world)
        (entry_line s)
        (IsWellFormed s) (λ w a well. keeps w well a) one (λ w es. closing_lines (journal_at w es)) (opening_world s)
        opens rests
        (lines text) number (record {
          right = record {
            entries = f.right.entries;
            world = f.right.world;
            rest = f.right.rest;
            leads = f.right.leads;
            lines = f.right.read;
          };
          still = f.still;
          other = f.other;
          place = f.place;
        }))

    -- ---- one verdict

    less-breaks : (text : List ℕ) (a b : ℕ) → BreaksAt s text a → BreaksAt s text b → a < b → ⊥
    less-breaks text a b x y less =
        let fits : a ≤ y.before = omega (arith, less, y.place) in
        x.breaks y.journal y.legal (sym (take-take a y.before (lines text) fits) ∙ (ap (take a) y.same
        ∙ take-take a y.before (lines (report s y.journal)) fits))

    one-number : (text : List ℕ) (a b : ℕ) → BreaksAt s text a → BreaksAt s text b → a ≡ b
    one-number text a b x y = by (nat_lt a b) refl (nat_lt b a) refl
      where
        by : (p : Bool) → nat_lt a b ≡ p → (q : Bool) → nat_lt b a ≡ q → a ≡ b
        by true e q f = absurd (less-breaks text a b x y (grind (arith, nat_tests)))
        by false e true f = absurd (less-breaks text b a y x (grind (arith, nat_tests)))
        by false e false f = grind (arith, nat_tests)

    one-journal : (text : List ℕ) (j k : Journal) → IsWhole s text j → IsWhole s text k → j ≡ k
    one-journal text j k f g =
        let x = yes-legal text j f in
        let y = yes-legal text k g in
        let same = judging.one-whole (λ (e : JournalEntry). e.actor) step_entry (λ w a. (step w a).world) (entry_line s)
        (IsWellFormed s) (λ w a well. keeps w well a) one (λ w es. closing_lines (journal_at w es)) (opening_world s)
        opens rests
        j.entries k.entries x.0.last y.0.last x.0.leads x.0.rest y.0.leads y.0.rest
        (sym (report-lines j x.0) ∙ (ap lines (sym x.1 ∙ y.1) ∙ report-lines k y.0)) in
        its-own j x.0 ∙ (ap (journal_at x.0.last) (sym same.0)
        ∙ (ap (λ w. journal_at w k.entries) same.1 ∙ sym (its-own k y.0)))

    not-both : (text : List ℕ) (j : Journal) (number : ℕ) → IsWhole s text j → BreaksAt s text number → ⊥
    not-both text j number f b =
        let x = yes-legal text j f in
        b.breaks j x.0 (ap (λ t. take number (lines t)) x.1)

    pub one-verdict : (text : List ℕ) (u v : Verdict) → IsVerdict s text u → IsVerdict s text v → u ≡ v
    one-verdict text (Yes j) (Yes k) f g = ap Yes (one-journal text j k f g)
    one-verdict text (Yes j) (No n) f g = absurd (not-both text j n f (no-breaks text n g))
    one-verdict text (No n) (Yes k) f g = absurd (not-both text k n g (no-breaks text n f))
    one-verdict text (No n) (No m) f g = ap No (one-number text n m (no-breaks text n f) (no-breaks text m g))

-- entries that lead on from the opening world lead on to a world at rest
pub leads-keep : (s : Scenario) (w : WorldState) (es : List JournalEntry) (end : WorldState) → IsWellFormed s w →
    Leads w es end → IsWellFormed s end
leads-keep s w [] end well h = subst (IsWellFormed s) h well
leads-keep s w (e ∷ es) end well h =
    leads-keep s (step w e.actor).world es end (step-keeps s w well e.actor) h.1

pub front-rests : (s : Scenario) (es : List JournalEntry) (w : WorldState) → IsValid s → Leads (opening_world s) es w →
    (more : List JournalEntry) × (end : WorldState) × Leads w more end × IsAtRest end
front-rests s es w valid h = rests s w (leads-keep s (opening_world s) es w (opens-well s valid) h)
