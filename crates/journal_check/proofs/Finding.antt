-- The verdict after the lines of entries.
use Rattle.std.proofs.Common.{◌≡◌, ℕ, ◌+◌, ◌≤◌, List, [], ◌∷◌, ◌++◌, length, drop, refl, sym, ap, ◌∙◌, inl, inr, subst}
use Rattle.std.specs.List.{concat}
use Rattle.busdma_base.specs.declared.journals.journal.Journal.{Journal}
use Rattle.busdma_base.specs.declared.journals.journal.JournalEntry.{JournalEntry}
use Rattle.busdma_base.specs.declared.scenarios.scenario.Scenario.{Scenario}
use Rattle.program_rules.specs.Reports.Report.{journal_end_line}
use Rattle.program_rules.specs.Reports.Zone.{zone_lines}
use Rattle.ideal_world.specs.Ends.{IsAtRest}
use Rattle.ideal_world.specs.World.{WorldState}
use Rattle.journal_check.specs.Following.{AreFollowedTo}
use Rattle.program_rules.specs.Verdicts.TextLines.{lines, alike_lines as alike}
use Rattle.program_rules.specs.Verdicts.ReportLines.{closing_lines}
use Rattle.program_rules.specs.Verdicts.Verdict.{CanGoOn, FollowsText as Follows, IsWhole}
use Rattle.program_rules.specs.Verdicts.Verdict.{StopsAtEnd, StopsWithin, journal_at}
use Rattle.journal_check.proofs.Lines.{concat-lines}

-- texts with the same lines are equal
lines-tell : (a b : List ℕ) → lines a ≡ lines b → a ≡ b
lines-tell a b h = sym (concat-lines a) ∙ (ap concat h ∙ concat-lines b)

-- the text of closing lines
abbrev pub closing : Journal → List ℕ
closing j = zone_lines j.zones ++ journal_end_line j

module _ (s : Scenario) (text : List ℕ) (es : List JournalEntry) (at : ℕ) (w : WorldState)
    (f : AreFollowedTo s text es at w) where
  abbrev right : Follows s text
  right = record {
    entries = es;
    world = w;
    rest = lines (drop at text);
    leads = f.followed.leads;
    read = f.followed.read;
  }

  pub stops-within : (count number : ℕ) → CanGoOn w → count ≡ length es → number ≡ count + 1 → StopsWithin s text number
  stops-within count number goes is place = record {
    right = right;
    goes_on = goes;
    wrong = f.wrong;
    place = place ∙ ap (λ n. n + 1) is;
  }

  module _ (still : IsAtRest w) (j : Journal) (own : j ≡ journal_at w es) (rest : List ℕ)
      (there : rest ≡ drop at text) where
    pub is-whole : (end : List ℕ) → end ≡ closing j → rest ≡ end → IsWhole s text j
    is-whole end is same = record {
      right = right;
      still = still;
      journal = own;
      closing = ap lines (sym there ∙ (same ∙ is));
    }

    pub stops-at-end : (end : List ℕ) (count same number : ℕ) → end ≡ closing j → (rest ≡ end → ⊥) → count ≡ length es →
        same ≡ alike (lines rest) (lines end) → number ≡ count + same + 1 → StopsAtEnd s text number
    stops-at-end end count same number is other counted alike-is place =
        let closes : end ≡ closing (journal_at w es) = is ∙ ap closing own in
        record {
          right = right;
          still = still;
          other = λ h. other (there ∙ (lines-tell (drop at text) (closing (journal_at w es)) h ∙ sym closes));
          place = place ∙ (ap (λ n. n + same + 1) counted ∙ ap (λ n. length es + n + 1) (alike-is
              ∙ (ap (λ t. alike (lines t) (lines end)) there ∙ ap (λ t. alike (lines (drop at text)) (lines t))
              closes)));
        }
