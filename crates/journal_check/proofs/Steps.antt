-- What following lines keeps.
use Rattle.std.proofs.Common.{◌≡◌, ℕ, suc, ◌+◌, ◌<◌, ◌≤◌, List, [], ◌∷◌, ◌++◌, length, take, drop, Some, refl, sym, ap}
use Rattle.std.proofs.Common.{◌∙◌, arith, subst}
use Rattle.std.proofs.lemmas.List.{append_assoc, drop-drop, drop_all}
use Rattle.busdma_base.specs.declared.journals.journal.JournalEntry.{JournalEntry}
use Rattle.busdma_base.specs.declared.scenarios.scenario.Scenario.{Scenario}
use Rattle.program_rules.specs.Reports.Report.{entry_line}
use Rattle.program_rules.specs.Verdicts.TextLines.{lines}
use Rattle.program_rules.specs.Verdicts.ReportLines.{entry_lines}
use Rattle.ideal_world.specs.Legal.{Leads}
use Rattle.ideal_world.specs.World.{WorldState, opening_world, step, step_entry}
use Rattle.program_rules.specs.Verdicts.Verdict.{CanGoOn, IsNextLine as IsNext, IsWrong, StopsWithin}
use Rattle.journal_check.specs.declared.stepping.Line.{Line}
use Rattle.journal_check.specs.declared.stepping.Line.TheVariants.{Right, Wrong, Nobody}
use Rattle.journal_check.specs.Following.{IsJudged, AreFollowed, AreFollowedTo}

leads-push : (w m after : WorldState) (es : List JournalEntry) (e : JournalEntry) → Leads w es m →
    step_entry m e.actor ≡ Some e → after ≡ (step m e.actor).world → Leads w (es ++ e ∷ []) after
leads-push w m after [] e h is then =
    (ap (λ x. step_entry x e.actor) h ∙ is, ap (λ x. (step x e.actor).world) h ∙ sym then)
leads-push w m after (d ∷ es) e h is then = (h.0, leads-push (step w d.actor).world m after es e h.1 is then)

lines-push : (s : Scenario) (n k : ℕ) (es : List JournalEntry) (e : JournalEntry) → k ≡ n + length es →
    entry_lines s n (es ++ e ∷ []) ≡ entry_lines s n es ++ entry_line s k e ∷ []
lines-push s n k [] e h = let a : n ≡ k = omega (arith, h) in ap (λ i. entry_line s i e ∷ []) a
lines-push s n k (d ∷ es) e h = ap (λ t. entry_line s n d ∷ t) (lines-push s (n + 1) k es e (omega (arith, h)))

pub begins : (s : Scenario) (text : List ℕ) (w : WorldState) (es : List JournalEntry) → es ≡ [] → w ≡ opening_world s →
    AreFollowed s text es 0 w
begins s text w es none h =
    subst (λ x. AreFollowed s text x 0 w) (sym none) (record { leads = sym h; read = refl })

module _ (s : Scenario) (text : List ℕ) (es : List JournalEntry) (at n end : ℕ) (w after : WorldState)
    (line rest : List ℕ)
    (followed : AreFollowed s text es at w) (count : n ≡ length es) (there : rest ≡ drop at text)
    (cut : lines rest ≡ take end rest ∷ lines (drop end rest)) (is : line ≡ take end rest) where
  left : lines (drop at text) ≡ line ∷ lines (drop (at + end) text)
  left =
      ap lines (sym there) ∙ (cut ∙ (ap (λ l. l ∷ lines (drop end rest)) (sym is)
      ∙ ap (λ t. line ∷ lines t) (ap (drop end) there ∙ drop-drop end at text)))

  pub goes-on : (e : JournalEntry) (more : List JournalEntry) → more ≡ es ++ e ∷ [] → IsJudged s n w line (Right e)
      after →
      AreFollowed s text more (at + end) after
  goes-on e more pushed j =
      subst (λ x. AreFollowed s text x (at + end) after) (sym pushed) (record {
        leads = leads-push (opening_world s) w after es e followed.leads j.0 j.1;
        read = followed.read ∙ (ap (λ t. entry_lines s 0 es ++ t) left
            ∙ (ap (λ l. entry_lines s 0 es ++ l ∷ lines (drop (at + end) text)) j.2
            ∙ (sym (append_assoc (entry_lines s 0 es) (entry_line s n e ∷ []) (lines (drop (at + end) text)))
            ∙ ap (λ t. t ++ lines (drop (at + end) text)) (sym (lines-push s 0 n es e (omega (arith, count)))))));
      })

  wrong : (IsNext s n w line → ⊥) → IsWrong s (length es) w (lines (drop at text))
  wrong off =
      subst (IsWrong s (length es) w) (sym left) (subst (λ i. IsNext s i w line → ⊥) count off)

  pub breaks : IsJudged s n w line Wrong after → StopsWithin s text (n + 1)
  breaks j = record {
    right = record {
      entries = es;
      world = w;
      rest = lines (drop at text);
      leads = followed.leads;
      read = followed.read;
    };
    goes_on = j.0;
    wrong = wrong j.1;
    place = ap (λ i. i + 1) count;
  }

  pub stops : at ≤ length text → IsJudged s n w line Nobody after → AreFollowedTo s text es at after
  stops within j = record {
    followed = subst (AreFollowed s text es at) (sym j.0) followed;
    wrong = subst (λ x. IsWrong s (length es) x (lines (drop at text))) (sym j.0) (wrong j.1);
    within = within;
  }

pub ends : (s : Scenario) (text : List ℕ) (es : List JournalEntry) (at : ℕ) (w : WorldState) →
    AreFollowed s text es at w → at ≤ length text → length text ≤ at → AreFollowedTo s text es at w
ends s text es at w followed within over =
    let none : drop at text ≡ [] = drop_all at text over in
    record {
      followed = followed;
      wrong = subst (λ t. IsWrong s (length es) w (lines t)) (sym none) tt;
      within = within;
    }
