-- Turns and rounds.
use Rattle.std.proofs.Common.{◌≡◌, ℕ, zero, suc, ◌+◌, List, [], ◌∷◌, ◌++◌, Some, refl, sym, ap, ◌∙◌, arith}
use Rattle.busdma_base.specs.declared.journals.journal.Actor.{Actor}
use Rattle.busdma_base.specs.declared.journals.journal.JournalEntry.{JournalEntry}
use Rattle.busdma_base.specs.declared.journals.journal.Journal.{Journal}
use Rattle.busdma_base.specs.declared.scenarios.scenario.Scenario.{Scenario}
use Rattle.ideal_world.specs.World.{WorldState, step, step_entry}
use Rattle.ideal_world.specs.Legal.{Run, Leads, turns, rounds, round_of, opening_run, IsReplay, IsReplayed, journal_of}

-- after a round that makes no step, no round makes one
rounds_stuck : (n : ℕ) (round : List Actor) (r : Run) → turns r round ≡ r → rounds n round r ≡ r
rounds_stuck zero round r h = refl
rounds_stuck (suc n) round r h = ap (rounds n round) h ∙ rounds_stuck n round r h

zero_plus : (k : ℕ) → k ≡ zero + k
zero_plus k = omega arith

suc_plus : (n k : ℕ) → suc n + k ≡ suc (n + k)
suc_plus n k = omega arith

pub rounds-add : (n k : ℕ) (round : List Actor) (r : Run) → rounds k round (rounds n round r) ≡ rounds (n + k) round r
rounds-add zero k round r = ap (λ m. rounds m round r) (zero_plus k)
rounds-add (suc n) k round r = rounds-add n k round (turns r round) ∙ sym (ap (λ m. rounds m round r) (suc_plus n k))

-- a replay that has come to rest is where every longer one ends
replay_longer : (s : Scenario) (x : Run) (h : IsReplay s x) (k : ℕ) →
    rounds (h.count + k) (round_of s) (turns (opening_run s) s.order) ≡ x
replay_longer s x h k =
    sym (rounds-add h.count k (round_of s) (turns (opening_run s) s.order)) ∙ ap (rounds k (round_of s)) h.reaches
    ∙ rounds_stuck k (round_of s) x h.rests

-- there is one replay
one_replay : (s : Scenario) (x y : Run) → IsReplay s x → IsReplay s y → x ≡ y
one_replay s x y h k =
    let e : h.count + k.count ≡ k.count + h.count = omega arith in
    sym (replay_longer s x h k.count) ∙ ap (λ m. rounds m (round_of s) (turns (opening_run s) s.order)) e
    ∙ replay_longer s y k h.count

pub one_replayed : (s : Scenario) (j k : Journal) → IsReplayed s j → IsReplayed s k → j ≡ k
one_replayed s j k h g = h.journal ∙ ap journal_of (one_replay s h.run g.run h.replay g.replay) ∙ sym g.journal

-- entries that lead on, with one more
pub Leads-push : (w m : WorldState) (es : List JournalEntry) (e : JournalEntry) → Leads w es m →
    step_entry m e.actor ≡ Some e → Leads w (es ++ e ∷ []) (step m e.actor).world
Leads-push w m [] e h is = (ap (λ x. step_entry x e.actor) h ∙ is, ap (λ x. (step x e.actor).world) h)
Leads-push w m (d ∷ es) e h is = (h.0, Leads-push (step w d.actor).world m es e h.1 is)
