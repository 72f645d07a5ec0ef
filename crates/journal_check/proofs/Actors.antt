-- The actor in the line of an entry.
use Rattle.std.proofs.Common.{◌≡◌, ℕ, ◌==◌, ◌≤◌, List, [], ◌∷◌, ◌++◌, length, get_or, drop, codes, Some, refl, sym, ap}
use Rattle.std.proofs.Common.{◌∙◌, arith, subst}
use Rattle.std.proofs.lemmas.List.{drop_at}
use Rattle.std.proofs.lemmas.Option.{same_Some}
use Rattle.std.specs.Fmt.{decimal}
use Rattle.std.specs.List.{position}
use Rattle.busdma_base.specs.declared.journals.journal.Actor.{Actor}
use Rattle.busdma_base.specs.declared.journals.journal.JournalEntry.{JournalEntry}
use Rattle.busdma_base.specs.declared.journals.journal.Side.{Side}
use Rattle.busdma_base.specs.declared.journals.journal.Side.TheVariants as side
use Rattle.busdma_base.specs.declared.scenarios.scenario.Scenario.{Scenario}
use Rattle.program_rules.specs.Reports.Answer.{answer_text}
use Rattle.program_rules.specs.Reports.Did.{did_text}
use Rattle.program_rules.specs.Reports.Report.{side_letter, actor_text, entry_line}
use Rattle.journal_check.proofs.Words.{number-there}

-- what follows the number in the line of an entry: a space, the letter of its side, and the number of its
-- driver
pub record Behind (rest : List ℕ) (actor : Actor) : Type 0 where
  pub more : List ℕ
  pub letter : get_or rest 1 0 ∷ [] ≡ side_letter actor.side
  pub digits : drop 2 rest ≡ decimal actor.lane.0 ++ 32 ∷ more
  pub long : 2 ≤ length rest

behind-side : (d : Side) (lane : ℕ) (more : List ℕ)
    → Behind (32 ∷ ((side_letter d ++ decimal lane) ++ 32 ∷ more)) (record { lane = record { 0 = lane }; side = d })
behind-side side.Script lane more = record { more = more; letter = refl; digits = refl; long = omega arith }
behind-side side.Transfer lane more = record { more = more; letter = refl; digits = refl; long = omega arith }
behind-side side.Callback lane more = record { more = more; letter = refl; digits = refl; long = omega arith }

-- an actor's line begins with its number, a space, and the rest
pub record OfEntry (line : List ℕ) (actor : Actor) : Type 0 where
  pub number : ℕ
  pub own : List ℕ
  pub is : line ≡ decimal number ++ 32 ∷ own
  pub behind : Behind (32 ∷ own) actor

pub of-entry : (line : List ℕ) (s : Scenario) (n : ℕ) (e : JournalEntry) → line ≡ entry_line s n e →
    OfEntry line e.actor
of-entry line s n e h =
    let answer : List ℕ = codes " -> " ++ (answer_text e.answer ++ codes "\n") in
    let more : List ℕ = did_text s e.actor.lane e.did ++ answer in
    record {
      number = n;
      own = actor_text e.actor ++ 32 ∷ more;
      is = h;
      behind = behind-side e.actor.side e.actor.lane.0 more;
    }

-- the first space of the line is there
pub space-there : (line : List ℕ) (actor : Actor) (o : OfEntry line actor) →
    position (λ b. b == 32) line ≡ Some (length (decimal o.number))
space-there line actor o = number-there line o.own 32 o.number (omega arith) o.is

-- after the first space comes the actor
pub behind-space : (line rest : List ℕ) (actor : Actor) (at : ℕ) → OfEntry line actor →
    position (λ b. b == 32) line ≡ Some at → rest ≡ drop at line → Behind rest actor
behind-space line rest actor at o found is =
    let count : at ≡ length (decimal o.number) =
    same_Some at (length (decimal o.number)) (sym found ∙ space-there line actor o) in
    let same : rest ≡ 32 ∷ o.own =
    is ∙ (ap (drop at) o.is ∙ drop_at (decimal o.number) (32 ∷ o.own) at (sym count)) in
    subst (λ r. Behind r actor) (sym same) o.behind
