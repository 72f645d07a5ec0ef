-- A round that makes no step leaves no actor that can.
use Rattle.std.proofs.Common.{◌≡◌, ℕ, zero, suc, ◌+◌, ◌<◌, ◌≤◌, List, [], ◌∷◌, length, Option, Some, None, refl, sym}
use Rattle.std.proofs.Common.{ap, ◌∙◌, arith, subst, length-append}
use Rattle.busdma_base.specs.declared.journals.journal.Actor.{Actor}
use Rattle.busdma_base.specs.declared.journals.journal.JournalEntry.{JournalEntry}
use Rattle.busdma_base.specs.declared.journals.journal.Side.{Side}
use Rattle.busdma_base.specs.declared.journals.journal.Side.TheVariants.{Script, Transfer, Callback}
use Rattle.ideal_world.specs.World.{WorldState, step, step_entry}
use Rattle.ideal_world.specs.Legal.{Run, noted, turn, turns, round_from}

-- none of these actors can step
abbrev pub NoneSteps : WorldState → List Actor → Type 0
NoneSteps w [] = Unit {0}
NoneSteps w (a ∷ actors) = (step_entry w a ≡ None) × NoneSteps w actors

noted_grows : (r : Run) (after : WorldState) (o : Option JournalEntry) →
    length r.entries ≤ length (noted r after o).entries
noted_grows r after None = omega arith
noted_grows r after (Some e) = omega (arith, length-append r.entries (e ∷ []))

pub turns_grow : (actors : List Actor) (r : Run) → length r.entries ≤ length (turns r actors).entries
turns_grow [] r = omega arith
turns_grow (a ∷ actors) r =
    omega (arith, noted_grows r (step r.world a).world (step_entry r.world a), turns_grow actors (turn r a))

first_rests : (r : Run) (after : WorldState) (o : Option JournalEntry) (actors : List Actor) →
    turns (noted r after o) actors ≡ r → o ≡ None
first_rests r after None actors h = refl
first_rests r after (Some e) actors h =
    absurd (omega (
      arith,
      length-append r.entries (e ∷ []),
      turns_grow actors (noted r after (Some e)),
      ap (λ (x : Run). length x.entries) h,
    ))

-- a round that changes nothing makes no step
pub round_rests : (actors : List Actor) (r : Run) → turns r actors ≡ r → NoneSteps r.world actors
round_rests [] r h = tt
round_rests (a ∷ actors) r h =
    let none : step_entry r.world a ≡ None = first_rests r (step r.world a).world (step_entry r.world a) actors h in
    (none, round_rests actors r (ap (λ o. turns (noted r (step r.world a).world o) actors) (sym none) ∙ h))

at_side : (w : WorldState) (i : ℕ) (side : Side) →
    step_entry w (record { lane = record { 0 = i }; side = Callback }) ≡ None
    → step_entry w (record { lane = record { 0 = i }; side = Transfer }) ≡ None →
    step_entry w (record { lane = record { 0 = i }; side = Script }) ≡ None
    → step_entry w (record { lane = record { 0 = i }; side = side }) ≡ None
at_side w i Script c d s = s
at_side w i Transfer c d s = d
at_side w i Callback c d s = c

-- an actor of the n drivers from the i-th on is in their round
pub in_round : (w : WorldState) (n i k : ℕ) (side : Side) → NoneSteps w (round_from i n) → k < n →
    step_entry w (record { lane = record { 0 = i + k }; side = side }) ≡ None
in_round w zero i k side h lt = absurd (omega arith)
in_round w (suc n) i zero side h lt =
    let e : i ≡ i + 0 = omega arith in
    subst (λ m. step_entry w (record { lane = record { 0 = m }; side = side }) ≡ None) e
    (at_side w i side h.0 h.1.0 h.1.1.0)
in_round w (suc n) i (suc k) side h lt =
    let e : (i + 1) + k ≡ i + suc k = omega arith in
    subst (λ m. step_entry w (record { lane = record { 0 = m }; side = side }) ≡ None) e
    (in_round w n (i + 1) k side h.1.1.1 (omega arith))
