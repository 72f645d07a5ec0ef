use Rattle.std.proofs.Common.{rules, ◌≡◌, ◌<◌, ◌≤◌, ◌^◌, ◌∙◌, ap, sym, subst, arith, ℕ, List, Option, Some, None, drop}
use Rattle.std.proofs.Common.{length}
use Rattle.std.proofs.lemmas.Option.{same_Some}
use Rattle.std.specs.Fmt.{decimal}
use Rattle.busdma_base.specs.declared.journals.journal.Actor.{Actor}
use Rattle.busdma_base.specs.declared.journals.journal.Side.{Side}
use Rattle.journal_check.proofs.Actors.{Behind, behind-space, of-entry, space-there}
use Rattle.journal_check.proofs.naming.named_actor.Goals as goal

pub returns-in_err-place_of : goal.returns-in_err-place_of
returns-in_err-place_of c = λ s n e less is.
    let o = of-entry c.args.line.now s n e is in
    let there : c.place_of.result ≡ Some (length (decimal o.number)) =
    c.place_of.ensures.first ∙ space-there c.args.line.now e.actor o in
    let none : c.place_of.result ≡ None = c.in_err-place_of.was in
    let clash : None ≡ Some (length (decimal o.number)) = sym none ∙ there in
    absurd (cc)

pub returns-then-rest-lt2 : goal.returns-then-rest-lt2
returns-then-rest-lt2 c = λ s n e less is.
    let b = behind-space c.args.line.now c.split_at.result.1.now e.actor c.in_ok-place_of.field-0
    (of-entry c.args.line.now s n e is) (sym c.place_of.ensures.first ∙ c.in_ok-place_of.was) c.split_at.ensures.back in
    absurd (omega (arith, c.if-rest-lt2.true, b.long))

pub returns-in_err-side : goal.returns-in_err-side
returns-in_err-side c = λ s n e less is.
    let b = behind-space c.args.line.now c.split_at.result.1.now e.actor c.in_ok-place_of.field-0
    (of-entry c.args.line.now s n e is) (sym c.place_of.ensures.first ∙ c.in_ok-place_of.was) c.split_at.ensures.back in
    let some : c.side_of.result ≡ Some e.actor.side = c.side_of.ensures e.actor.side b.letter in
    let none : c.side_of.result ≡ None = c.in_err-side.was in
    let clash : None ≡ Some e.actor.side = sym none ∙ some in
    absurd (cc)

pub returns-in_err-first_number : goal.returns-in_err-first_number
returns-in_err-first_number c = λ s n e less is.
    let b = behind-space c.args.line.now c.split_at.result.1.now e.actor c.in_ok-place_of.field-0
    (of-entry c.args.line.now s n e is) (sym c.place_of.ensures.first ∙ c.in_ok-place_of.was) c.split_at.ensures.back in
    let some : c.first_number.result ≡ Some e.actor.lane.0 =
    c.first_number.ensures e.actor.lane.0 b.more less (c.split_at-2.ensures.back ∙ b.digits) in
    let none : c.first_number.result ≡ None = c.in_err-first_number.was in
    let clash : None ≡ Some e.actor.lane.0 = sym none ∙ some in
    absurd (cc)

pub returns : goal.returns
returns c = λ s n e less is.
    let b = behind-space c.args.line.now c.split_at.result.1.now e.actor c.in_ok-place_of.field-0
    (of-entry c.args.line.now s n e is) (sym c.place_of.ensures.first ∙ c.in_ok-place_of.was) c.split_at.ensures.back in
    let letter : c.side_of.result ≡ Some e.actor.side = c.side_of.ensures e.actor.side b.letter in
    let number : c.first_number.result ≡ Some e.actor.lane.0 =
    c.first_number.ensures e.actor.lane.0 b.more less (c.split_at-2.ensures.back ∙ b.digits) in
    let told : c.side_of.result ≡ Some c.in_ok-side.side = c.in_ok-side.was in
    let counted : c.first_number.result ≡ Some c.in_ok-first_number.field-0 = c.in_ok-first_number.was in
    same-actor c.in_ok-side.side e.actor (same_Some c.in_ok-side.side e.actor.side (sym told ∙ letter))
    c.in_ok-first_number.field-0 (same_Some c.in_ok-first_number.field-0 e.actor.lane.0 (sym counted ∙ number))
  where
    same-actor : (d : Side) (a : Actor) → d ≡ a.side → (i : ℕ) → i ≡ a.lane.0
        → ◌≡◌ {A = Option Actor} (Some (record { lane = record { 0 = i }; side = d })) (Some a)
    same-actor d a sides i lanes =
        ap (λ x. Some (record { lane = record { 0 = i }; side = x })) sides
        ∙ ap (λ l. Some (record { lane = record { 0 = l }; side = a.side })) lanes
