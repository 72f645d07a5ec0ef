use Rattle.std.proofs.Common.{rules, ◌≢◌, ◌∙◌, ap, arith, subst, ◌<◌, ◌+◌, ◌-◌, All}
use Rattle.turnstile.specs.Pass.{PassView, SplitsOff}
use Rattle.turnstile.specs.View.{pass_view, named_view}
use Rattle.turnstile.specs.Steps.{HeldStep as Held}
use Rattle.turnstile.proofs.PassSteps.{splits_keep, names_keep, backs_keep}
use Rattle.turnstile.proofs.Turn.{some_of}
use Rattle.turnstile.proofs.Passes.{named_pass_knows, cut_pass_knows, returned_pass_knows, sound_pass, splits_off}
use Rattle.turnstile.proofs.lock.Turnstile.split.Goals as goal

pub split_seat-seat-requires : goal.split_seat-seat-requires
split_seat-seat-requires g c =
    (search rules, omega (arith, c.self.invariant.0), splits_keep _ _ _ _ _ _ _ c.pass.invariant.0.2)

pub swap-found-requires : goal.swap-found-requires
swap-found-requires g c = let is = c.split_seat-seat.ensures.4 in let inv =
    c.self.invariant in let low : c.args.name < c.self.inside.names = search rules in (
      search rules,
      omega (arith, inv.0, low),
      names_keep _ _ _ _ _ _ _ _ _ (ap (λ m. m.0.named) is) (ap (λ m. m.0.turn) is) (omega (arith, inv.1, low)),
    )

pub join_seat-requires : goal.join_seat-requires
join_seat-requires g c = let made = c.split_seat-seat.ensures.4 in let after =
    c.swap-found.ensures.2.1 c.if-found-eq0.false in
    let kept = c.split_seat-seat.ensures.2 in (
      search rules,
      search rules,
      ap (λ m. m.1) after
          ∙ ap (λ m. m.1) made,
      search rules,
      backs_keep _ _ _ _ _ _ _ _ _ (ap (λ m. m.0.turn) kept ∙ c.pass.invariant.0.2) (ap (λ m. m.0.turn) after),
    )

pub invariant_of-result : goal.invariant_of-result
invariant_of-result g c = let t = g.H.TurnObject in let b =
    some_of c.pass.inside.seat.me.0.start c.pass.invariant.0.4 in let after =
    c.swap-found.ensures.2.0 (search rules) in
    named_pass_knows t.legal t.fits c.args.name ((c.args.name + 2) - 2) c.pass.inside.seat.me.0 b.0
    c.split_seat-seat.result.me _ (omega arith) b.1 c.split_seat-seat.ensures.4 after.0 after.3

pub invariant_of-pass : goal.invariant_of-pass
invariant_of-pass g c = let t = g.H.TurnObject in
    cut_pass_knows t.legal t.fits c.pass.inside.name c.pass.inside.seat.me c.split_seat-seat.new.seat.me
    c.split_seat-seat.ensures.2 c.pass.invariant

pub invariant_of-pass-2 : goal.invariant_of-pass-2
invariant_of-pass-2 g c = let t = g.H.TurnObject in
    returned_pass_knows t.legal t.fits c.pass.inside.name c.swap-found.new.seat.me.0
    c.split_seat-seat.new.seat.me _ c.join_seat.ensures.2
    (cut_pass_knows t.legal t.fits c.pass.inside.name c.pass.inside.seat.me c.split_seat-seat.new.seat.me
    c.split_seat-seat.ensures.2 c.pass.invariant)

pub returns-then-found-eq0-clause-new_sound : goal.returns-then-found-eq0-clause-new_sound
returns-then-found-eq0-clause-new_sound g c = let t = g.H.TurnObject in let known =
    invariant_of-result g c in sound_pass t.legal t.fits _ _ known.0.0 known.1

pub returns-then-found-eq0-clause-sound : goal.returns-then-found-eq0-clause-sound
returns-then-found-eq0-clause-sound g c = let t = g.H.TurnObject in let known =
    invariant_of-pass g c in sound_pass t.legal t.fits _ _ known.0.0 known.1

pub returns-clause-sound : goal.returns-clause-sound
returns-clause-sound g c = let t = g.H.TurnObject in let known =
    invariant_of-pass-2 g c in sound_pass t.legal t.fits _ _ known.0.0 known.1

pub returns-then-found-eq0-clause-new : goal.returns-then-found-eq0-clause-new
returns-then-found-eq0-clause-new g c = let t = g.H.TurnObject in let v = c.pass.inside.seat.me.0 in let n =
    c.args.name in let k = (n + 2) - 2 in let start =
    some_of v.start c.pass.invariant.0.4 in let made = c.split_seat-seat.ensures.4 in
    let after = c.swap-found.ensures.2.0 c.if-found-eq0.true in
    subst (λ (z : PassView g.row.H-Entry.Denot g.row.H-Fixed.Denot). SplitsOff n z
    (pass_view c.swap-found.new.seat.table_id c.swap-found.new.seat.me.0)) c.pass.view_is
    (splits_off t.legal t.fits c.pass.inside.seat.table_id c.swap-found.new.seat.table_id n k v
    c.swap-found.new.seat.me.0 start.0 (search rules) (omega arith) c.pass.invariant.0.0
    (ap (λ m. m.0) after.0 ∙ ap (λ m. named_view k m.0) made)
    (subst (λ (m : Held g.row.H.Denot g.row.H-Entry.Denot g.row.H-Fixed.Denot). All (λ m. m ≢ k) m.0.taken) made
    after.2) (after.3 start.0 (ap (λ m. m.0.start) made ∙ start.1)))
