use Rattle.std.proofs.Common.{rules, ◌≡◌, ◌+◌, ◌∷◌, ◌∙◌, [], ap, sym, subst, arith, List, ℕ, set, replicate}
use Rattle.atomic_table.specs.Table.{opening}
use Rattle.turnstile.specs.Rule.{IsRuled}
use Rattle.turnstile.specs.View.{first_view}
use Rattle.turnstile.specs.Key.{start_for}
use Rattle.turnstile.proofs.PassSteps.{opens, first_words}
use Rattle.turnstile.proofs.Passes.{first_pass_knows, first_sound}
use Rattle.turnstile.proofs.lock.Turnstile.new.Goals as goal

pub new-requires : goal.new-requires
new-requires g c = let t = g.H.TurnObject in let b =
    start_for t.history t.fixed (record { names = c.args.names; object = c.of.result }) in
    let w = first_words c.args.names c.requires.names in
    let words : c.as_slice.result.now ≡ set (replicate (c.args.names + 2) 0) 2 1 = search rules in
    let slots : c.push_reserved.new.self.items ≡ c.args.object ∷ [] = search rules in
    let same : c.of.result.value ≡ c.args.object = search rules in
    subst (λ (z : List ℕ × List g.row.H.Denot). IsRuled t.history t.fixed t.legal t.fits b
    (opening z.0 z.1 (first_view b))) (λ i. (sym (words ∙ w.1) i, sym slots i))
    (opens t.history t.fixed t.legal t.fits b c.args.object w.0 w.2 w.3 (omega (arith, c.requires.names))
    (ap t.fixed (sym same)) (ap t.history (sym same))
    (subst (λ x. t.legal (t.fixed x) (t.history x)) (sym same) c.requires.legal))

pub invariant_of-result-in-Ok : goal.invariant_of-result-in-Ok
invariant_of-result-in-Ok g c = let t = g.H.TurnObject in let b =
    start_for t.history t.fixed (record { names = c.args.names; object = c.of.result }) in
    let same : c.of.result.value ≡ c.args.object = search rules in
    first_pass_knows t.legal t.fits b c.in-Ok.seat.me (search rules) (omega (arith, c.requires.names))
    (subst (λ x. t.legal (t.fixed x) (t.history x)) (sym same) c.requires.legal)

pub returns-in-Ok-clause-sound : goal.returns-in-Ok-clause-sound
returns-in-Ok-clause-sound g c = let t = g.H.TurnObject in let b =
    start_for t.history t.fixed (record { names = c.args.names; object = c.of.result }) in
    let same : c.of.result.value ≡ c.args.object = search rules in
    first_sound t.legal t.fits _ b c.in-Ok.seat.me (search rules) (omega (arith, c.requires.names))
    (subst (λ x. t.legal (t.fixed x) (t.history x)) (sym same) c.requires.legal)
