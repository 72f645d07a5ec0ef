use Rattle.std.proofs.Common.{◌≡◌, ℕ, ◌≤◌, ◌<◌, Bool, ltb, false, get_or, arith}
use Rattle.std.proofs.lemmas.Bool.{le-ltb}
use Rattle.run_set.specs.Counts.{count_of}
use Rattle.run_set.proofs.Counting.{none_until_start, next_is_above, none_next}
use Rattle.run_set.proofs.Lines.{counted_below, counted_above}
use Rattle.run_set.proofs.counts.first_above.Goals as goal

pub loop-at-preserved : goal.loop-at-preserved
loop-at-preserved c =
    let f : ℕ → Bool = λ a. ltb c.args.n (count_of c.args.starts.now.items c.args.ends.now.items a) in
    let next : c.loop-at.at < get_or c.args.starts.now.items c.count_to.result c.args.end =
    next_is_above c.args.starts.now.items c.count_to.result c.loop-at.at c.args.end c.loop-at-test.true
    (λ q. counted_above 0 c.args.starts.now.items c.loop-at.at c.count_to.result c.args.end c.requires.starts_climb
    (omega arith) q) in
    let here : count_of c.args.starts.now.items c.args.ends.now.items c.loop-at.at ≤ c.args.n = omega arith in
    let until : (n : ℕ) → c.loop-at.at ≤ n → n < get_or c.args.starts.now.items c.count_to.result c.args.end → f n
    ≡ false =
    λ n p q. le-ltb c.args.n (count_of c.args.starts.now.items c.args.ends.now.items n)
    (let x : count_of c.args.starts.now.items c.args.ends.now.items n ≤ count_of c.args.starts.now.items
    c.args.ends.now.items c.loop-at.at =
    none_until_start c.args.starts.now.items c.args.ends.now.items c.loop-at.at c.args.end c.count_to.result
    c.requires.starts_climb c.count_to.ensures.small c.count_to.ensures.is
    (λ k d a. counted_below 0 c.args.starts.now.items c.loop-at.at k d c.requires.starts_climb (omega arith)) n p q in
    omega arith) in
    rw c.number_or-at.ensures (omega arith, none_next f c.args.start c.loop-at.at _ c.loop-at.invariant.1 until)

pub loop-at-smaller : goal.loop-at-smaller
loop-at-smaller c =
    let next : c.loop-at.at < get_or c.args.starts.now.items c.count_to.result c.args.end =
    next_is_above c.args.starts.now.items c.count_to.result c.loop-at.at c.args.end c.loop-at-test.true
    (λ q. counted_above 0 c.args.starts.now.items c.loop-at.at c.count_to.result c.args.end c.requires.starts_climb
    (omega arith) q) in
    rw c.number_or-at.ensures (omega arith)
