use Rattle.std.proofs.Common.{◌^◌, ◌-◌, ◌≡◌, ◌<◌, ℕ, if◌then◌else◌, arith}
use Rattle.run_set.specs.Edges.{IsKept, Rises, member, is_inside_run}
use Rattle.run_set.proofs.Sets.{finite_edges_set, in_parts, members_edges_set, Parts, rises_edges_set}
use Rattle.run_set.proofs.run_set.RunSet.set_between.Goals as goal

-- the edges in three parts, below what lies above them and the end
parts : (c : goal.After-replace) → (top : ℕ) → c.args.end < top → Rises 0 top c.self.inside.edges.items →
    Parts c.self.inside.edges.items c.args.below c.args.to c.args.start c.args.end top
parts c top p r =
    let split = rw (← c.self.view_is) at c.requires.split in
    in_parts c.self.inside.edges.items c.args.below c.args.to c.args.start c.args.end top
    c.requires.some p r split.before split.from split.upto split.above split.small split.large

-- the edges stay below what lies above them and the end
within : (c : goal.After-replace) → (top : ℕ) → c.args.end < top → Rises 0 top c.self.inside.edges.items →
    Rises 0 top c.replace.new.self.items
within c top p r =
    let three = parts c top p r in
    let rises = rises_edges_set c.args.start c.args.end top c.args.below
    (c.args.to - c.args.below)
    c.args.is_in c.self.inside.edges.items (omega arith) (rw (← c.self.view_is) at c.requires.split.small) three.small
    three.before three.inside three.behind in
    rw (
      c.replace.ensures.items,
      c.differ.ensures,
      c.differ-2.ensures,
      c.differ-after.ensures,
      c.is_odd-before.ensures,
      c.is_odd.ensures,
    ) rises

-- the new edges rise, and their members are those that are wanted
done : (c : goal.After-replace) → IsKept c.replace.new.self.items
    × ((n : ℕ) → member c.replace.new.self.items n
    ≡ (if is_inside_run c.args.start c.args.end n then c.args.is_in else member c.self.inside.edges.items n))
done c =
    let three = parts c (2 ^ 64) (omega arith) c.self.invariant.rise in
    let members = members_edges_set c.args.start c.args.end (2 ^ 64) c.args.below
    (c.args.to - c.args.below)
    c.args.is_in c.self.inside.edges.items (omega arith) (rw (← c.self.view_is) at c.requires.split.small) three.small
    three.before three.inside three.behind in
    let finite = finite_edges_set c.args.start c.args.end (2 ^ 64) c.args.below
    (c.args.to - c.args.below)
    c.args.is_in c.self.inside.edges.items (omega arith) (rw (← c.self.view_is) at c.requires.split.small) three.small
    three.before three.inside three.behind c.self.invariant.rise (omega arith) c.self.invariant.finite in
    let rises = rises_edges_set c.args.start c.args.end (2 ^ 64) c.args.below
    (c.args.to - c.args.below)
    c.args.is_in c.self.inside.edges.items (omega arith) (rw (← c.self.view_is) at c.requires.split.small) three.small
    three.before three.inside three.behind in
    rw (
      c.replace.ensures.items,
      c.differ.ensures,
      c.differ-2.ensures,
      c.differ-after.ensures,
      c.is_odd-before.ensures,
      c.is_odd.ensures,
    ) (record { rise = rises; finite = finite }, members)

pub invariant_of-self : goal.invariant_of-self
invariant_of-self c = (done c).0

pub returns-clause-members : goal.returns-clause-members
returns-clause-members c = rw (← c.self.view_is) (done c).1

pub returns-clause-within : goal.returns-clause-within
returns-clause-within c = rw (← c.self.view_is) (within c)

pub returns-clause-kept : goal.returns-clause-kept
returns-clause-kept c = (done c).0
