use Rattle.std.proofs.Common.{sym, ◌∙◌}
use Rattle.lane_state.specs.Ideal.{ideal_of}
use Rattle.lane_core.proofs.AppendingLaws.{ideal-after, ideal-kept, lane-after, ready-for, same-wire}
use Rattle.lane_core.proofs.lane.Lane.append.Goals as goal

pub append-requires-clause-place : goal.append-requires-clause-place
append-requires-clause-place c =
    let l = c.args.self.now in
    (ready-for (ideal_of l.holdings) c.requires.ready).ended ∙ sym l.length

pub invariant_of-self : goal.invariant_of-self
invariant_of-self c =
    let l = c.args.self.now in
    let r = c.append.ensures in
    let k = lane-after l.holdings c.append.new.holdings r.kept c.args.op.now c.requires c.append.result r.ok r.err
    (record { wired = l.wired; stands = l.stands; small = l.small; length = l.length; room = l.room }) r.length r.room
    r.room_err in
    record { wired = k.wired; stands = k.stands; small = k.small; length = k.length; room = k.room }

pub returns-clause-ok : goal.returns-clause-ok
returns-clause-ok c =
    let r = c.append.ensures in
    ideal-after c.args.self.now.holdings c.append.new.holdings r.kept c.args.op.now c.requires c.append.result r.ok

pub returns-clause-err : goal.returns-clause-err
returns-clause-err c =
    let r = c.append.ensures in
    ideal-kept c.args.self.now.holdings c.append.new.holdings r.kept c.args.op.now c.requires c.append.result r.err

pub returns-clause-wire : goal.returns-clause-wire
returns-clause-wire c = same-wire c.args.self.now.holdings c.append.new.holdings c.append.ensures.kept

pub returns-clause-promised : goal.returns-clause-promised
returns-clause-promised c = c.append.ensures.kept.promised
