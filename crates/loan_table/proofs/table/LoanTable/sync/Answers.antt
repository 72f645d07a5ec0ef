use Rattle.std.proofs.Common.{◌+◌, ◌≤◌, length, false, sym, subst, ◌∙◌, arith}
use Rattle.loan_table.specs.Kept.{AreLow}
use Rattle.busdma_rules.specs.Lending.SyncEffects.{lost}
use Rattle.busdma_rules.specs.Lending.Loans.{loan_of}
use Rattle.loan_table.specs.Trees.{opened}
use Rattle.loan_table.proofs.Addresses.{AreIn-set_all, AreLow-set_all}
use Rattle.busdma_rules.proofs.Lending.Marking.{addresses_of-synced}
use Rattle.loan_table.proofs.MarkLaws.{AreIn-lost}
use Rattle.loan_table.proofs.Rooms.{count_bound, needs_spare, used_bytes, count_room_used}
use Rattle.loan_table.proofs.table.LoanTable.sync.Goals as goal

pub lose-requires-clause-room : goal.lose-requires-clause-room
lose-requires-clause-room c =
    let ps = (loan_of (opened c.self.inside.loans) c.args.map.made_at).positions in
    let range : c.args.off + c.args.len ≤ length ps = rw (← c.self.view_is) at c.requires.range in
    let all : length ps ≤ c.self.inside.positions =
    rw c.self.invariant.counted at (count_bound c.self.inside.loans.entries c.args.map.made_at) in
    omega (arith, range, all, c.self.invariant.room.forgets)

pub count-requires-clause-room : goal.count-requires-clause-room
count-requires-clause-room c way =
    let ps = (loan_of (opened c.self.inside.loans) c.args.map.made_at).positions in
    let range : c.args.off + c.args.len ≤ length ps = rw (← c.self.view_is) at c.requires.range in
    let all : length ps ≤ c.self.inside.positions =
    rw c.self.invariant.counted at (count_bound c.self.inside.loans.entries c.args.map.made_at) in
    omega (arith, range, all, c.self.invariant.count_room.forgets way)

pub invariant_of-self : goal.invariant_of-self
invariant_of-self c =
    let loans = opened c.self.inside.loans in
    let map = c.args.map.made_at in
    let gone = lost loans map c.args.off c.args.len c.args.ops.0 in
    let ps = (loan_of loans map).positions in
    let range : c.args.off + c.args.len ≤ length ps = rw (← c.self.view_is) at c.requires.range in
    let all : length ps ≤ c.self.inside.positions =
    rw c.self.invariant.counted at (count_bound c.self.inside.loans.entries map) in
    record {
      ordered = c.mark.ensures.ordered;
      inside =
          λ m. rw (
            c.lose.ensures.bytes,
            c.mark.ensures.marks,
            addresses_of-synced loans map c.args.off c.args.len c.args.ops.0 m,
          )
          (AreIn-set_all _ gone false _ (c.self.invariant.inside m));
      prepared =
          λ m. rw (c.lose.ensures.bytes, c.mark.ensures.prepared)
          (AreIn-set_all _ gone false _ (c.self.invariant.prepared m));
      low =
          subst AreLow (sym c.lose.ensures.bytes)
          (AreLow-set_all _ gone false (AreIn-lost _ loans map c.args.off c.args.len c.args.ops.0
          (c.self.invariant.inside map)) c.self.invariant.low);
      counted = c.mark.ensures.count ∙ c.self.invariant.counted;
      room =
          used_bytes c.self.inside.bytes c.lose.new.bytes c.self.inside.positions c.self.inside.spare c.args.len
          c.spare_after-self-inside.result c.self.invariant.room (omega (arith, range, all))
          (needs_spare c.args.off c.args.len c.self.inside.spare ps range (rw (← c.self.view_is) at c.requires.room))
          c.lose.ensures.room c.spare_after-self-inside.ensures.small
          c.spare_after-self-inside.ensures.some c.lose.ensures.there_room;
      lent_counted = rw c.mark.ensures.marks c.count.ensures.counted;
      idle = λ m. rw c.mark.ensures.prepared (c.self.invariant.idle m);
      count_room = count_room_used c.self.inside.lent c.count.new.lent c.self.inside.positions c.self.inside.spare
          c.args.len c.spare_after-self-inside.result c.self.invariant.count_room (omega (arith, range, all))
          (needs_spare c.args.off c.args.len c.self.inside.spare ps range (rw (← c.self.view_is) at c.requires.room))
          c.count.ensures.room c.spare_after-self-inside.ensures.small c.spare_after-self-inside.ensures.some;
    }

pub returns-in-Fine-clause-there : goal.returns-in-Fine-clause-there
returns-in-Fine-clause-there c =
    rw (← c.self.view_is) (AreIn-lost _ (opened c.self.inside.loans) c.args.map.made_at c.args.off c.args.len
    c.args.ops.0 (c.self.invariant.inside c.args.map.made_at))

pub returns-in_default-clause-there : goal.returns-in_default-clause-there
returns-in_default-clause-there c =
    rw (← c.self.view_is) (AreIn-lost _ (opened c.self.inside.loans) c.args.map.made_at c.args.off c.args.len
    c.args.ops.0 (c.self.invariant.inside c.args.map.made_at))
