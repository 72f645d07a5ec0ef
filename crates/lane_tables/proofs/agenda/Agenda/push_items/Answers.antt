use Rattle.std.proofs.Common.{◌≡◌, ◌+◌, ◌≤◌, ◌<◌, ◌^◌, ◌++◌, ap, length, refl, arith, length-append}
use Rattle.busdma_base.specs.Scenarios.Queues.{queued_items}
use Rattle.lane_tables.proofs.QueueLemmas.{length-queued_from}
use Rattle.lane_tables.proofs.agenda.Agenda.push_items.Goals as goal

pub invariant_of-self : goal.invariant_of-self
invariant_of-self c =
    let room = ap (λ a. a.room) c.self.view_is in
    let long : length c.push_all.new.queue.items ≡ length c.self.inside.queue.items + length c.args.items =
    omega (
      arith,
      ap length c.push_all.ensures.items,
      length-append c.self.inside.queue.items (queued_items c.args.load_at c.args.items),
      length-queued_from c.args.load_at 0 c.args.items,
    ) in
    record {
      in_script = c.self.invariant.in_script;
      few = omega (arith, c.len.ensures, c.requires, room, c.self.invariant.few, long);
      fits = omega (arith, c.len.ensures, c.requires, room, c.self.invariant.fits, long, c.push_all.ensures.capacity);
      reserved = c.self.invariant.reserved;
    }

pub returns : goal.returns
returns c = rw (← c.self.view_is, c.push_all.ensures.items, c.len.ensures) refl
