use Rattle.std.proofs.Common.{◌≡◌, vec_capacity, refl, sym, subst, arith}
use Rattle.busdma_machine.specs.declared.bounce.hold.HubCall.TheVariants.{MemFree}
use Rattle.busdma_machine.specs.declared.bounce.hold.HubReply.TheVariants.{Nothing}
use Rattle.busdma_machine.specs.Bounce.Account.{Account}
use Rattle.busdma_machine.specs.Bounce.History.{account_of}
use Rattle.busdma_machine.specs.Bounce.MemoryRuns.{frames_of}
use Rattle.busdma_machine.specs.Machine.PageList.{page_addresses}
use Rattle.bounce_hub.specs.Pools.{Stepped}
use Rattle.bounce_hub.specs.Seen.{HubSeen, IsKept, opening_of}
use Rattle.bounce_hub.proofs.Keeping.{fits-of, may-inside, kept-push, holds-own}
use Rattle.bounce_hub.proofs.hub.HubHubDoor.mem_free.Goals as goal

pub free_memory-requires : goal.free_memory-requires
free_memory-requires c =
    let a : Account = account_of (opening_of c.self.inside.first.value) c.self.inside.history.items in
    record {
      account = a;
      agrees = c.self.invariant.agrees;
      fits =
          fits-of (opening_of c.self.inside.first.value) c.self.inside.history.items c.self.inside.pool
          (vec_capacity c.self.inside.history) (omega (arith, c.self.inside.history.ok)) c.self.invariant;
      may =
          may-inside c.args.self.now (opening_of c.self.inside.first.value) c.self.inside.history.items
          c.args.mem.lane.0 (MemFree c.args.mem) c.self.view_is c.requires.allowed;
      frames =
          subst (λ (h : HubSeen). page_addresses c.args.pages.items
          ≡ frames_of c.args.mem (account_of h.opening h.history).mems) (sym c.self.view_is) c.requires.pages;
    }

stepped : (c : goal.After-push_reserved) →
    Stepped c.self.inside.pool c.args.mem.lane.0 (MemFree c.args.mem) Nothing
    (account_of (opening_of c.self.inside.first.value) c.self.inside.history.items) c.free_memory.new.self
stepped c =
    c.free_memory.ensures.steps (account_of (opening_of c.self.inside.first.value) c.self.inside.history.items)
    c.self.invariant.agrees
    (fits-of (opening_of c.self.inside.first.value) c.self.inside.history.items c.self.inside.pool
    (vec_capacity c.self.inside.history) (omega (arith, c.self.inside.history.ok)) c.self.invariant)
    (may-inside c.args.self.now (opening_of c.self.inside.first.value) c.self.inside.history.items c.args.mem.lane.0
    (MemFree c.args.mem) c.self.view_is c.requires.allowed)
    (subst (λ (h : HubSeen). page_addresses c.args.pages.items
    ≡ frames_of c.args.mem (account_of h.opening h.history).mems) (sym c.self.view_is) c.requires.pages)

later : (c : goal.After-push_reserved) → IsKept (opening_of c.self.inside.first.value) c.push_reserved.new.self.items
    c.free_memory.new.self (vec_capacity c.push_reserved.new.self)
later c =
    kept-push (opening_of c.self.inside.first.value) c.self.inside.history.items c.push_reserved.new.self.items
    c.self.inside.pool c.free_memory.new.self (vec_capacity c.self.inside.history)
    (vec_capacity c.push_reserved.new.self) c.args.mem.lane.0 (MemFree c.args.mem) Nothing
    c.self.invariant (may-inside c.args.self.now (opening_of c.self.inside.first.value) c.self.inside.history.items
    c.args.mem.lane.0 (MemFree c.args.mem) c.self.view_is c.requires.allowed) refl
    (stepped c) c.push_reserved.ensures.items
    (omega (arith, c.push_reserved.ensures.capacity, c.self.invariant.room, c.free_memory.ensures.owed))

pub invariant_of-self : goal.invariant_of-self
invariant_of-self c = later c

pub returns-clause-held : goal.returns-clause-held
returns-clause-held c =
    holds-own c.args.self.now (opening_of c.self.inside.first.value) c.self.inside.history.items
    c.push_reserved.new.self.items c.self.inside.pool c.free_memory.new.self (vec_capacity c.self.inside.history)
    (vec_capacity c.push_reserved.new.self) c.args.mem.lane.0 (MemFree c.args.mem) Nothing c.self.view_is
    c.self.invariant (stepped c) c.push_reserved.ensures.items (later c)
