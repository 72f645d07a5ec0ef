use Rattle.std.proofs.Common.{◌≡◌, [], ◌∷◌, ◌++◌, vec_capacity, refl, subst, arith}
use Rattle.busdma_machine.specs.declared.bounce.hold.HubCall.TheVariants.{TakeCallback}
use Rattle.busdma_machine.specs.declared.bounce.hold.HubReply.TheVariants.{Called}
use Rattle.busdma_machine.specs.Bounce.Door.{HoldsAtDoor}
use Rattle.busdma_machine.specs.Bounce.History.{account_of}
use Rattle.bounce_hub.specs.Pools.{Stepped}
use Rattle.bounce_hub.specs.Seen.{IsKept, opening_of, door}
use Rattle.bounce_hub.proofs.Keeping.{own, may-inside, allowed-of, stepped-of, kept-push, holds-own}
use Rattle.bounce_hub.proofs.hub.HubHubDoor.take_callback.Goals as goal

pub take_callback-requires : goal.take_callback-requires
take_callback-requires c =
    allowed-of c.args.self.now (opening_of c.self.inside.first.value) c.self.inside.history.items c.self.inside.pool
    (vec_capacity c.self.inside.history) c.args.lane.0 TakeCallback (omega (arith, c.self.inside.history.ok))
    c.self.view_is c.requires c.self.invariant

stepped : (c : goal.After-push_reserved) →
    Stepped c.self.inside.pool c.args.lane.0 TakeCallback (Called c.in_ok-called.called.map c.in_ok-called.pages)
    (account_of (opening_of c.self.inside.first.value) c.self.inside.history.items) c.take_callback.new.self
stepped c =
    stepped-of c.args.self.now (opening_of c.self.inside.first.value) c.self.inside.history.items c.self.inside.pool
    c.take_callback.new.self (vec_capacity c.self.inside.history) c.args.lane.0 TakeCallback
    (Called c.in_ok-called.called.map c.in_ok-called.pages) (omega (arith, c.self.inside.history.ok))
    c.self.view_is c.requires c.self.invariant c.in_ok-called.ensures.steps

grows : (c : goal.After-push_reserved) → c.push_reserved.new.self.items ≡ c.self.inside.history.items
    ++ own c.args.lane.0 TakeCallback (Called c.in_ok-called.called.map c.in_ok-called.pages) ∷ []
grows c = c.push_reserved.ensures.items

later : (c : goal.After-push_reserved) → IsKept (opening_of c.self.inside.first.value) c.push_reserved.new.self.items
    c.take_callback.new.self (vec_capacity c.push_reserved.new.self)
later c =
    kept-push (opening_of c.self.inside.first.value) c.self.inside.history.items c.push_reserved.new.self.items
    c.self.inside.pool c.take_callback.new.self (vec_capacity c.self.inside.history)
    (vec_capacity c.push_reserved.new.self) c.args.lane.0 TakeCallback
    (Called c.in_ok-called.called.map c.in_ok-called.pages)
    c.self.invariant (may-inside c.args.self.now (opening_of c.self.inside.first.value) c.self.inside.history.items
    c.args.lane.0 TakeCallback c.self.view_is c.requires) refl (stepped c) (grows c)
    (omega (arith, c.push_reserved.ensures.capacity, c.self.invariant.room, c.in_ok-called.ensures.owed))

pub invariant_of-self-2 : goal.invariant_of-self-2
invariant_of-self-2 c = later c

pub returns-clause-held : goal.returns-clause-held
returns-clause-held c =
    subst (λ ps. HoldsAtDoor (door c.args.self.now) c.args.lane.0 TakeCallback (Called c.in_ok-called.called.map ps)
    (door (record { opening = opening_of c.self.inside.first.value; history = c.push_reserved.new.self.items })))
    c.in_ok-called.ensures.pages
    (holds-own c.args.self.now (opening_of c.self.inside.first.value) c.self.inside.history.items
    c.push_reserved.new.self.items c.self.inside.pool c.take_callback.new.self (vec_capacity c.self.inside.history)
    (vec_capacity c.push_reserved.new.self) c.args.lane.0 TakeCallback
    (Called c.in_ok-called.called.map c.in_ok-called.pages) c.self.view_is
    c.self.invariant (stepped c) (grows c) (later c))
