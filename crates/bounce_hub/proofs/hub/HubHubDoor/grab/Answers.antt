use Rattle.std.proofs.Common.{◌≡◌, List, [], ◌∷◌, ◌++◌, vec_capacity, refl, ap, ◌∙◌, subst, arith}
use Rattle.busdma_machine.specs.declared.bounce.hold.HoldEntry.{HoldEntry}
use Rattle.busdma_machine.specs.declared.bounce.hold.HubCall.TheVariants.{Grab}
use Rattle.busdma_machine.specs.Bounce.Door.{HoldsAtDoor}
use Rattle.busdma_machine.specs.Bounce.History.{account_of}
use Rattle.bounce_hub.specs.Pools.{Stepped}
use Rattle.bounce_hub.specs.Seen.{IsKept, opening_of, door}
use Rattle.bounce_hub.proofs.Keeping.{own, may-inside, allowed-of, stepped-of, kept-push, holds-own}
use Rattle.bounce_hub.proofs.hub.HubHubDoor.grab.Goals as goal

pub grab-requires-clause-allowed : goal.grab-requires-clause-allowed
grab-requires-clause-allowed c =
    allowed-of c.args.self.now (opening_of c.self.inside.first.value) c.self.inside.history.items c.self.inside.pool
    (vec_capacity c.self.inside.history) c.args.map.lane.0 (Grab c.args.map c.args.zone c.args.need c.args.nowait)
    (omega (arith, c.self.inside.history.ok)) c.self.view_is c.requires c.self.invariant

stepped : (c : goal.After-push_reserved) →
    Stepped c.self.inside.pool c.args.map.lane.0 (Grab c.args.map c.args.zone c.args.need c.args.nowait)
    c.in_ok-grabbed.reply (account_of (opening_of c.self.inside.first.value) c.self.inside.history.items)
    c.grab.new.self
stepped c =
    stepped-of c.args.self.now (opening_of c.self.inside.first.value) c.self.inside.history.items c.self.inside.pool
    c.grab.new.self (vec_capacity c.self.inside.history) c.args.map.lane.0
    (Grab c.args.map c.args.zone c.args.need c.args.nowait) c.in_ok-grabbed.reply
    (omega (arith, c.self.inside.history.ok)) c.self.view_is c.requires
    c.self.invariant c.in_ok-grabbed.ensures.steps

grows : (c : goal.After-push_reserved) → c.push_reserved.new.self.items ≡ c.self.inside.history.items
    ++ own c.args.map.lane.0 (Grab c.args.map c.args.zone c.args.need c.args.nowait) c.in_ok-grabbed.reply ∷ []
grows c =
    c.push_reserved.ensures.items
    ∙ ap (λ (hs : List HoldEntry). hs ++ own c.args.map.lane.0 (Grab c.args.map c.args.zone c.args.need c.args.nowait)
    c.in_ok-grabbed.reply ∷ []) c.in_ok-reserve.ensures.items

later : (c : goal.After-push_reserved) → IsKept (opening_of c.self.inside.first.value) c.push_reserved.new.self.items
    c.grab.new.self (vec_capacity c.push_reserved.new.self)
later c =
    kept-push (opening_of c.self.inside.first.value) c.self.inside.history.items c.push_reserved.new.self.items
    c.self.inside.pool c.grab.new.self (vec_capacity c.self.inside.history) (vec_capacity c.push_reserved.new.self)
    c.args.map.lane.0 (Grab c.args.map c.args.zone c.args.need c.args.nowait) c.in_ok-grabbed.reply
    c.self.invariant (may-inside c.args.self.now (opening_of c.self.inside.first.value) c.self.inside.history.items
    c.args.map.lane.0 (Grab c.args.map c.args.zone c.args.need c.args.nowait) c.self.view_is c.requires) refl
    (stepped c) (grows c)
    (omega (
      arith,
      c.push_reserved.ensures.capacity,
      c.in_ok-reserve.ensures.ok,
      c.in_ok-reserve.ensures.len,
      c.self.inside.history.ok,
      c.in_ok-grabbed.ensures.owed,
    ))

pub invariant_of-self-2 : goal.invariant_of-self-2
invariant_of-self-2 c = later c

pub returns-clause-held : goal.returns-clause-held
returns-clause-held c =
    subst (λ r. HoldsAtDoor (door c.args.self.now) c.args.map.lane.0
    (Grab c.args.map c.args.zone c.args.need c.args.nowait)
    r (door (record { opening = opening_of c.self.inside.first.value; history = c.push_reserved.new.self.items })))
    c.in_ok-grabbed.ensures.reply
    (holds-own c.args.self.now (opening_of c.self.inside.first.value) c.self.inside.history.items
    c.push_reserved.new.self.items c.self.inside.pool c.grab.new.self (vec_capacity c.self.inside.history)
    (vec_capacity c.push_reserved.new.self) c.args.map.lane.0
    (Grab c.args.map c.args.zone c.args.need c.args.nowait) c.in_ok-grabbed.reply c.self.view_is
    c.self.invariant (stepped c) (grows c) (later c))
