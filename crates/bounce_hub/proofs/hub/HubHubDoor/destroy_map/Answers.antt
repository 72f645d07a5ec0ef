use Rattle.std.proofs.Common.{◌≡◌, [], ◌∷◌, ◌++◌, vec_capacity, refl, arith}
use Rattle.busdma_machine.specs.declared.bounce.hold.HubCall.TheVariants.{DestroyMap}
use Rattle.busdma_machine.specs.declared.bounce.hold.HubReply.TheVariants.{Nothing}
use Rattle.busdma_machine.specs.Bounce.History.{account_of}
use Rattle.bounce_hub.specs.Pools.{Stepped}
use Rattle.bounce_hub.specs.Seen.{IsKept, opening_of}
use Rattle.bounce_hub.proofs.Keeping.{own, may-inside, allowed-of, stepped-of, kept-push, holds-own}
use Rattle.bounce_hub.proofs.hub.HubHubDoor.destroy_map.Goals as goal

pub destroy-requires : goal.destroy-requires
destroy-requires c =
    allowed-of c.args.self.now (opening_of c.self.inside.first.value) c.self.inside.history.items c.self.inside.pool
    (vec_capacity c.self.inside.history) c.args.map.lane.0 (DestroyMap c.args.map c.args.zone)
    (omega (arith, c.self.inside.history.ok)) c.self.view_is c.requires c.self.invariant

stepped : (c : goal.After-push_reserved) →
    Stepped c.self.inside.pool c.args.map.lane.0 (DestroyMap c.args.map c.args.zone) Nothing
    (account_of (opening_of c.self.inside.first.value) c.self.inside.history.items) c.destroy.new.self
stepped c =
    stepped-of c.args.self.now (opening_of c.self.inside.first.value) c.self.inside.history.items c.self.inside.pool
    c.destroy.new.self (vec_capacity c.self.inside.history) c.args.map.lane.0 (DestroyMap c.args.map c.args.zone)
    Nothing (omega (arith, c.self.inside.history.ok)) c.self.view_is c.requires
    c.self.invariant c.destroy.ensures.steps

grows : (c : goal.After-push_reserved) → c.push_reserved.new.self.items ≡ c.self.inside.history.items
    ++ own c.args.map.lane.0 (DestroyMap c.args.map c.args.zone) Nothing ∷ []
grows c = c.push_reserved.ensures.items

later : (c : goal.After-push_reserved) → IsKept (opening_of c.self.inside.first.value) c.push_reserved.new.self.items
    c.destroy.new.self (vec_capacity c.push_reserved.new.self)
later c =
    kept-push (opening_of c.self.inside.first.value) c.self.inside.history.items c.push_reserved.new.self.items
    c.self.inside.pool c.destroy.new.self (vec_capacity c.self.inside.history)
    (vec_capacity c.push_reserved.new.self) c.args.map.lane.0 (DestroyMap c.args.map c.args.zone) Nothing
    c.self.invariant (may-inside c.args.self.now (opening_of c.self.inside.first.value) c.self.inside.history.items
    c.args.map.lane.0 (DestroyMap c.args.map c.args.zone) c.self.view_is c.requires) refl (stepped c) (grows c)
    (omega (arith, c.push_reserved.ensures.capacity, c.self.invariant.room, c.destroy.ensures.owed))

pub invariant_of-self : goal.invariant_of-self
invariant_of-self c = later c

pub returns-clause-held : goal.returns-clause-held
returns-clause-held c =
    holds-own c.args.self.now (opening_of c.self.inside.first.value) c.self.inside.history.items
    c.push_reserved.new.self.items c.self.inside.pool c.destroy.new.self (vec_capacity c.self.inside.history)
    (vec_capacity c.push_reserved.new.self) c.args.map.lane.0 (DestroyMap c.args.map c.args.zone) Nothing
    c.self.view_is c.self.invariant (stepped c) (grows c) (later c)
