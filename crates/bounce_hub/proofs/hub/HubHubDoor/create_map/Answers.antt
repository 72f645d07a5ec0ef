use Rattle.std.proofs.Common.{◌≡◌, List, [], ◌∷◌, ◌++◌, vec_capacity, refl, ap, ◌∙◌, arith}
use Rattle.busdma_machine.specs.declared.bounce.hold.HoldEntry.{HoldEntry}
use Rattle.busdma_machine.specs.declared.bounce.hold.HubCall.TheVariants.{CreateMap}
use Rattle.busdma_machine.specs.declared.bounce.hold.HubReply.TheVariants.{Grown}
use Rattle.busdma_machine.specs.Bounce.History.{account_of}
use Rattle.bounce_hub.specs.Pools.{Stepped}
use Rattle.bounce_hub.specs.Seen.{IsKept, opening_of}
use Rattle.bounce_hub.proofs.Keeping.{own, may-inside, allowed-of, stepped-of, kept-push, holds-own}
use Rattle.bounce_hub.proofs.hub.HubHubDoor.create_map.Goals as goal

pub create-requires-clause-allowed : goal.create-requires-clause-allowed
create-requires-clause-allowed c =
    allowed-of c.args.self.now (opening_of c.self.inside.first.value) c.self.inside.history.items c.self.inside.pool
    (vec_capacity c.self.inside.history) c.args.map.lane.0 (CreateMap c.args.map c.args.tag.now c.args.first_done)
    (omega (arith, c.self.inside.history.ok)) c.self.view_is c.requires c.self.invariant

stepped : (c : goal.After-push_reserved) →
    Stepped c.self.inside.pool c.args.map.lane.0 (CreateMap c.args.map c.args.tag.now c.args.first_done)
    (Grown c.in_ok-grown.grown) (account_of (opening_of c.self.inside.first.value) c.self.inside.history.items)
    c.create.new.self
stepped c =
    stepped-of c.args.self.now (opening_of c.self.inside.first.value) c.self.inside.history.items c.self.inside.pool
    c.create.new.self (vec_capacity c.self.inside.history) c.args.map.lane.0
    (CreateMap c.args.map c.args.tag.now c.args.first_done) (Grown c.in_ok-grown.grown)
    (omega (arith, c.self.inside.history.ok)) c.self.view_is c.requires
    c.self.invariant c.in_ok-grown.ensures.steps

grows : (c : goal.After-push_reserved) → c.push_reserved.new.self.items ≡ c.self.inside.history.items
    ++ own c.args.map.lane.0 (CreateMap c.args.map c.args.tag.now c.args.first_done) (Grown c.in_ok-grown.grown) ∷ []
grows c =
    c.push_reserved.ensures.items
    ∙ ap (λ (hs : List HoldEntry). hs ++ own c.args.map.lane.0 (CreateMap c.args.map c.args.tag.now c.args.first_done)
    (Grown c.in_ok-grown.grown) ∷ []) c.in_ok-reserve.ensures.items

later : (c : goal.After-push_reserved) → IsKept (opening_of c.self.inside.first.value) c.push_reserved.new.self.items
    c.create.new.self (vec_capacity c.push_reserved.new.self)
later c =
    kept-push (opening_of c.self.inside.first.value) c.self.inside.history.items c.push_reserved.new.self.items
    c.self.inside.pool c.create.new.self (vec_capacity c.self.inside.history)
    (vec_capacity c.push_reserved.new.self) c.args.map.lane.0
    (CreateMap c.args.map c.args.tag.now c.args.first_done) (Grown c.in_ok-grown.grown)
    c.self.invariant (may-inside c.args.self.now (opening_of c.self.inside.first.value) c.self.inside.history.items
    c.args.map.lane.0 (CreateMap c.args.map c.args.tag.now c.args.first_done) c.self.view_is c.requires) refl
    (stepped c) (grows c)
    (omega (
      arith,
      c.push_reserved.ensures.capacity,
      c.in_ok-reserve.ensures.ok,
      c.in_ok-reserve.ensures.len,
      c.self.inside.history.ok,
      c.in_ok-grown.ensures.owed,
    ))

pub invariant_of-self-2 : goal.invariant_of-self-2
invariant_of-self-2 c = later c

pub returns-clause-held : goal.returns-clause-held
returns-clause-held c =
    holds-own c.args.self.now (opening_of c.self.inside.first.value) c.self.inside.history.items
    c.push_reserved.new.self.items c.self.inside.pool c.create.new.self (vec_capacity c.self.inside.history)
    (vec_capacity c.push_reserved.new.self) c.args.map.lane.0
    (CreateMap c.args.map c.args.tag.now c.args.first_done) (Grown c.in_ok-grown.grown) c.self.view_is
    c.self.invariant (stepped c) (grows c) (later c)
