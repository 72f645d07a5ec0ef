use Rattle.std.proofs.Common.{◌≡◌, [], ◌∷◌, ◌++◌, vec_capacity, refl, ap, ◌∙◌, arith}
use Rattle.busdma_machine.specs.declared.bounce.hold.HubCall.TheVariants.{Release}
use Rattle.busdma_machine.specs.declared.bounce.hold.HubReply.TheVariants.{Served}
use Rattle.busdma_machine.specs.Machine.PageList.{page_address}
use Rattle.busdma_machine.specs.Bounce.History.{account_of}
use Rattle.bounce_hub.specs.Pools.{Stepped}
use Rattle.bounce_hub.specs.Seen.{IsKept, opening_of}
use Rattle.bounce_hub.proofs.Keeping.{own, may-inside, allowed-of, stepped-of, kept-push, holds-own}
use Rattle.bounce_hub.proofs.hub.HubHubDoor.release.Goals as goal

pub release-moved-requires : goal.release-moved-requires
release-moved-requires c =
    allowed-of c.args.self.now (opening_of c.self.inside.first.value) c.self.inside.history.items c.self.inside.pool
    (vec_capacity c.self.inside.history) c.args.map.lane.0
    (Release c.args.map c.args.zone (record { 0 = page_address c.args.page }))
    (omega (arith, c.self.inside.history.ok)) c.self.view_is c.requires c.self.invariant

stepped : (c : goal.After-push_reserved) →
    Stepped c.self.inside.pool c.args.map.lane.0
    (Release c.args.map c.args.zone (record { 0 = page_address c.args.page })) (Served c.release-moved.result)
    (account_of (opening_of c.self.inside.first.value) c.self.inside.history.items) c.release-moved.new.self
stepped c =
    stepped-of c.args.self.now (opening_of c.self.inside.first.value) c.self.inside.history.items c.self.inside.pool
    c.release-moved.new.self (vec_capacity c.self.inside.history) c.args.map.lane.0
    (Release c.args.map c.args.zone (record { 0 = page_address c.args.page })) (Served c.release-moved.result)
    (omega (arith, c.self.inside.history.ok)) c.self.view_is c.requires
    c.self.invariant c.release-moved.ensures.steps

grows : (c : goal.After-push_reserved) → c.push_reserved.new.self.items ≡ c.self.inside.history.items
    ++ own c.args.map.lane.0 (Release c.args.map c.args.zone (record { 0 = page_address c.args.page }))
    (Served c.release-moved.result) ∷ []
grows c =
    c.push_reserved.ensures.items
    ∙ ap (λ p. c.self.inside.history.items
    ++ own c.args.map.lane.0 (Release c.args.map c.args.zone p) (Served c.release-moved.result) ∷ []) c.address.ensures

later : (c : goal.After-push_reserved) → IsKept (opening_of c.self.inside.first.value) c.push_reserved.new.self.items
    c.release-moved.new.self (vec_capacity c.push_reserved.new.self)
later c =
    kept-push (opening_of c.self.inside.first.value) c.self.inside.history.items c.push_reserved.new.self.items
    c.self.inside.pool c.release-moved.new.self (vec_capacity c.self.inside.history)
    (vec_capacity c.push_reserved.new.self) c.args.map.lane.0
    (Release c.args.map c.args.zone (record { 0 = page_address c.args.page })) (Served c.release-moved.result)
    c.self.invariant (may-inside c.args.self.now (opening_of c.self.inside.first.value) c.self.inside.history.items
    c.args.map.lane.0 (Release c.args.map c.args.zone (record { 0 = page_address c.args.page })) c.self.view_is
    c.requires) refl (stepped c) (grows c)
    (omega (arith, c.push_reserved.ensures.capacity, c.self.invariant.room, c.release-moved.ensures.owed))

pub invariant_of-self : goal.invariant_of-self
invariant_of-self c = later c

pub returns-clause-held : goal.returns-clause-held
returns-clause-held c =
    holds-own c.args.self.now (opening_of c.self.inside.first.value) c.self.inside.history.items
    c.push_reserved.new.self.items c.self.inside.pool c.release-moved.new.self (vec_capacity c.self.inside.history)
    (vec_capacity c.push_reserved.new.self) c.args.map.lane.0
    (Release c.args.map c.args.zone (record { 0 = page_address c.args.page })) (Served c.release-moved.result)
    c.self.view_is c.self.invariant (stepped c) (grows c) (later c)
