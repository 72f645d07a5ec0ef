use Rattle.std.proofs.Common.{◌≡◌, ℕ, List, length, arith, ap, ◌∙◌}
use Rattle.std.specs.List.{sum_by}
use Rattle.std.proofs.lemmas.Grind.{common_steps}
use Rattle.busdma_machine.specs.declared.bounce.zone.Waiter.{Waiter}
use Rattle.busdma_machine.specs.Bounce.Serving.{completed, left_waiting, promised}
use Rattle.bounce_hub.specs.HubZones.{room_after}
use Rattle.bounce_hub.proofs.Promises.{promised-sum, completed-le}
use Rattle.bounce_hub.proofs.hub_zone.HubZone.take_back.Goals as goal

pub overflow_add-self : goal.overflow_add-self
overflow_add-self c =
    let moved : c.from.result ≡ length (completed c.free-free.result c.args.self.now.wait) =
    c.from.ensures ∙ c.serve-served.ensures.moved in
    omega (arith, c.requires.few, moved, completed-le c.free-free.result c.args.self.now.wait)

pub returns-clause-zone : goal.returns-clause-zone
returns-clause-zone c =
    let ws : List Waiter = c.args.self.now.wait in
    let room : ℕ = room_after c.args.self.now in
    let is : c.free-free.result ≡ room = c.free-free.ensures ∙ (rw c.put_back.ensures (omega arith)) in
    let left : sum_by (λ (w : Waiter). w.have) c.serve-served.new.self
    ≡ sum_by (λ (w : Waiter). w.have) (left_waiting c.free-free.result ws) =
    ap (sum_by (λ (w : Waiter). w.have)) c.serve-served.ensures.waits in
    let taken : c.serve-served.result.taken ≡ promised c.free-free.result ws =
    omega (arith, c.serve-served.ensures.taken, left, promised-sum c.free-free.result ws c.requires.lacks) in
    let waits : c.serve-served.result.taken ≡ promised room ws = taken ∙ ap (λ k. promised k ws) is in
    let got : c.reserve-reserved.result ≡ promised room ws =
    omega (arith, waits, c.serve-served.ensures.within, c.reserve-reserved.ensures.got, c.free-free.ensures) in
    let moved : c.from.result ≡ length (completed room ws) =
    c.from.ensures ∙ c.serve-served.ensures.moved ∙ ap (λ k. length (completed k ws)) is in
    grind (
      arith,
      common_steps,
      got,
      is,
      moved,
      c.put_back.ensures,
      c.reserve-reserved.ensures.zone,
      c.serve-served.ensures.waits,
    )
