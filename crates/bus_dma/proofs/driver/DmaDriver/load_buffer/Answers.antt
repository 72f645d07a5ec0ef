use Rattle.std.proofs.Common.{◌≡◌, ◌∙◌, [], Ok, Some, ap, if◌then◌else◌, rules, subst, sym, true}
use Rattle.busdma_base.specs.declared.scenarios.script.Op.{Op}
use Rattle.busdma_base.specs.declared.scenarios.script.Op.TheVariants.{Load}
use Rattle.ideal_lane.specs.Turns.{load_buffer}
use Rattle.lane_core.specs.Appending.{with_next}
use Rattle.bus_dma.specs.declared.failure.DmaError.TheVariants.{TooLarge}
use Rattle.bus_dma.specs.Answers.{IsAnswer, IsLoadAnswer, IsLoadResult}
use Rattle.bus_dma.specs.Calls.{IsCallAndReturn}
use Rattle.bus_dma.specs.State.{hindrance, is_small, load_hindrance, state}
use Rattle.bus_dma.proofs.AnswerLaws.{answer-by, load-answers}
use Rattle.bus_dma.proofs.CallLaws.{call-answer, call-renamed, return-answered}
use Rattle.bus_dma.proofs.driver.DmaDriver.load_buffer.Goals as goal

pub loaded-requires : goal.loaded-requires
loaded-requires g c =
    let l = state c.args.self.now in
    let m = c.id.result.made_at in
    let items = c.new-2.result in
    let o : Op = Load m c.args.buffer c.args.flags.0 items in
    let next = with_next o l in
    call-answer o (g.D.HubDoor.seen c.args.door.now) l (state c.call.new.self) (g.D.HubDoor.seen c.call.new.door)
    IsLoadAnswer
    (answer-by next IsLoadAnswer (load_buffer m c.args.buffer c.args.flags.0 items next)
    (load-answers next m c.args.buffer c.args.flags.0 items)) (hindrance (Some c.id-2.result) l) c.in_ok-answer.answer
    c.in_ok-answer.ensures.call

pub returns-clause-call : goal.returns-clause-call
returns-clause-call g c =
    let l = state c.args.self.now in
    let d = g.D.HubDoor.seen c.args.door.now in
    let n = state c.call.new.self in
    let e = g.D.HubDoor.seen c.call.new.door in
    let m = state c.give_back.new.self in
    let f = g.D.HubDoor.seen c.give_back.new.door in
    let map = c.args.map in
    let x = c.args.buffer in
    let none = c.new-2.ensures ∙ c.new.ensures.items in
    let small : is_small c.args.bytes c.args.self.now ≡ true = search rules in
    let free : load_hindrance (Some map) c.args.bytes c.args.self.now ≡ hindrance (Some map) l =
    ap (λ b. if b then hindrance (Some map) l else Some TooLarge) small in
    let same : Load c.id.result.made_at x c.args.flags.0 c.new-2.result ≡ Load map.made_at x c.args.flags.0 [] =
    (λ i. Load (c.id.ensures i).made_at x c.args.flags.0 (none i)) in
    let call = call-renamed IsAnswer d l n e (Ok c.in_ok-answer.answer) (ap (λ q. hindrance (Some q) l) c.id-2.ensures) same
    c.in_ok-answer.ensures.call in
    subst (λ h. IsCallAndReturn h IsLoadResult (Load map.made_at x c.args.flags.0 []) d l c.loaded.result m f)
    (sym free)
    (return-answered IsLoadResult (Load map.made_at x c.args.flags.0 []) d l n e (hindrance (Some map) l)
    c.in_ok-answer.answer call m f c.give_back.ensures.returned c.give_back.ensures.ready c.loaded.result c.loaded.ensures)
