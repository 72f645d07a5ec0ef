use Rattle.std.proofs.Common.{◌≡◌, true, [], ◌∷◌, rules, subst}
use Rattle.busdma_machine.specs.declared.bounce.hold.HubCall.TheVariants.{Grab}
use Rattle.busdma_machine.specs.declared.bounce.hold.HubReply.TheVariants.{Granted}
use Rattle.busdma_machine.specs.Bounce.AccountStep.{as_pages}
use Rattle.busdma_machine.specs.Bounce.Door.{HoldsAtDoor, grab_reply}
use Rattle.busdma_machine.specs.Machine.PageList.{page_address, page_addresses}
use Rattle.lane_threads.specs.PassDoor.{seen}
use Rattle.lane_threads_tests.proofs.Pages.{one_page}
use Rattle.lane_threads_tests.proofs.Rounds.{grabbed_one, may_give_back, given_one}
use Rattle.lane_threads_tests.proofs.TableCalls.{zone}
use Rattle.lane_threads_tests.proofs.tests.two_threads.grab_and_release.Goals as goal

pub release-requires : goal.release-requires
release-requires g c =
    let m = c.args.map in let d = seen c.args.door.now in let e = seen c.grab.new.self in
    let page = c.in_ok-page.page in let p = page_address page in
    let none : c.pop.new.self.items ≡ [] = search rules in
    let is : page_addresses c.in-Granted.pages.items ≡ p ∷ [] =
    one_page c.in-Granted.pages.items c.pop.new.self.items page c.in_ok-page.ensures.some none in
    let granted =
    subst (λ r. HoldsAtDoor d m.lane.0 (Grab m zone 1 true) (grab_reply r) e) c.in-Granted.is c.in-Ok.ensures.held in
    let held = subst (λ ps. HoldsAtDoor d m.lane.0 (Grab m zone 1 true) (Granted (as_pages ps)) e) is granted in
    may_give_back m e e p (grabbed_one m d e c.requires p held)

pub returns-clause-idle : goal.returns-clause-idle
returns-clause-idle g c =
    let m = c.args.map in let d = seen c.args.door.now in let e = seen c.grab.new.self in
    let f = seen c.release.new.self in
    let page = c.in_ok-page.page in let p = page_address page in
    let none : c.pop.new.self.items ≡ [] = search rules in
    let is : page_addresses c.in-Granted.pages.items ≡ p ∷ [] =
    one_page c.in-Granted.pages.items c.pop.new.self.items page c.in_ok-page.ensures.some none in
    let granted =
    subst (λ r. HoldsAtDoor d m.lane.0 (Grab m zone 1 true) (grab_reply r) e) c.in-Granted.is c.in-Ok.ensures.held in
    let held = subst (λ ps. HoldsAtDoor d m.lane.0 (Grab m zone 1 true) (Granted (as_pages ps)) e) is granted in
    given_one m e f p c.release.result (grabbed_one m d e c.requires p held) c.release.ensures.held
