use Rattle.std.proofs.Common.{true, false, subst}
use Rattle.busdma_machine.specs.declared.bounce.hold.HubCall.TheVariants.{Grab}
use Rattle.busdma_machine.specs.Bounce.Door.{HoldsAtDoor, grab_reply}
use Rattle.busdma_machine.specs.Machine.PageList.{page_addresses}
use Rattle.lane_agreement.specs.View.{Loaded}
use Rattle.lane_threads.specs.PassDoor.{seen}
use Rattle.lane_threads_tests.specs.Knowing.{is_known_in_zone}
use Rattle.lane_threads_tests.proofs.TableCalls.{idle, zone, of_table, may_load_first, first_loaded, may_load_second}
use Rattle.lane_threads_tests.proofs.TableCalls.{second_refused, second_waits}
use Rattle.lane_threads_tests.proofs.tests.two_doors.load_maps.Goals as goal

pub grab-requires : goal.grab-requires
grab-requires g c = may_load_first (seen c.args.door.now) (seen c.args.door.now) idle idle c.requires

pub grab-requires-2 : goal.grab-requires-2
grab-requires-2 g c =
    let d = seen c.args.door.now in let e = seen c.grab.new.self in
    let pages = page_addresses c.in-Granted.pages.items in
    let held = subst (λ r. HoldsAtDoor d 0 (Grab (of_table 1) zone 2 false) (grab_reply r) e)
    c.in-Granted.is c.in_ok-loaded.ensures.held in
    may_load_second e e (is_known_in_zone 0 (Loaded pages)) idle true (first_loaded d e idle idle c.requires pages held)

pub grab-requires-3 : goal.grab-requires-3
grab-requires-3 g c =
    let d = seen c.args.door.now in let e = seen c.grab.new.self in let f = seen c.grab-2.new.self in
    let pages = page_addresses c.in-Granted.pages.items in
    let held = subst (λ r. HoldsAtDoor d 0 (Grab (of_table 1) zone 2 false) (grab_reply r) e)
    c.in-Granted.is c.in_ok-loaded.ensures.held in
    let refused = subst (λ r. HoldsAtDoor e 0 (Grab (of_table 2) zone 2 true) (grab_reply r) f)
    c.in-NoPages.is c.in_ok-refused.ensures.held in
    may_load_second f f (is_known_in_zone 0 (Loaded pages)) idle false
    (second_refused e f (is_known_in_zone 0 (Loaded pages)) idle (first_loaded d e idle idle c.requires pages held)
    refused)

pub returns-clause-maps : goal.returns-clause-maps
returns-clause-maps g c =
    let d = seen c.args.door.now in let e = seen c.grab.new.self in let f = seen c.grab-2.new.self in
    let h = seen c.grab-3.new.self in let pages = page_addresses c.in-Granted.pages.items in
    let held = subst (λ r. HoldsAtDoor d 0 (Grab (of_table 1) zone 2 false) (grab_reply r) e)
    c.in-Granted.is c.in_ok-loaded.ensures.held in
    let refused = subst (λ r. HoldsAtDoor e 0 (Grab (of_table 2) zone 2 true) (grab_reply r) f)
    c.in-NoPages.is c.in_ok-refused.ensures.held in
    let queued = subst (λ r. HoldsAtDoor f 0 (Grab (of_table 2) zone 2 false) (grab_reply r) h)
    c.in-Queued.is c.in_ok-queued.ensures.held in
    second_waits f h (is_known_in_zone 0 (Loaded pages)) idle
    (second_refused e f (is_known_in_zone 0 (Loaded pages)) idle (first_loaded d e idle idle c.requires pages held)
    refused)
    c.in-Queued._have queued
