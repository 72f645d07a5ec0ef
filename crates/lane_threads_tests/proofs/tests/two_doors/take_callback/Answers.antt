use Rattle.std.proofs.Common.{◌≡◌, rules}
use Rattle.busdma_machine.specs.Machine.PageList.{page_addresses}
use Rattle.lane_threads.specs.PassDoor.{seen}
use Rattle.lane_threads_tests.proofs.TableCalls.{idle, of_table, second_called}
use Rattle.lane_threads_tests.proofs.tests.two_doors.take_callback.Goals as goal

pub returns-clause-maps : goal.returns-clause-maps
returns-clause-maps g c =
    let map = c.in-Some.called.map in
    let is : map ≡ of_table 2 = search rules in
    second_called (seen c.args.door.now) (seen c.take_callback.new.self) idle idle c.requires map
    (page_addresses c.in-Some.called.pages.items) is c.in-Some.ensures.held
