use Rattle.std.proofs.Common.{◌≡◌, [], ◌∷◌, Option, rules, subst}
use Rattle.busdma_machine.specs.Machine.PageList.{page_address, page_addresses}
use Rattle.lane_agreement.specs.View.{OwnMap, Waiting, Loaded, Returning}
use Rattle.lane_threads.specs.PassDoor.{seen}
use Rattle.lane_threads_tests.specs.Knowing.{Knows, HasMaps, is_known_in_zone}
use Rattle.lane_threads_tests.proofs.Pages.{two_pages}
use Rattle.lane_threads_tests.proofs.Table.{back}
use Rattle.lane_threads_tests.proofs.TableCalls.{unload_first, may_give_back, first_back, second_back}
use Rattle.lane_threads_tests.proofs.tests.two_doors.release_pages.Goals as goal

abbrev waits : Option OwnMap
waits = is_known_in_zone 0 (Waiting 2)

pub release-requires : goal.release-requires
release-requires g c =
    let d = seen c.args.door.now in let p = page_address c.in-Some-pop.first in let q = page_address
    c.in-Some.second in
    let none : c.pop-2.new.self.items ≡ [] = search rules in
    let are : page_addresses c.args.pages.items ≡ p ∷ q ∷ [] =
    two_pages c.args.pages.items c.pop.new.self.items c.pop-2.new.self.items c.in-Some-pop.first c.in-Some.second
    c.in-Some.ensures.some c.in-Some-pop.ensures.some none in
    may_give_back d d (is_known_in_zone 0 Returning) waits p (back q ∷ [])
    (unload_first d d (is_known_in_zone 0 Returning) waits p q
    (subst (λ ps. Knows 0 (HasMaps (is_known_in_zone 0 (Loaded ps)) waits []) d) are c.requires))

pub release-requires-2 : goal.release-requires-2
release-requires-2 g c =
    let d = seen c.args.door.now in let e = seen c.release.new.self in
    let p = page_address c.in-Some-pop.first in let q = page_address c.in-Some.second in
    let none : c.pop-2.new.self.items ≡ [] = search rules in
    let are : page_addresses c.args.pages.items ≡ p ∷ q ∷ [] =
    two_pages c.args.pages.items c.pop.new.self.items c.pop-2.new.self.items c.in-Some-pop.first c.in-Some.second
    c.in-Some.ensures.some c.in-Some-pop.ensures.some none in
    let start = unload_first d d (is_known_in_zone 0 Returning) waits p q
    (subst (λ ps. Knows 0 (HasMaps (is_known_in_zone 0 (Loaded ps)) waits []) d) are c.requires) in
    may_give_back e e (is_known_in_zone 0 Returning) waits q []
    (first_back d e waits p q c.release.result start c.release.ensures.held)

pub returns-clause-maps : goal.returns-clause-maps
returns-clause-maps g c =
    let d = seen c.args.door.now in let e = seen c.release.new.self in let f = seen c.release-2.new.self in
    let p = page_address c.in-Some-pop.first in let q = page_address c.in-Some.second in
    let none : c.pop-2.new.self.items ≡ [] = search rules in
    let are : page_addresses c.args.pages.items ≡ p ∷ q ∷ [] =
    two_pages c.args.pages.items c.pop.new.self.items c.pop-2.new.self.items c.in-Some-pop.first c.in-Some.second
    c.in-Some.ensures.some c.in-Some-pop.ensures.some none in
    let start = unload_first d d (is_known_in_zone 0 Returning) waits p q
    (subst (λ ps. Knows 0 (HasMaps (is_known_in_zone 0 (Loaded ps)) waits []) d) are c.requires) in
    second_back e f waits p q c.release-2.result
    (first_back d e waits p q c.release.result start c.release.ensures.held) c.release-2.ensures.held
