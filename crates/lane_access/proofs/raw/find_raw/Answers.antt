use Rattle.std.proofs.Common.{◌≡◌, ◌+◌, ◌/◌, ◌<◌, ◌≤◌, ◌^◌, None, List, Some, option_map, subst, sym, ap, ◌∙◌}
use Rattle.std.proofs.Common.{arith}
use Rattle.std.specs.FinMap.{entries}
use Rattle.busdma_machine.specs.declared.machine.address.Segment.{Segment}
use Rattle.busdma_rules.specs.Segments.Obeying.{segments_bytes}
use Rattle.ideal_lane.specs.Accesses.{place_in}
use Rattle.lane_access.specs.Raw.{last_of}
use Rattle.lane_access.proofs.RawOwners.{last-short, last-tag, last-there, position-last, position-none}
use Rattle.lane_access.proofs.raw.find_raw.Goals as goal

pub returns-in_default-clause-is : goal.returns-in_default-clause-is
returns-in_default-clause-is c i below =
    let h = c.args.holdings.now in
    let page : (c.args.addr + i) / 4096 ≡ c.args.addr / 4096 = omega (arith, below, c.requires.page) in
    position-none h c.requires.wired c.args.tag c.args.addr c.requires.reached (c.args.addr + i) page
    (sym c.last_up_to.ensures ∙ c.in_default.is)

pub unreachable-requires : goal.unreachable-requires
unreachable-requires c =
    let h = c.args.holdings.now in
    let last : last_of c.args.tag (c.args.addr / 4096) None (entries h.maps.map) ≡ Some c.in-Some.load =
    sym c.last_up_to.ensures ∙ c.in-Some.is in
    let there = last-there h c.args.tag (c.args.addr / 4096) c.in-Some.load last in
    let none = c.in_default-get.ensures ∙ there.1 in absurd (cc)

pub find_in-found-requires-clause-total : goal.find_in-found-requires-clause-total
find_in-found-requires-clause-total c =
    let h = c.args.holdings.now in
    let last : last_of c.args.tag (c.args.addr / 4096) None (entries h.maps.map) ≡ Some c.in-Some.load =
    sym c.last_up_to.ensures ∙ c.in-Some.is in
    subst (λ (ss : List Segment). segments_bytes ss < 2 ^ 64) (sym c.segments.ensures)
    (last-short h c.args.tag (c.args.addr / 4096) c.in-Some.load last c.requires.short c.in-Some-get.kept.now
    (sym c.in-Some-get.ensures))

pub returns-in-Some-place-clause-is : goal.returns-in-Some-place-clause-is
returns-in-Some-place-clause-is c i below =
    let h = c.args.holdings.now in
    let last : last_of c.args.tag (c.args.addr / 4096) None (entries h.maps.map) ≡ Some c.in-Some.load =
    sym c.last_up_to.ensures ∙ c.in-Some.is in
    let page : (c.args.addr + i) / 4096 ≡ c.args.addr / 4096 = omega (
      arith,
      below,
      c.find_in-found.ensures.most,
      c.requires.page,
    ) in
    let place : place_in 0 c.segments.result.now (c.args.addr + i) ≡ Some (c.in-Some-place.at + i) =
    c.find_in-found.ensures.is i below ∙ ap (option_map (λ p. p + i)) c.in-Some-place.is in
    position-last h c.requires.wired c.args.tag c.args.addr c.requires.reached (c.args.addr + i) page c.in-Some.load
    last
    c.in-Some-get.kept.now (sym c.in-Some-get.ensures) (Some (c.in-Some-place.at + i))
    (ap (λ ss. place_in 0 ss (c.args.addr + i)) (sym c.segments.ensures) ∙ place)

pub returns-in-Some-place-clause-standing : goal.returns-in-Some-place-clause-standing
returns-in-Some-place-clause-standing c =
    let h = c.args.holdings.now in
    let last : last_of c.args.tag (c.args.addr / 4096) None (entries h.maps.map) ≡ Some c.in-Some.load =
    sym c.last_up_to.ensures ∙ c.in-Some.is in
    let within = rw c.in-Some-place.is at c.find_in-found.ensures.within in
    record {
      map = c.in-Some-get.kept.now;
      there = sym c.in-Some-get.ensures;
      tag = last-tag h c.args.tag (c.args.addr / 4096) c.in-Some.load last c.in-Some-get.kept.now
          (sym c.in-Some-get.ensures);
      within = subst (λ (ss : List Segment). c.in-Some-place.at + c.find_in-found.result.len ≤ segments_bytes ss)
          c.segments.ensures within;
    }

pub returns-in-None-clause-is : goal.returns-in-None-clause-is
returns-in-None-clause-is c i below =
    let h = c.args.holdings.now in
    let last : last_of c.args.tag (c.args.addr / 4096) None (entries h.maps.map) ≡ Some c.in-Some.load =
    sym c.last_up_to.ensures ∙ c.in-Some.is in
    let page : (c.args.addr + i) / 4096 ≡ c.args.addr / 4096 = omega (
      arith,
      below,
      c.find_in-found.ensures.most,
      c.requires.page,
    ) in
    let place : place_in 0 c.segments.result.now (c.args.addr + i) ≡ None =
    c.find_in-found.ensures.is i below ∙ ap (option_map (λ p. p + i)) c.in-None.is in
    position-last h c.requires.wired c.args.tag c.args.addr c.requires.reached (c.args.addr + i) page c.in-Some.load
    last
    c.in-Some-get.kept.now (sym c.in-Some-get.ensures) None
    (ap (λ ss. place_in 0 ss (c.args.addr + i)) (sym c.segments.ensures) ∙ place)
