use Rattle.std.proofs.Common.{◌≡◌, ◌+◌, ◌≤◌, None, Some, length, rules, ap, sym, ◌∙◌, subst}
use Rattle.std.specs.FinMap.{entries, get}
use Rattle.loan_table.specs.Table.{buffer_of}
use Rattle.ideal_lane.specs.Rings.{candidates_in}
use Rattle.lane_state.specs.Ideal.{ideal_of}
use Rattle.lane_state.specs.Kept.{map_of}
use Rattle.lane_state.specs.MapValues.{entry_values}
use Rattle.lane_state.proofs.MapValues.{entries-map_values, image-some}
use Rattle.lane_access.proofs.RawPlaces.{AreOfTable, of-table}
use Rattle.lane_rings.proofs.RingSteps.{found_in}
use Rattle.lane_rings.proofs.rings.find_work.Goals as goal

pub loop-map-init : goal.loop-map-init
loop-map-init c =
    let h = c.args.holdings.now in
    let l = ideal_of h in
    let d = c.args.descriptor in
    let own = c.args.own in
    let same : c.into_iter-map-iterator.result ≡ entries h.maps.map = cc in
    record {
      left = ap (λ es. found_in d l None (candidates_in d own l (entry_values map_of es))) same
          ∙ ap (λ es. found_in d l None (candidates_in d own l es)) (sym (entries-map_values map_of h.maps.map));
      of = subst (AreOfTable h.maps.map) (sym same) (of-table h.maps.map);
    }

pub returns-in_default-judge-clause-allowed : goal.returns-in_default-judge-clause-allowed
returns-in_default-judge-clause-allowed c =
    let h = c.args.holdings.now in
    let l = ideal_of h in
    let x = c.in-Some-candidate_in.candidate in
    let e = c.in-Some-candidate_in.ensures in
    let there : get h.maps.map c.in-Some.map ≡ Some c.in-Some.kept.now = search rules in
    record {
      map = map_of c.in-Some.kept.now;
      there = ap (get l.maps) e.map ∙ image-some map_of h.maps.map c.in-Some.map c.in-Some.kept.now there;
      loaded = e.loaded;
      range = subst (λ m. x.off + c.args.descriptor.len ≤ length (buffer_of h.loans m)) (sym e.map) e.within;
      fine = sym c.in_default-judge.ensures;
    }
