use Rattle.std.proofs.Common.{◌≡◌, ◌==◌, Some, is_some, nat_lt, unwrap_or, rules, ap, sym, ◌∙◌}
use Rattle.std.proofs.lemmas.Bool.{lt-ltb}
use Rattle.std.specs.FinMap.{get}
use Rattle.std.specs.Option.{option_map}
use Rattle.busdma_machine.specs.declared.machine.address.Pa.{Pa}
use Rattle.busdma_rules.specs.Rings.Ranges.{address_of}
use Rattle.ideal_lane.specs.Loads.{is_device}
use Rattle.ideal_lane.specs.Rings.{is_work}
use Rattle.ideal_lane.specs.Unloads.{segments_in}
use Rattle.lane_state.specs.declared.kept.KeptMap.{KeptMap}
use Rattle.lane_state.specs.Covered.{has_load}
use Rattle.lane_state.specs.Ideal.{ideal_of}
use Rattle.lane_state.specs.Kept.{map_of, kept_ring}
use Rattle.lane_state.proofs.MapValues.{image-some}
use Rattle.lane_rings.proofs.Candidates.{short-segments}
use Rattle.lane_rings.proofs.Postings.{all-true, ends-low, none-if, not-posted}
use Rattle.lane_access.proofs.RawPlaces.{segments-same}
use Rattle.lane_rings.proofs.RingUses.{differ}
use Rattle.lane_access.proofs.Unbounced.{not-behind}
use Rattle.lane_rings.proofs.posts.descriptor_of.Goals as goal

pub address_of-requires-clause-short : goal.address_of-requires-clause-short
address_of-requires-clause-short c =
    let h = c.args.holdings.now in
    let m = c.args.posting.map in
    let kept : KeptMap = c.in_ok-kept.kept.now in
    let there : get h.maps.map m ≡ Some kept = search rules in
    short-segments h c.requires.wired m kept there
    (not-behind h m kept there c.is_device.result c.is_device.ensures c.if-is_device.false)
    (c.buffers_are_short.ensures m)

pub address_of-requires-clause-low : goal.address_of-requires-clause-low
address_of-requires-clause-low c =
    let h = c.args.holdings.now in
    let m = c.args.posting.map in
    let kept : KeptMap = c.in_ok-kept.kept.now in
    let there : get h.maps.map m ≡ Some kept = search rules in
    ends-low h c.requires.wired m kept there (sym (ap has_load there) ∙ c.requires.loaded)
    (not-behind h m kept there c.is_device.result c.is_device.ensures c.if-is_device.false)

pub returns-in_err-addr-clause-unposted : goal.returns-in_err-addr-clause-unposted
returns-in_err-addr-clause-unposted c =
    let h = c.args.holdings.now in
    let l = ideal_of h in
    let p = c.args.posting in
    let kept : KeptMap = c.in_ok-kept.kept.now in
    let there : get h.maps.map p.map ≡ Some kept = search rules in
    none-if c.from_residual-in_err-addr.result (not-posted l (kept_ring c.args.ring) p (map_of kept)
    (image-some map_of h.maps.map p.map kept there)
    (ap (address_of p.off p.len) (segments-same kept.map.stage)
    ∙ sym c.address_of.ensures ∙ ap (option_map (λ (x : Pa). x.0)) c.in_err-addr.was))

pub returns-clause-posted : goal.returns-clause-posted
returns-clause-posted c =
    let h = c.args.holdings.now in
    let l = ideal_of h in
    let p = c.args.posting in
    let kept : KeptMap = c.in_ok-kept.kept.now in
    let there : get h.maps.map p.map ≡ Some kept = search rules in
    let is = image-some map_of h.maps.map p.map kept there in
    let found : address_of p.off p.len (segments_in (map_of kept).stage) ≡ Some c.in_ok-addr.addr.0 =
    ap (address_of p.off p.len) (segments-same kept.map.stage)
    ∙ sym c.address_of.ensures ∙ ap (option_map (λ (x : Pa). x.0)) c.in_ok-addr.was in
    record {
      map = map_of kept;
      there = is;
      may = all-true (nat_lt p.slot c.args.ring.slots) (is_work p.kind p.len) (p.map == c.args.ring.mem)
          (is_device l (map_of kept)) (is_some (address_of p.off p.len (segments_in (map_of kept).stage)))
          (lt-ltb p.slot c.args.ring.slots c.if-posting-ring.false) (sym c.is_work.ensures ∙ c.if-not-is_work.false)
          (differ p.map c.args.ring.mem c.if-posting-ring-2.false)
          (sym (c.is_device.ensures (map_of kept) is) ∙ c.if-is_device.false) (ap is_some found);
      is = λ i. record {
        addr = unwrap_or (sym found i) 0;
        len = p.len;
        kind = p.kind;
        fill = p.fill;
        owner = 1;
        status = 0;
      };
    }
