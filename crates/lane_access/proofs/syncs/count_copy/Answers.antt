use Rattle.std.proofs.Common.{◌≡◌, ◌<◌, ◌≤◌, true, Option, length, ap, sym, ◌∙◌, arith, subst}
use Rattle.std.specs.Option.{option_map}
use Rattle.std.specs.Vec.{vec_len}
use Rattle.busdma_machine.specs.declared.name.ZoneId.{ZoneId}
use Rattle.ideal_lane.specs.Syncs.{counted}
use Rattle.lane_state.specs.Kept.{kept_share}
use Rattle.lane_access.specs.Shares.{share_place}
use Rattle.lane_access.proofs.Shares.{share-counted, share-new}
use Rattle.lane_access.proofs.syncs.count_copy.Goals as goal

pub returns-then-place-len : goal.returns-then-place-len
returns-then-place-len c =
    let shares = c.args.shares.now.items in
    let at = c.place_of-place.ensures ∙ ap (share_place c.in-Some.zone.0) c.as_slice.ensures.value in
    let size : length shares ≡ vec_len c.args.shares.now =
    ap length (sym c.as_slice.ensures.value) ∙ c.as_slice.ensures.len in
    let less : c.place_of-place.result < vec_len c.args.shares.now = rw c.len.ensures at c.if-place-len.true in
    let inside : c.place_of-place.result < length shares = omega (arith, size, less) in
    share-counted shares c.in-Some.zone.0 c.place_of-place.result c.saturating_add.result c.index.result.now
    c.index_mut.result.now at inside c.index.ensures c.index_mut.ensures.value c.saturating_add.ensures
    ∙ sym (ap (λ (o : Option ZoneId). counted true (option_map (λ (z : ZoneId). z.0) o) (kept_share shares))
    c.in-Some.is)

pub returns-else-place-len : goal.returns-else-place-len
returns-else-place-len c =
    let shares = c.args.shares.now.items in
    let at = c.place_of-place.ensures ∙ ap (share_place c.in-Some.zone.0) c.as_slice.ensures.value in
    let size : length shares ≡ vec_len c.args.shares.now =
    ap length (sym c.as_slice.ensures.value) ∙ c.as_slice.ensures.len in
    let more : vec_len c.args.shares.now ≤ c.place_of-place.result = rw c.len.ensures at c.if-place-len.false in
    let past : length shares ≤ c.place_of-place.result = omega (arith, size, more) in
    ap kept_share c.push_reserved.ensures.items
    ∙ share-new shares c.in-Some.zone (subst (λ q. length shares ≤ q) at past)
    ∙ sym (ap (λ (o : Option ZoneId). counted true (option_map (λ (z : ZoneId). z.0) o) (kept_share shares))
    c.in-Some.is)
