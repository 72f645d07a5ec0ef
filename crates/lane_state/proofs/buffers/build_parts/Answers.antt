use Rattle.std.proofs.Common.{◌≡◌, Bool, List, true, false, sym, subst}
use Rattle.std.specs.Prelude.{MatchBool}
use Rattle.std.specs.List.{AllByRecursion}
use Rattle.busdma_machine.specs.declared.machine.address.Pa.{Pa}
use Rattle.busdma_machine.specs.declared.machine.chunk.Part.{Part}
use Rattle.segment_build.specs.Conditions.{HasRooms}
use Rattle.segment_build.specs.Streams.{IsBuiltFrom, OverflowsFrom}
use Rattle.segment_build.proofs.Iterating.{along_first, drained_first}
use Rattle.segment_build.proofs.FrontsAsk.{HasRooms-front}
use Rattle.busdma_rules.specs.Segments.Trace.{IsPage}
use Rattle.lane_state.proofs.buffers.build_parts.Goals as goal

on-true : (P Q : Type 0) (b : Bool) → b ≡ true → MatchBool b P Q → P
on-true P Q true e h = h
on-true P Q false e h = absurd (cc)

on-false : (P Q : Type 0) (b : Bool) → b ≡ false → MatchBool b P Q → Q
on-false P Q true e h = absurd (cc)
on-false P Q false e h = h

pub build_into-requires-clause-room : goal.build_into-requires-clause-room
build_into-requires-clause-room c =
    let t = c.args.tag.now in
    let m = c.args.maxmem in
    let pages = c.as_slice-pages.result.now in
    let same : pages ≡ c.args.room.now.addresses.items = c.as_slice-pages.ensures in
    let room = c.args.room.now.list.spare in
    let bounced_room = c.args.room.now.bounced.spare in
    let parts = c.args.parts in
    let has : HasRooms t m c.args.room.now.addresses.items room bounced_room parts =
    record {
      stream = c.requires.stream;
      need = c.requires.paged;
      fits = c.requires.fits;
      bounced_fit = c.requires.bounced_fit;
    } in
    record {
      at_frames = subst (AllByRecursion IsPage) (sym same) c.requires.pages;
      empty = c.requires.empty;
      empty_bounced = c.requires.empty_bounced;
      fronts =
          along_first (λ (ps : List Part). ps) (HasRooms t m pages room bounced_room)
          (HasRooms-front t m pages room bounced_room c.fronts_ask_no_more.ensures) parts
          (subst (λ (ps : List Pa). HasRooms t m ps room bounced_room parts) (sym same) has);
    }

pub returns-clause-few : goal.returns-clause-few
returns-clause-few c few =
    let t = c.args.tag.now in
    let m = c.args.maxmem in
    let ran = c.build_into.ensures.built in
    let list = c.build_into.new.list.items in
    let bounced = c.build_into.new.bounced.items in
    subst (λ (ps : List Part). IsBuiltFrom t m c.args.room.now.addresses.items ps list bounced)
    (sym (drained_first (λ (ps : List Part). ps) c.args.parts ran.0 ran.1))
    (subst (λ (pages : List Pa). IsBuiltFrom t m pages ran.0 list bounced) c.as_slice-pages.ensures
    (on-true _ _ c.build_into.result few ran.2))

pub returns-clause-many : goal.returns-clause-many
returns-clause-many c many =
    let t = c.args.tag.now in
    let m = c.args.maxmem in
    let ran = c.build_into.ensures.built in
    subst (λ (ps : List Part). OverflowsFrom t m c.args.room.now.addresses.items ps)
    (sym (drained_first (λ (ps : List Part). ps) c.args.parts ran.0 ran.1))
    (subst (λ (pages : List Pa). OverflowsFrom t m pages ran.0) c.as_slice-pages.ensures
    (on-false _ _ c.build_into.result many ran.2).0)
