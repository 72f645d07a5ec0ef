use Rattle.std.proofs.Common.{◌≡◌, ◌≤◌, ◌<◌, List, length, min, sym, ap, ◌∙◌, subst, arith}
use Rattle.std.specs.FinMap.{get}
use Rattle.std.specs.List.{AllByRecursion}
use Rattle.busdma_machine.specs.declared.machine.chunk.Chunk.{Chunk}
use Rattle.busdma_machine.specs.declared.tags.tag.TagLimits.{TagLimits}
use Rattle.busdma_machine.specs.declared.machine.address.Pa.{Pa}
use Rattle.busdma_machine.specs.Bounce.AccountStep.{as_pages}
use Rattle.busdma_machine.specs.Machine.Page.{FrameBytes}
use Rattle.busdma_machine.specs.Machine.PageList.{page_addresses}
use Rattle.dma_map.specs.declared.room.LoadRoom.{LoadRoom}
use Rattle.memory_load.specs.MemoryLoad.{memory_pieces, run_segments}
use Rattle.busdma_rules.specs.Segments.Building.{placed_pieces}
use Rattle.busdma_rules.specs.Segments.Chunks.{need_of}
use Rattle.busdma_rules.specs.Segments.Trace.{IsPage}
use Rattle.segment_build.specs.Streams.{stream_chunks}
use Rattle.ideal_lane.specs.Loads.{limits_of}
use Rattle.ideal_lane.specs.State.{LaneMap}
use Rattle.lane_state.specs.Ideal.{ideal_of}
use Rattle.lane_state.specs.Kept.{map_of, memory_of, tag_of}
use Rattle.lane_state.specs.Loading.{HasRoomFor, IsFilled, IsOverfull, bio_of, map_chunks}
use Rattle.lane_loads.proofs.Asked.{plain-chunks}
use Rattle.lane_loads.proofs.Chunked.{load-chunks, kept-limits, filled-with, overfull-with}
use Rattle.lane_state.proofs.Keeping.{idle-there}
use Rattle.lane_state.proofs.MapValues.{image-none, image-some}
use Rattle.lane_loads.proofs.OwnLoads.{own-filled, own-overfull, own-pages, own-room}
use Rattle.lane_state.proofs.Preparing.{pages-count}
use Rattle.lane_loads.proofs.loads.build_load.Goals as goal

pub unreachable-requires : goal.unreachable-requires
unreachable-requires c =
    let idle = idle-there (get c.args.holdings.now.maps.map c.args.map) c.requires.idle in
    let none = c.in_default.ensures ∙ idle.1 in absurd (cc)

pub unreachable-requires-in_default-get : goal.unreachable-requires-in_default-get
unreachable-requires-in_default-get c =
    let h = c.args.holdings.now in
    let o = c.in-Some.kept.now in
    let is = image-some map_of h.maps.map c.args.map o (sym c.in-Some.ensures) in
    let stands = (c.requires.stands.each c.args.map (map_of o) is).there in
    let none = image-none tag_of h.tags.map o.tag (sym c.in_default-get.ensures) in
    absurd (cc)

pub write_addresses-requires : goal.write_addresses-requires
write_addresses-requires c =
    let h = c.args.holdings.now in
    let o = c.in-Some.kept.now in
    let has = c.requires.room (map_of o) (image-some map_of h.maps.map c.args.map o (sym c.in-Some.ensures)) in
    record { empty = has.empty_addresses; room = has.addresses }

pub build_parts-requires : goal.build_parts-requires
build_parts-requires c =
    let h = c.args.holdings.now in
    let l = ideal_of h in
    let o = c.in-Some.kept.now in
    let t = c.in-Some-get.made.now.tag in
    let b = bio_of c.args.bytes in
    let is = image-some map_of h.maps.map c.args.map o (sym c.in-Some.ensures) in
    let limits = kept-limits h (map_of o) c.in-Some-get.made.now (sym c.in-Some-get.ensures) in
    let chunks = ap (stream_chunks t h.maxmem) c.parts.ensures.parts
    ∙ load-chunks l b (map_of o) t c.requires.reached limits
    ∙ sym (plain-chunks l c.args.map (map_of o) b
    (image-none memory_of h.memories.map c.args.map (sym c.in_default-get-2.ensures))) in
    let pages = c.write_addresses.new.list.items in
    let count : length pages ≡ length c.args.pages.now =
    ap length c.write_addresses.ensures.addresses ∙ pages-count c.args.pages.now in
    let has =
    subst (λ (u : TagLimits). HasRoomFor u (map_chunks l c.args.map (map_of o) b) pages c.args.room.now) limits
    ((c.requires.room (map_of o) is).any pages c.write_addresses.ensures.at_frames count) in
    record {
      stream = c.parts.ensures.stream;
      pages = c.write_addresses.ensures.at_frames;
      empty = has.empty;
      empty_bounced = has.empty_bounced;
      paged = subst (λ (cs : List Chunk). need_of cs ≤ length pages) (sym chunks) has.paged;
      fits = subst (λ (cs : List Chunk). min (length (placed_pieces t cs pages)) t.nsegments
          ≤ c.args.room.now.list.spare) (sym chunks) has.segments;
      bounced_fit = subst (λ (cs : List Chunk). need_of cs ≤ c.args.room.now.bounced.spare) (sym chunks) has.bounced;
    }

pub returns-clause-few : goal.returns-clause-few
returns-clause-few c few other found =
    let h = c.args.holdings.now in
    let l = ideal_of h in
    let o = c.in-Some.kept.now in
    let t = c.in-Some-get.made.now.tag in
    let b = bio_of c.args.bytes in
    let is = image-some map_of h.maps.map c.args.map o (sym c.in-Some.ensures) in
    let same : map_of o ≡ other = cc in
    let limits = kept-limits h (map_of o) c.in-Some-get.made.now (sym c.in-Some-get.ensures) in
    let chunks = ap (stream_chunks t h.maxmem) c.parts.ensures.parts
    ∙ load-chunks l b (map_of o) t c.requires.reached limits
    ∙ sym (plain-chunks l c.args.map (map_of o) b
    (image-none memory_of h.memories.map c.args.map (sym c.in_default-get-2.ensures))) in
    let pages = as_pages (page_addresses c.args.pages.now) in
    let at = c.write_addresses.new.list.items in
    let room = c.build_parts.new.room in
    subst (λ (x : LaneMap). IsFilled (limits_of l x) (map_chunks l c.args.map x b) pages room) same
    (subst (λ (u : TagLimits). IsFilled u (map_chunks l c.args.map (map_of o) b) pages room) (sym limits)
    (subst (λ (ps : List Pa). IsFilled t (map_chunks l c.args.map (map_of o) b) ps room)
    c.write_addresses.ensures.addresses
    (filled-with t h.maxmem c.parts.result (map_chunks l c.args.map (map_of o) b) at chunks room
    (c.build_parts.ensures.few few))))

pub returns-clause-many : goal.returns-clause-many
returns-clause-many c many other found =
    let h = c.args.holdings.now in
    let l = ideal_of h in
    let o = c.in-Some.kept.now in
    let t = c.in-Some-get.made.now.tag in
    let b = bio_of c.args.bytes in
    let is = image-some map_of h.maps.map c.args.map o (sym c.in-Some.ensures) in
    let same : map_of o ≡ other = cc in
    let limits = kept-limits h (map_of o) c.in-Some-get.made.now (sym c.in-Some-get.ensures) in
    let chunks = ap (stream_chunks t h.maxmem) c.parts.ensures.parts
    ∙ load-chunks l b (map_of o) t c.requires.reached limits
    ∙ sym (plain-chunks l c.args.map (map_of o) b
    (image-none memory_of h.memories.map c.args.map (sym c.in_default-get-2.ensures))) in
    let pages = as_pages (page_addresses c.args.pages.now) in
    let at = c.write_addresses.new.list.items in
    let room = c.build_parts.new.room in
    subst (λ (x : LaneMap). IsOverfull (limits_of l x) (map_chunks l c.args.map x b) pages room) same
    (subst (λ (u : TagLimits). IsOverfull u (map_chunks l c.args.map (map_of o) b) pages room) (sym limits)
    (subst (λ (ps : List Pa). IsOverfull t (map_chunks l c.args.map (map_of o) b) ps room)
    c.write_addresses.ensures.addresses
    (overfull-with t h.maxmem c.parts.result (map_chunks l c.args.map (map_of o) b) at chunks room
    (c.build_parts.ensures.many many) (c.build_parts.ensures.none many))))

-- ---- into the map of a memory

pub build_memory-requires-clause-small : goal.build_memory-requires-clause-small
build_memory-requires-clause-small c = let small = c.requires.loadable.small in omega (arith, small, c.len.ensures)

pub build_memory-requires-clause-inside : goal.build_memory-requires-clause-inside
build_memory-requires-clause-inside c =
    let h = c.args.holdings.now in
    let own = c.in-Some-get-2.own.now in
    let first =
    c.requires.first (memory_of own) (image-some memory_of h.memories.map c.args.map own (sym c.in-Some-get-2.ensures))
    in
    let end = first.inside in
    omega (arith, end, c.len.ensures)

pub build_memory-requires-clause-empty : goal.build_memory-requires-clause-empty
build_memory-requires-clause-empty c =
    let h = c.args.holdings.now in
    let o = c.in-Some.kept.now in
    let own = c.in-Some-get-2.own.now in
    let t = c.in-Some-get.made.now.tag in
    let is = image-some map_of h.maps.map c.args.map o (sym c.in-Some.ensures) in
    let there = image-some memory_of h.memories.map c.args.map own (sym c.in-Some-get-2.ensures) in
    let limits = kept-limits h (map_of o) c.in-Some-get.made.now (sym c.in-Some-get.ensures) in
    (own-room (ideal_of h) c.args.map (map_of o) (bio_of c.args.bytes) (memory_of own) there
    (c.requires.first (memory_of own) there) t limits (length c.args.pages.now) c.args.room.now
    (c.requires.room (map_of o) is)).empty

pub build_memory-requires-clause-empty_bounced : goal.build_memory-requires-clause-empty_bounced
build_memory-requires-clause-empty_bounced c =
    let h = c.args.holdings.now in
    let o = c.in-Some.kept.now in
    let own = c.in-Some-get-2.own.now in
    let t = c.in-Some-get.made.now.tag in
    let is = image-some map_of h.maps.map c.args.map o (sym c.in-Some.ensures) in
    let there = image-some memory_of h.memories.map c.args.map own (sym c.in-Some-get-2.ensures) in
    let limits = kept-limits h (map_of o) c.in-Some-get.made.now (sym c.in-Some-get.ensures) in
    (own-room (ideal_of h) c.args.map (map_of o) (bio_of c.args.bytes) (memory_of own) there
    (c.requires.first (memory_of own) there) t limits (length c.args.pages.now) c.args.room.now
    (c.requires.room (map_of o) is)).empty_bounced

pub build_memory-requires-clause-room : goal.build_memory-requires-clause-room
build_memory-requires-clause-room c =
    let h = c.args.holdings.now in
    let o = c.in-Some.kept.now in
    let own = c.in-Some-get-2.own.now in
    let t = c.in-Some-get.made.now.tag in
    let is = image-some map_of h.maps.map c.args.map o (sym c.in-Some.ensures) in
    let there = image-some memory_of h.memories.map c.args.map own (sym c.in-Some-get-2.ensures) in
    let limits = kept-limits h (map_of o) c.in-Some-get.made.now (sym c.in-Some-get.ensures) in
    subst (λ n. min (length (memory_pieces t own.first.0 n)) t.nsegments ≤ c.args.room.now.list.spare)
    (sym c.len.ensures)
    (own-room (ideal_of h) c.args.map (map_of o) (bio_of c.args.bytes) (memory_of own) there
    (c.requires.first (memory_of own) there) t limits (length c.args.pages.now) c.args.room.now
    (c.requires.room (map_of o) is)).segments

pub returns-in-Some-get-2-clause-at_frames : goal.returns-in-Some-get-2-clause-at_frames
returns-in-Some-get-2-clause-at_frames c =
    let h = c.args.holdings.now in
    let o = c.in-Some.kept.now in
    let own = c.in-Some-get-2.own.now in
    let t = c.in-Some-get.made.now.tag in
    let is = image-some map_of h.maps.map c.args.map o (sym c.in-Some.ensures) in
    let there = image-some memory_of h.memories.map c.args.map own (sym c.in-Some-get-2.ensures) in
    let limits = kept-limits h (map_of o) c.in-Some-get.made.now (sym c.in-Some-get.ensures) in
    subst (λ (ps : List FrameBytes). AllByRecursion IsPage (as_pages (page_addresses ps)))
    (sym (own-pages (ideal_of h) c.args.map (map_of o) (bio_of c.args.bytes) (memory_of own) there
    (c.requires.first (memory_of own) there) t limits c.args.pages.now c.args.room.now
    (c.requires.room (map_of o) is))) tt

pub returns-in-Some-get-2-clause-few : goal.returns-in-Some-get-2-clause-few
returns-in-Some-get-2-clause-few c few other found =
    let h = c.args.holdings.now in
    let l = ideal_of h in
    let o = c.in-Some.kept.now in
    let own = c.in-Some-get-2.own.now in
    let t = c.in-Some-get.made.now.tag in
    let b = bio_of c.args.bytes in
    let is = image-some map_of h.maps.map c.args.map o (sym c.in-Some.ensures) in
    let same : map_of o ≡ other = cc in
    let there = image-some memory_of h.memories.map c.args.map own (sym c.in-Some-get-2.ensures) in
    let limits = kept-limits h (map_of o) c.in-Some-get.made.now (sym c.in-Some-get.ensures) in
    let built = c.build_memory.ensures in
    let room : LoadRoom =
    record c.args.room.now { list = c.build_memory.new.list; bounced = c.build_memory.new.bounced } in
    subst (λ (x : LaneMap). IsFilled (limits_of l x) (map_chunks l c.args.map x b)
    (as_pages (page_addresses c.args.pages.now)) room) same
    (own-filled l c.args.map (map_of o) b (memory_of own) there (c.requires.first (memory_of own) there) t limits
    (as_pages (page_addresses c.args.pages.now)) room
    (built.built few ∙ ap (run_segments t own.first.0) c.len.ensures)
    (subst (λ n. length (run_segments t own.first.0 n) ≤ t.nsegments) c.len.ensures (built.few few)) built.bounced)

pub returns-in-Some-get-2-clause-many : goal.returns-in-Some-get-2-clause-many
returns-in-Some-get-2-clause-many c many other found =
    let h = c.args.holdings.now in
    let l = ideal_of h in
    let o = c.in-Some.kept.now in
    let own = c.in-Some-get-2.own.now in
    let t = c.in-Some-get.made.now.tag in
    let b = bio_of c.args.bytes in
    let is = image-some map_of h.maps.map c.args.map o (sym c.in-Some.ensures) in
    let same : map_of o ≡ other = cc in
    let there = image-some memory_of h.memories.map c.args.map own (sym c.in-Some-get-2.ensures) in
    let limits = kept-limits h (map_of o) c.in-Some-get.made.now (sym c.in-Some-get.ensures) in
    let built = c.build_memory.ensures in
    let room : LoadRoom =
    record c.args.room.now { list = c.build_memory.new.list; bounced = c.build_memory.new.bounced } in
    subst (λ (x : LaneMap). IsOverfull (limits_of l x) (map_chunks l c.args.map x b)
    (as_pages (page_addresses c.args.pages.now)) room) same
    (own-overfull l c.args.map (map_of o) b (memory_of own) there (c.requires.first (memory_of own) there) t limits
    (as_pages (page_addresses c.args.pages.now)) room
    (subst (λ n. t.nsegments < length (run_segments t own.first.0 n)) c.len.ensures (built.many many))
    (built.none many))
