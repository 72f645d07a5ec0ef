-- What one more chunk adds to the copies of those before it.
use Rattle.std.proofs.Common.{◌≡◌, ◌≢◌, ℕ, ◌+◌, ◌-◌, ◌/◌, ◌<◌, ◌≤◌, true, false, List, [], ◌∷◌, ◌++◌, length, map}
use Rattle.std.proofs.Common.{drop, get_or, set, refl, ap, sym, ◌∙◌, subst, inl, inr, arith}
use Rattle.std.specs.Prelude.{Option, Some, None, is_some, unwrap_or}
use Rattle.std.specs.List.{AllByRecursion, AllPairs, AllZip, filter}
use Rattle.std.proofs.lemmas.Bool.{cases_lt}
use Rattle.std.proofs.Math.Seq.{map-set_same}
use Rattle.std.proofs.lemmas.List.{drop_more, drop_all, get_or-map, get_or_default, length-map}
use Rattle.std.proofs.lemmas.List.Concat.{flat_map-cons}
use Rattle.std.proofs.lemmas.List.Elements.{filter-append}
use Rattle.busdma_machine.specs.declared.machine.address.Pa.{Pa}
use Rattle.busdma_machine.specs.declared.machine.chunk.Chunk.{Chunk}
use Rattle.busdma_machine.specs.Machine.Page.{FrameBytes}
use Rattle.busdma_machine.specs.Machine.PageList.{page_frames}
use Rattle.busdma_machine.specs.Machine.Wire.{Placed, Wire, buffers, buses, is_bounced, page_byte, put, with_bytes_of}
use Rattle.busdma_machine.specs.Runs.{addresses, run_of}
use Rattle.phys_memory.specs.Frames.{AreApart}
use Rattle.phys_memory.specs.Memory.{FrameMemory, memory_has_frame, wire}
use Rattle.phys_memory.proofs.PageBytes.{no_page, no_page_at, none_apart, page_at, page_replaced, page_shown}
use Rattle.phys_memory.proofs.PageBytes.{put_under}
use Rattle.phys_memory.proofs.RunParts.{all_imply, same_reads}
use Rattle.busdma_rules.specs.Segments.Trace.{bus_addresses, bus_extent, bus_from, chunk_extents, chunk_len}
use Rattle.map_sync.specs.Copying.{IsWritten, part}
use Rattle.map_sync.specs.Held.{IsPageHeld, paged}
use Rattle.map_sync.specs.Ranges.{chunk_range, range_of_chunks}
use Rattle.map_sync.proofs.Placing.{all_part, bounced_range, bus_frame, in_frames, range_buffers, range_buses}
use Rattle.map_sync.proofs.Placing.{unbounced_range}

-- the chunk that is read at a place outside the list
abbrev pub no_chunk : Chunk
no_chunk =
    record { at = 0; first = record { pa = record { 0 = 0 }; len = 0 }; rest = None; bounced = false; page = None }

-- the bytes of these positions that are bounced are copied, with the values of f
abbrev pub copied : (key from : Placed → ℕ) → Wire → List Placed → Wire → Wire
copied key from f ps w = put (map key (filter is_bounced ps)) (map f (map from (filter is_bounced ps))) w

put_positions : (key from : Placed → ℕ) (f : Wire) (ps qs : List Placed) (w : Wire) →
    put (map key (ps ++ qs)) (map f (map from (ps ++ qs))) w
    ≡ put (map key qs) (map f (map from qs)) (put (map key ps) (map f (map from ps)) w)
put_positions key from f [] qs w = refl
put_positions key from f (p ∷ ps) qs w = put_positions key from f ps qs _

-- the first chunk is copied, and then the others
copied_more : (key from : Placed → ℕ) (f w : Wire) (off len : ℕ) (c : Chunk) (cs : List Chunk) →
    copied key from f (range_of_chunks off len (c ∷ cs)) w
    ≡ copied key from f (range_of_chunks off len cs) (copied key from f (chunk_range off len c) w)
copied_more key from f w off len c cs =
    ap (λ ps. put (map key ps) (map f (map from ps)) w)
    (ap (filter is_bounced) (flat_map-cons (chunk_range off len) c cs)
    ∙ filter-append is_bounced (chunk_range off len c) (range_of_chunks off len cs))
    ∙ put_positions key from f (filter is_bounced (chunk_range off len c))
    (filter is_bounced (range_of_chunks off len cs)) w

-- the chunk at a place, and those after it
pub copied_at : (key from : Placed → ℕ) (f w now : Wire) (off len : ℕ) (cs : List Chunk) (i : ℕ) (d : Chunk) →
    i < length cs → now ≡ copied key from f (chunk_range off len (get_or cs i d)) w
    → copied key from f (range_of_chunks off len (drop (i + 1) cs)) now
    ≡ copied key from f (range_of_chunks off len (drop i cs)) w
copied_at key from f w now off len cs i d h is =
    ap (copied key from f (range_of_chunks off len (drop (i + 1) cs))) is
    ∙ sym (ap (λ xs. copied key from f (range_of_chunks off len xs) w) (drop_more cs i d h)
    ∙ copied_more key from f w off len (get_or cs i d) (drop (i + 1) cs))

-- nothing of a chunk without a page is copied
pub none_copied : (key from : Placed → ℕ) (f w : Wire) (off len : ℕ) (c : Chunk) → c.page ≡ None →
    w ≡ copied key from f (chunk_range off len c) w
none_copied key from f w off len c e =
    sym (ap (λ ps. put (map key ps) (map f (map from ps)) w) (unbounced_range off len c e))

-- ---- which chunk has which page
pub held_next : (m : FrameMemory) (cs : List Chunk) (i : ℕ) (d : Chunk) (fs : List ℕ) (next : ℕ) (bus : Pa) →
    i < length cs → (get_or cs i d).page ≡ Some bus → AllZip (IsPageHeld m) (paged (drop i cs)) (drop next fs)
    → (next < length fs) × IsPageHeld m (get_or cs i d) (get_or fs next 0)
    × AllZip (IsPageHeld m) (paged (drop (i + 1) cs)) (drop (next + 1) fs)
held_next m cs i d fs next bus h e held =
    first (get_or cs i d) (drop (i + 1) cs) e
    (subst (λ xs. AllZip (IsPageHeld m) (paged xs) (drop next fs)) (drop_more cs i d h) held)
  where
    split : (c : Chunk) (xs : List Chunk) → AllZip (IsPageHeld m) (c ∷ xs) (drop next fs) →
        (next < length fs) × IsPageHeld m c (get_or fs next 0) × AllZip (IsPageHeld m) xs (drop (next + 1) fs)
    split c xs z = elim (cases_lt next (length fs)) [
      | inl l ↦ let zip = subst (AllZip (IsPageHeld m) (c ∷ xs)) (drop_more fs next 0 l) z in (l, zip.0, zip.1)
      | inr l ↦ absurd (subst (AllZip (IsPageHeld m) (c ∷ xs)) (drop_all next fs l) z)
    ]

    first : (c : Chunk) (xs : List Chunk) → c.page ≡ Some bus → AllZip (IsPageHeld m) (paged (c ∷ xs)) (drop next fs) →
        (next < length fs) × IsPageHeld m c (get_or fs next 0) × AllZip (IsPageHeld m) (paged xs) (drop (next + 1) fs)
    first c xs q z = split c (paged xs) (rw (ap is_some q) at z)

pub held_skip : (m : FrameMemory) (cs : List Chunk) (i : ℕ) (d : Chunk) (fs : List ℕ) → i < length cs →
    (get_or cs i d).page ≡ None → AllZip (IsPageHeld m) (paged (drop i cs)) fs →
    AllZip (IsPageHeld m) (paged (drop (i + 1) cs)) fs
held_skip m cs i d fs h e held =
    first (get_or cs i d) (drop (i + 1) cs) e (subst (λ xs. AllZip (IsPageHeld m) (paged xs) fs) (drop_more cs i d h)
    held)
  where
    first : (c : Chunk) (xs : List Chunk) → c.page ≡ None →
        AllZip (IsPageHeld m) (paged (c ∷ xs)) fs → AllZip (IsPageHeld m) (paged xs) fs
    first c xs q z = rw (ap is_some q) at z

-- ---- the page of a chunk, among the others
-- the frames of pages of which only the bytes changed
pub still_differ : (now old : List FrameBytes) → page_frames now ≡ page_frames old →
    AllPairs (λ f g. f ≢ g) (page_frames old) → AllPairs (λ f g. f ≢ g) (page_frames now)
still_differ now old e h = subst (AllPairs (λ f g. f ≢ g)) (sym e) h

-- the bus addresses of a chunk that has a page
bus_run : (c : Chunk) (bus : Pa) → c.page ≡ Some bus → bus_addresses c ≡ run_of bus.0 (chunk_len c)
bus_run c bus e = ap (λ (o : Option Pa). bus_from o c) e

-- the bytes of a chunk are those of the memory, whatever pages lie beside it
buffer_bytes : (m : FrameMemory) (pages : List FrameBytes) (from to : ℕ) (c : Chunk) (f : ℕ) →
    AreApart m (page_frames pages) → IsPageHeld m c f
    → map (wire m) (part from to (addresses (chunk_extents c)))
    ≡ map (with_bytes_of pages (wire m)) (part from to (addresses (chunk_extents c)))
buffer_bytes m pages from to c f apart held =
    same_reads (part from to (addresses (chunk_extents c))) (wire m) (with_bytes_of pages (wire m))
    (all_imply (λ a. memory_has_frame m (a / 4096) ≡ true) _
    (λ a q. sym (no_page_at pages (wire m) a (none_apart m pages (a / 4096) apart.away q)))
    (part from to (addresses (chunk_extents c)))
    (all_part (λ a. memory_has_frame m (a / 4096) ≡ true) from to _
    (in_frames m (chunk_extents c) held.buffer.extents held.buffer.frames)))

-- a chunk is copied into its page
pub chunk_in : (m : FrameMemory) (old now : List FrameBytes) (k : ℕ) (new : FrameBytes)
    (off len : ℕ) (c : Chunk) (bus : Pa) (f : ℕ)
    → AreApart m (page_frames old) → page_frames now ≡ page_frames old → k < length now →
    new.frame ≡ (get_or now k no_page).frame → c.page ≡ Some bus → IsPageHeld m c f → memory_has_frame m f ≡ false
    → (let from = off - c.at in let to = off + len - c.at in
    IsWritten (get_or now k no_page) new (part from to (run_of bus.0 (chunk_len c)))
    (map (wire m) (part from to (addresses (chunk_extents c)))))
    → with_bytes_of (set now k new) (wire m)
    ≡ copied (λ p. p.bus) (λ p. p.pa) (with_bytes_of old (wire m))
    (chunk_range off len c) (with_bytes_of now (wire m))
chunk_in m old now k new off len c bus f apart same h frame paged held away is =
    let from = off - c.at in
    let to = off + len - c.at in
    let w = with_bytes_of now (wire m) in
    let differ = still_differ now old same apart.differ in
    let bytes = buffer_bytes m old from to c f apart held in
    page_replaced now k new (wire m) differ h frame ∙ is w
    ∙ ap (put (part from to (run_of bus.0 (chunk_len c))) (map (wire m) (part from to (addresses (chunk_extents c)))))
    (page_shown now k (wire m) differ h)
    ∙ ap (λ vs. put (part from to (run_of bus.0 (chunk_len c))) vs w) bytes
    ∙ ap
    (λ xs. put (part from to xs) (map (with_bytes_of old (wire m)) (part from to (addresses (chunk_extents c)))) w)
    (sym (bus_run c bus paged))
    ∙ ap (λ xs. put xs (map (with_bytes_of old (wire m)) (part from to (addresses (chunk_extents c)))) w)
    (sym (range_buses off len c))
    ∙ ap (λ xs. put (buses (chunk_range off len c)) (map (with_bytes_of old (wire m)) xs) w)
    (sym (range_buffers off len c))
    ∙ ap (λ ps. put (buses ps) (map (with_bytes_of old (wire m)) (buffers ps)) w)
    (sym (bounced_range m off len c bus f paged held away))

-- the bus addresses of a chunk begin in the frame of its page
bus_begin : (m : FrameMemory) (c : Chunk) (bus : Pa) (f : ℕ) → c.page ≡ Some bus → IsPageHeld m c f → bus.0 / 4096 ≡ f
bus_begin m c bus f e held = sym (ap (λ (o : Option Pa). (unwrap_or o c.first.pa).0 / 4096) e) ∙ held.page

-- the page of the next chunk that has one
same_count : (now old : List FrameBytes) → page_frames now ≡ page_frames old → length now ≡ length (page_frames old)
same_count now old e = sym (length-map now (λ (p : FrameBytes). p.frame)) ∙ ap length e

frame_at : (now : List FrameBytes) (fs : List ℕ) (k : ℕ) (d : FrameBytes) → page_frames now ≡ fs →
    k < length now → get_or fs k 0 ≡ (get_or now k d).frame
frame_at now fs k d e h = sym (ap (λ xs. get_or xs k 0) e) ∙ get_or-map (λ (p : FrameBytes). p.frame) now k d 0 h

-- what is known of the next chunk that has a page: the page, that the chunk is held there, and that no frame of the
-- memory is the page's
pub record IsNext (m : FrameMemory) (old now : List FrameBytes) (cs : List Chunk) (i : ℕ) (c : Chunk) (next : ℕ)
    (bus : Pa) (d : FrameBytes) : Type 0 where
  pub inside : next < length now
  pub held : IsPageHeld m c (get_or now next d).frame
  pub away : memory_has_frame m (get_or now next d).frame ≡ false
  pub frame : bus.0 / 4096 ≡ (get_or now next d).frame
  pub rest : AllZip (IsPageHeld m) (paged (drop (i + 1) cs)) (drop (next + 1) (page_frames old))

pub next_page : (m : FrameMemory) (old now : List FrameBytes) (cs : List Chunk) (i : ℕ) (d : Chunk) (next : ℕ)
    (bus : Pa)
    (e : FrameBytes) → AreApart m (page_frames old) → page_frames now ≡ page_frames old →
    i < length cs → (get_or cs i d).page ≡ Some bus
    → AllZip (IsPageHeld m) (paged (drop i cs)) (drop next (page_frames old)) →
    IsNext m old now cs i (get_or cs i d) next bus e
next_page m old now cs i d next bus e apart same h q held =
    let t = held_next m cs i d (page_frames old) next bus h q held in
    let inside : next < length now = omega (arith, t.0, same_count now old same) in
    let at = frame_at now (page_frames old) next e same inside in
    let here : IsPageHeld m (get_or cs i d) (get_or now next e).frame = subst (IsPageHeld m (get_or cs i d)) at t.1 in
    record {
      inside = inside;
      held = here;
      away = ap (memory_has_frame m) (sym at) ∙ apart.away next 0 t.0;
      frame = bus_begin m (get_or cs i d) bus (get_or now next e).frame q here;
      rest = t.2;
    }

-- frames after one of the pages was written
pub frames_written : (now old : List FrameBytes) (k : ℕ) (new d : FrameBytes) → page_frames now ≡ page_frames old →
    new.frame ≡ (get_or now k d).frame → page_frames (set now k new) ≡ page_frames old
frames_written now old k new d same e = map-set_same (λ (p : FrameBytes). p.frame) now k new d e ∙ same

-- a chunk is copied into the next page
pub step_in : (m : FrameMemory) (old now : List FrameBytes) (cs : List Chunk) (i : ℕ) (c : Chunk) (next : ℕ) (bus : Pa)
    (e new : FrameBytes) (off len from to : ℕ) → AreApart m (page_frames old) →
    page_frames now ≡ page_frames old → c.page ≡ Some bus
    → IsNext m old now cs i c next bus e → from ≡ off - c.at → to ≡ off + len - c.at →
    new.frame ≡ (get_or now next e).frame
    → IsWritten (get_or now next e) new (part from to (run_of bus.0 (chunk_len c)))
    (map (wire m) (part from to (addresses (chunk_extents c))))
    → with_bytes_of (set now next new) (wire m)
    ≡ copied (λ p. p.bus) (λ p. p.pa) (with_bytes_of old (wire m))
    (chunk_range off len c) (with_bytes_of now (wire m))
step_in m old now cs i c next bus e new off len from to apart same q at h k frame is =
    let page : get_or now next e ≡ get_or now next no_page = get_or_default now next e no_page at.inside in
    chunk_in m old now next new off len c bus (get_or now next e).frame apart same at.inside (frame
    ∙ ap (λ (p : FrameBytes). p.frame) page) q at.held at.away
    (subst (λ (p : FrameBytes). IsWritten p new (part (off - c.at) (off + len - c.at) (run_of bus.0 (chunk_len c)))
    (map (wire m) (part (off - c.at) (off + len - c.at) (addresses (chunk_extents c))))) page
    (subst (λ n. IsWritten (get_or now next e) new (part (off - c.at) n (run_of bus.0 (chunk_len c)))
    (map (wire m) (part (off - c.at) n (addresses (chunk_extents c))))) k
    (subst (λ n. IsWritten (get_or now next e) new (part n to (run_of bus.0 (chunk_len c)))
    (map (wire m) (part n to (addresses (chunk_extents c))))) h is)))

-- ---- a chunk is copied out of its page
page_bytes : (pages : List FrameBytes) (k : ℕ) (w : Wire) (keys : List ℕ) →
    AllPairs (λ f g. f ≢ g) (page_frames pages) →
    k < length pages → AllByRecursion (λ b. b / 4096 ≡ (get_or pages k no_page).frame) keys
    → map (page_byte (get_or pages k no_page)) keys ≡ map (with_bytes_of pages w) keys
page_bytes pages k w keys differ h at =
    same_reads keys (page_byte (get_or pages k no_page)) (with_bytes_of pages w)
    (all_imply _ _ (λ b q. sym (page_at pages k w b differ h q)) keys at)

pub chunk_out : (m : FrameMemory) (pages : List FrameBytes) (w0 now new : Wire) (k : ℕ) (off len : ℕ) (c : Chunk)
    (bus : Pa)
    → AreApart m (page_frames pages) → k < length pages → c.page ≡ Some bus →
    IsPageHeld m c (get_or pages k no_page).frame →
    memory_has_frame m (get_or pages k no_page).frame ≡ false
    → (let from = off - c.at in let to = off + len - c.at in
    new ≡ put (part from to (addresses (chunk_extents c)))
    (map (page_byte (get_or pages k no_page)) (part from to (run_of bus.0 (chunk_len c)))) now)
    → with_bytes_of pages new ≡ copied (λ p. p.pa) (λ p. p.bus) (with_bytes_of pages w0)
    (chunk_range off len c) (with_bytes_of pages now)
chunk_out m pages w0 now new k off len c bus apart h paged held away is =
    let from = off - c.at in
    let to = off + len - c.at in
    let keys = part from to (addresses (chunk_extents c)) in
    let at = bus_frame m c bus (get_or pages k no_page).frame paged held in
    let bytes =
    page_bytes pages k w0 (part from to (bus_addresses c)) apart.differ h
    (all_part _ from to (bus_addresses c) at) in
    ap (with_bytes_of pages) is
    ∙ put_under pages keys _ now (all_imply (λ a. memory_has_frame m (a / 4096) ≡ true) _
    (λ a q. none_apart m pages (a / 4096) apart.away q) keys
    (all_part (λ a. memory_has_frame m (a / 4096) ≡ true) from to _
    (in_frames m (chunk_extents c) held.buffer.extents held.buffer.frames)))
    ∙ ap (λ xs. put keys (map (page_byte (get_or pages k no_page)) (part from to xs)) (with_bytes_of pages now))
    (sym (bus_run c bus paged))
    ∙ ap (λ vs. put keys vs (with_bytes_of pages now)) bytes
    ∙ ap (λ xs. put keys (map (with_bytes_of pages w0) xs) (with_bytes_of pages now)) (sym (range_buses off len c))
    ∙ ap (λ xs. put xs (map (with_bytes_of pages w0) (buses (chunk_range off len c))) (with_bytes_of pages now))
    (sym (range_buffers off len c))
    ∙ ap (λ ps. put (buffers ps) (map (with_bytes_of pages w0) (buses ps)) (with_bytes_of pages now))
    (sym (bounced_range m off len c bus _ paged held away))

-- a chunk is copied out of the next page
pub step_out : (m : FrameMemory) (pages : List FrameBytes) (w0 now new : Wire) (cs : List Chunk) (i : ℕ) (c : Chunk)
    (next : ℕ) (bus : Pa) (e page : FrameBytes) (off len from to : ℕ) → page ≡ get_or pages next e →
    AreApart m (page_frames pages) → c.page ≡ Some bus
    → IsNext m pages pages cs i c next bus e → from ≡ off - c.at → to ≡ off + len - c.at
    → new ≡ put (part from to (addresses (chunk_extents c)))
    (map (page_byte page) (part from to (run_of bus.0 (chunk_len c)))) now
    → with_bytes_of pages new ≡ copied (λ p. p.pa) (λ p. p.bus) (with_bytes_of pages w0)
    (chunk_range off len c) (with_bytes_of pages now)
step_out m pages w0 now new cs i c next bus e shown off len from to there apart q at h k is =
    let page : get_or pages next e ≡ get_or pages next no_page = get_or_default pages next e no_page at.inside in
    chunk_out m pages w0 now new next off len c bus apart at.inside q
    (subst (λ (p : FrameBytes). IsPageHeld m c p.frame) page at.held)
    (ap (λ (p : FrameBytes). memory_has_frame m p.frame) (sym page) ∙ at.away)
    (is
    ∙ ap (λ (p : FrameBytes). put (part from to (addresses (chunk_extents c)))
    (map (page_byte p) (part from to (run_of bus.0 (chunk_len c)))) now) there
    ∙ ap (λ n. put (part n to (addresses (chunk_extents c)))
    (map (page_byte (get_or pages next e)) (part n to (run_of bus.0 (chunk_len c)))) now) h
    ∙ ap (λ n. put (part (off - c.at) n (addresses (chunk_extents c)))
    (map (page_byte (get_or pages next e)) (part (off - c.at) n (run_of bus.0 (chunk_len c)))) now) k
    ∙ ap (λ (p : FrameBytes). put (part (off - c.at) (off + len - c.at) (addresses (chunk_extents c)))
    (map (page_byte p) (part (off - c.at) (off + len - c.at) (run_of bus.0 (chunk_len c)))) now) page)
