-- What a copy of a range of a load makes of what is held.
use Rattle.std.proofs.Common.{◌≡◌, ℕ, zero, suc, ◌+◌, ◌-◌, ◌≤◌, ◌&&◌, ◌||◌, min, max, Bool, true, false, cond}
use Rattle.std.proofs.Common.{List, [], ◌∷◌, ◌++◌, map, drop, length, Option, Some, None, is_some, slice_get}
use Rattle.std.proofs.Common.{refl, sym, ap}
use Rattle.std.proofs.Common.{◌∙◌, subst, arith, length-take, length-drop}
use Rattle.std.proofs.lemmas.Option.{slice_get-map}
use Rattle.std.proofs.lemmas.Bool.{ltb-false}
use Rattle.std.specs.List.{AllByRecursion, filter, list_any}
use Rattle.std.specs.FinMap.{get}
use Rattle.busdma_machine.specs.declared.machine.chunk.Chunk.{Chunk}
use Rattle.busdma_machine.specs.Machine.Wire.{Placed, Wire, buffers, buses, copied_in, copied_out, is_bounced, put}
use Rattle.busdma_machine.specs.Machine.Wire.{stretch}
use Rattle.busdma_machine.specs.Machine.Wire.{with_bytes_of}
use Rattle.busdma_machine.specs.Runs.{addresses}
use Rattle.lane_state.specs.declared.kept.KeptLoad.{KeptLoad}
use Rattle.dma_map.specs.MapView as held
use Rattle.busdma_rules.specs.Tags.SyncOps.{postread, prewrite}
use Rattle.busdma_rules.specs.Lending.Loans.{loan_of}
use Rattle.map_sync.specs.Ranges.{chunk_range, range_of_chunks}
use Rattle.busdma_rules.specs.Syncs.Positions.{placed_at, positions_of}
use Rattle.map_sync.proofs.TraceLaws.{ranges_alike}
use Rattle.phys_memory.specs.Memory.{FrameMemory, wire}
use Rattle.busdma_rules.specs.Segments.Trace.{bus_addresses, chunk_extents, chunk_len}
use Rattle.ideal_lane.specs.Loads.{is_coherent}
use Rattle.ideal_lane.specs.State.{LaneState, LaneMemory}
use Rattle.ideal_lane.specs.Syncs.{has_byte_of}
use Rattle.ideal_wire.specs.Traces.{traces_of}
use Rattle.ideal_wire.specs.WireStep as wires
use Rattle.ideal_wire.specs.WireStep.{copied_by}
use Rattle.ideal_wire.proofs.Faithful.BytesPut.{same_reads}
use Rattle.ideal_wire.proofs.Faithful.PlacedLoads.{own-place}
use Rattle.ideal_wire.proofs.Laid.Positions.{found_one, of_range}
use Rattle.ideal_wire.proofs.Loads.Reaching.{all-from}
use Rattle.lane_state.specs.declared.holdings.Holdings.{Holdings}
use Rattle.lane_state.specs.declared.kept.KeptMap.{KeptMap}
use Rattle.lane_state.specs.Covered.{has_load}
use Rattle.lane_state.specs.Held.{device_view}
use Rattle.lane_state.specs.Ideal.{ideal_of}
use Rattle.lane_state.specs.Kept.{device_in, device_of}
use Rattle.lane_state.specs.PagesLent.{IsRepaged}
use Rattle.lane_state.specs.Wire.{IsWired, held_pages, wire_of}
use Rattle.lane_state.proofs.CoveredLaws.{byte_count_is}
use Rattle.lane_state.proofs.Devices.{Loading, loading}
use Rattle.lane_state.proofs.Keeping.{told-some}
use Rattle.lane_state.proofs.Lying.{own-mine, trace-mine}
use Rattle.lane_access.proofs.Repaging.{maps, repaged-put}
use Rattle.lane_state.proofs.Views.{IsMine, view-alike}

-- ---- elements of lists
all-at : {X : Type 0} (P : X → Type 0) (xs : List X) (i : ℕ) (x : X) → AllByRecursion P xs →
    slice_get xs i ≡ Some x → P x
all-at P [] i x h at = absurd (cc)
all-at P (y ∷ xs) zero x h at = subst P (found_one (Some y) y x refl at) h.0
all-at P (y ∷ xs) (suc i) x h at = all-at P xs i x h.1 at

all-filter : {X : Type 0} (P : X → Type 0) (test : X → Bool) (xs : List X) → AllByRecursion P xs →
    AllByRecursion P (filter test xs)
all-filter P test [] h = tt
all-filter P test (x ∷ xs) h = by (test x) (all-filter P test xs h.1)
  where
    by : (b : Bool) → AllByRecursion P (filter test xs) →
        AllByRecursion P (cond b (x ∷ filter test xs) (filter test xs))
    by true rest = (h.0, rest)
    by false rest = rest

empty-of : {X : Type 0} (xs : List X) → length xs ≡ 0 → xs ≡ []
empty-of [] e = refl
empty-of (x ∷ xs) e = absurd (omega arith)

-- ---- ranges without a bounced byte
placed-few : (pas bs : List ℕ) → length (placed_at pas bs) ≤ length pas
placed-few [] bs = omega arith
placed-few (pa ∷ pas) [] = omega arith
placed-few (pa ∷ pas) (b ∷ bs) = let rest = placed-few pas bs in omega (arith, rest)

chunk-none : (off len : ℕ) (c : Chunk) → has_byte_of off len c ≡ false → chunk_range off len c ≡ []
chunk-none off len c h =
    let none : min (off + len) (c.at + chunk_len c) ≤ max off c.at =
    ltb-false (max off c.at) (min (off + len) (c.at + chunk_len c)) h in
    let few = placed-few (addresses (chunk_extents c)) (bus_addresses c) in
    let long : chunk_len c ≡ length (addresses (chunk_extents c)) = byte_count_is (chunk_extents c) in
    empty-of (chunk_range off len c)
    (omega (
      arith,
      none,
      few,
      long,
      length-take (off + len - c.at - (off - c.at)) (drop (off - c.at) (positions_of c)),
      length-drop (off - c.at) (positions_of c),
    ))

range-none : (off len : ℕ) (cs : List Chunk) → list_any (has_byte_of off len) cs ≡ false →
    range_of_chunks off len cs ≡ []
range-none off len [] h = refl
range-none off len (c ∷ cs) h = by (has_byte_of off len c) refl h (range-none off len cs)
  where
    by : (b : Bool) → has_byte_of off len c ≡ b → (b || list_any (has_byte_of off len) cs) ≡ false →
        (list_any (has_byte_of off len) cs ≡ false → range_of_chunks off len cs ≡ []) →
        range_of_chunks off len (c ∷ cs) ≡ []
    by true e g rest = absurd (cc)
    by false e g rest = ap (λ xs. xs ++ range_of_chunks off len cs) (chunk-none off len c e) ∙ rest g

none-copied : (ops : ℕ) (ps : List Placed) (w : Wire) → ps ≡ [] → copied_by ops ps w ≡ w
none-copied ops ps w none = ap (λ xs. copied_by ops xs w) none ∙ by (prewrite ops) (postread ops)
  where
    by : (a b : Bool) → cond a (copied_in [] w) (cond b (copied_out [] w) w) ≡ w
    by true b = refl
    by false true = refl
    by false false = refl

-- a copy of nothing
pub idle-copy : (off len ops : ℕ) (cs : List Chunk) (w : Wire) →
    ((prewrite ops || postread ops) && list_any (has_byte_of off len) cs) ≡ false →
    w ≡ copied_by ops (range_of_chunks off len cs) w
idle-copy off len ops cs w h = by (prewrite ops) (postread ops) refl refl h
  where
    by : (a b : Bool) → prewrite ops ≡ a → postread ops ≡ b → ((a || b) && list_any (has_byte_of off len) cs) ≡ false →
        w ≡ copied_by ops (range_of_chunks off len cs) w
    by true b e f g = sym (none-copied ops (range_of_chunks off len cs) w (range-none off len cs g))
    by false true e f g = sym (none-copied ops (range_of_chunks off len cs) w (range-none off len cs g))
    by false false e f g =
        sym (ap (λ x. cond x (copied_in (range_of_chunks off len cs) w) (cond (postread ops)
        (copied_out (range_of_chunks off len cs) w) w)) e
        ∙ ap (λ x. cond x (copied_out (range_of_chunks off len cs) w) w) f)

-- ---- a copy of a range of a map's load
module _ (h : Holdings) (wired : IsWired h) (k : ℕ) (o : KeptMap) (there : get h.maps.map k ≡ Some o)
    (on : has_load (Some o) ≡ true) where
  abbrev l : LaneState
  l = ideal_of h

  abbrev x : Loading h wired k o there on
  x = loading h wired k o there on

  abbrev view : Wire
  view = device_view (device_in o.map.stage) h.memory.memory

  -- the chunks' range is copied as the trace's
  alike : (off len ops : ℕ) (w : Wire) →
      copied_by ops (range_of_chunks off len (held.held_chunks o.map.stage)) w
      ≡ copied_by ops (stretch off len (traces_of l k)) w
  alike off len ops w =
      ap (λ s. copied_by ops (range_of_chunks off len (held.held_chunks s)) w) x.stage
      ∙ by (prewrite ops) (postread ops)
    where
      cs : List Chunk
      cs = x.bounced

      by : (a b : Bool) →
          cond a (copied_in (range_of_chunks off len cs) w) (cond b (copied_out (range_of_chunks off len cs) w) w)
          ≡ cond a (copied_in (stretch off len (traces_of l k)) w)
          (cond b (copied_out (stretch off len (traces_of l k)) w) w)
      by true b = sym (ranges_alike off len cs (traces_of l k) x.load.chunks w).in_alike
      by false true = sym (ranges_alike off len cs (traces_of l k) x.load.chunks w).out_alike
      by false false = refl

  -- a position with no page of another map
  abbrev IsOurs : Placed → Type 0
  IsOurs t = IsMine h.maps.map k t.bus × IsMine h.maps.map k t.pa

  ours : (off len : ℕ) → AllByRecursion IsOurs (filter is_bounced (stretch off len (traces_of l k)))
  ours off len =
      all-filter IsOurs is_bounced (stretch off len (traces_of l k))
      (all-from IsOurs (stretch off len (traces_of l k)) (λ i t at.
      let whole = (of_range (traces_of l k) off len i t at).whole in (
        trace-mine l wired.laid wired.apart h.maps.map refl h.unlent k (off + i) t whole,
        own-mine l wired.laid wired.apart h.maps.map refl h.unlent k t.pa
            (wired.laid.owned t.pa (own-place l wired.laid k (off + i) t whole)),
      )))

  keys-ours : (f : Placed → ℕ) (ps : List Placed) → AllByRecursion (λ t. IsMine h.maps.map k (f t)) ps → (i a : ℕ) →
      slice_get (map f ps) i ≡ Some a → IsMine h.maps.map k a
  keys-ours f ps all i a at =
      let t = told-some f (slice_get ps i) a (sym (slice_get-map f ps i) ∙ at) in
      subst (IsMine h.maps.map k) t.2 (all-at (λ t. IsMine h.maps.map k (f t)) ps i t.0 all t.1)

  values-alike : (keys : List ℕ) → ((i a : ℕ) → slice_get keys i ≡ Some a → IsMine h.maps.map k a) →
      map view keys ≡ map (wire_of h) keys
  values-alike keys mine = same_reads keys view (wire_of h) (λ i a at.
      ap (λ q. device_view (device_of q) h.memory.memory a) (sym there)
      ∙ sym (view-alike h.maps.map k (wire h.memory.memory) a (mine i a at)))

  both : (P Q : Placed → Type 0) (ps : List Placed) → AllByRecursion (λ t. P t × Q t) ps →
      AllByRecursion P ps × AllByRecursion Q ps
  both P Q [] all = (tt, tt)
  both P Q (t ∷ ps) all = let rest = both P Q ps all.1 in ((all.0.0, rest.0), (all.0.1, rest.1))

  module _ (next : held.MapView KeptLoad) (repaged : IsRepaged o.map next) (n : FrameMemory) (off len ops : ℕ)
      (copied : device_view (device_in next.stage) n
      ≡ copied_by ops (range_of_chunks off len (held.held_chunks o.map.stage)) view) where
    abbrev now : Wire
    now = with_bytes_of (held_pages (maps h wired k o there on next repaged)) (wire n)

    range-copied : now ≡ copied_by ops (stretch off len (traces_of l k)) (wire_of h)
    range-copied = by (prewrite ops) (postread ops) (copied ∙ alike off len ops view)
      where
        ps : List Placed
        ps = filter is_bounced (stretch off len (traces_of l k))

        two : AllByRecursion (λ t. IsMine h.maps.map k t.bus) ps × AllByRecursion (λ t. IsMine h.maps.map k t.pa) ps
        two = both (λ t. IsMine h.maps.map k t.bus) (λ t. IsMine h.maps.map k t.pa) ps (ours off len)

        by : (a b : Bool) → device_view (device_in next.stage) n
            ≡ cond a (copied_in (stretch off len (traces_of l k)) view)
            (cond b (copied_out (stretch off len (traces_of l k)) view) view) →
            now
            ≡ cond a (copied_in (stretch off len (traces_of l k)) (wire_of h))
            (cond b (copied_out (stretch off len (traces_of l k)) (wire_of h)) (wire_of h))
        by true b is =
            repaged-put h wired k o there on next repaged n (buses ps) (map view (buffers ps))
            (keys-ours (λ t. t.bus) ps two.0) is
            ∙ ap (λ vs. put (buses ps) vs (wire_of h)) (values-alike (buffers ps) (keys-ours (λ t. t.pa) ps two.1))
        by false true is =
            repaged-put h wired k o there on next repaged n (buffers ps) (map view (buses ps))
            (keys-ours (λ t. t.pa) ps two.1) is
            ∙ ap (λ vs. put (buffers ps) vs (wire_of h)) (values-alike (buses ps) (keys-ours (λ t. t.bus) ps two.0))
        by false false is =
            repaged-put h wired k o there on next repaged n [] [] (λ i a at. absurd (cc)) is

    memory-of : is_coherent (get l.mems k) ≡ true → is_some (get l.mems k) ≡ true
    memory-of e = by (get l.mems k) e
      where
        by : (q : Option LaneMemory) → is_coherent q ≡ true → is_some q ≡ true
        by None g = absurd (cc)
        by (Some y) g = refl

    -- what is held is what the wire's definition says
    pub sync-copied : now ≡ wires.wire_synced k off len ops l (wire_of h)
    sync-copied = by (loan_of l.loans k).coherent refl
      where
        by : (b : Bool) → (loan_of l.loans k).coherent ≡ b →
            now ≡ cond b (wire_of h) (copied_by ops (stretch off len (traces_of l k)) (wire_of h))
        by false e = range-copied
        by true e =
            let none : x.bounced ≡ [] = x.load.direct (memory-of (sym x.load.coherent ∙ e)) in
            range-copied ∙ sym (alike off len ops (wire_of h))
            ∙ none-copied ops (range_of_chunks off len (held.held_chunks o.map.stage)) (wire_of h)
            (ap (λ s. range_of_chunks off len (held.held_chunks s)) x.stage ∙ ap (range_of_chunks off len) none)
