-- The bytes of a resend: where its chain and its clusters lie, and what is held once they are copied.
use Rattle.std.proofs.Common.{◌≡◌, ◌≢◌, ◌≤◌, ◌^◌, ◌⊎◌, inl, inr, ℕ, zero, suc, ◌==◌, ◌||◌, Bool, true, false, cond}
use Rattle.std.proofs.Common.{List, [], ◌∷◌, length, map, Option, Some, None, slice_get, refl, sym, ap, ◌∙◌, subst, arith}
use Rattle.std.proofs.lemmas.Bool.{ne_eqb, eq-eqb, false≢true}
use Rattle.std.proofs.lemmas.List.{length-map}
use Rattle.std.specs.FinMap.{FinMap, entries, get, get-entries}
use Rattle.std.specs.List.{AllByRecursion, list_any}
use Rattle.std.specs.Option.{option_map}
use Rattle.std.specs.Ordering.{nat_cmp}
use Rattle.busdma_machine.specs.declared.machine.address.Extent.{Extent}
use Rattle.busdma_machine.specs.declared.machine.address.Span.{Span}
use Rattle.busdma_machine.specs.declared.machine.bio.Bio.TheVariants.{Vector}
use Rattle.busdma_machine.specs.declared.report.Judged.TheVariants.{Fine}
use Rattle.busdma_machine.specs.Machine.Entry.{entries_addresses}
use Rattle.busdma_machine.specs.Machine.Page.{FrameBytes}
use Rattle.busdma_machine.specs.Machine.PageList.{page_addresses}
use Rattle.busdma_machine.specs.Machine.Spans.{span_addresses, span_bytes}
use Rattle.busdma_machine.specs.Machine.Wire.{put, with_bytes_of}
use Rattle.busdma_machine.specs.Runs.{addresses, byte_count}
use Rattle.busdma_base.specs.Scenarios.Buffers.{AreClustersFor}
use Rattle.loan_table.specs.Table.{AreIn, set_all}
use Rattle.mbuf_defrag.specs.Copying.{IsAway, ShareNone}
use Rattle.phys_memory.specs.Memory.{FrameMemory, wire}
use Rattle.ideal_lane.specs.Accesses.{values}
use Rattle.ideal_lane.specs.IdealMemory.{value}
use Rattle.ideal_lane.specs.Loads.{load_addresses, load_entries, load_judged, load_translation}
use Rattle.ideal_lane.specs.Sends.{Send, chain_bytes, cluster_bytes, copied, due_send}
use Rattle.ideal_lane.specs.State.{LaneState}
use Rattle.ideal_lane.specs.Syncs.{bounced_in}
use Rattle.ideal_lane.specs.Unloads.{pages_of}
use Rattle.ideal_lane.proofs.Sent.{due-clusters}
use Rattle.ideal_wire.specs.Centre.{IsFaithful}
use Rattle.ideal_wire.specs.Traces.{stage_in}
use Rattle.ideal_wire.specs.WireStep as wires
use Rattle.ideal_wire.proofs.Loads.Bios.{bio-paged}
use Rattle.ideal_wire.proofs.Loads.Buffers.{all-at}
use Rattle.ideal_wire.proofs.Loads.Clusters.{byte-at, same-count}
use Rattle.ideal_wire.proofs.Faithful.CopiedClusters.{copied-faithful, copied-own}
use Rattle.ideal_wire.proofs.Apart.ReachedOnce.{reached-once}
use Rattle.ideal_wire.proofs.Loads.Reaching.{all-from, each-byte, entries-bytes}
use Rattle.lane_state.specs.declared.holdings.Holdings.{Holdings}
use Rattle.lane_state.specs.declared.kept.KeptMap.{KeptMap}
use Rattle.lane_state.specs.Changes.{KeepsWhatStays}
use Rattle.lane_state.specs.Covered.{lends_pages}
use Rattle.lane_state.specs.Held.{byte_among, content_of, devices_of, held}
use Rattle.lane_state.specs.Ideal.{ideal_of}
use Rattle.lane_state.specs.Kept.{device_of, map_of}
use Rattle.lane_state.specs.Wire.{IsWired, held_pages, wire_of}
use Rattle.lane_state.proofs.Bytes.{byte-apart}
use Rattle.lane_state.proofs.CoveredLaws.{byte_count_is}
use Rattle.lane_state.proofs.HeldMemory.{held-is, mark_of}
use Rattle.lane_state.proofs.Lying.{chunks-in, pages-in}
use Rattle.lane_state.proofs.MapValues.{get-map_values}
use Rattle.lane_state.proofs.MarkedMemory.{marks-held, marks-written}
use Rattle.lane_state.proofs.Marks.{get-set_all}
use Rattle.lane_state.proofs.OwnBytes.{own-put, own-reads}
use Rattle.lane_sends.specs.Resends.{AreItsBytes, IsUnrefused}
use Rattle.lane_sends.proofs.LoadEndings.{AreLoansOf, IsAfterLoad, More, Same}
use Rattle.lane_loads.proofs.Loaded.{held-loaded}

-- ---- numbers that are none of others

away : (a : ℕ) (others : List ℕ) → ((j b : ℕ) → slice_get others j ≡ Some b → a ≢ b) → IsAway others a
away a [] h = refl
away a (b ∷ bs) h =
    ap (λ t. t || list_any (λ c. a == c) bs) (ne_eqb a b (h 0 b refl)) ∙ away a bs (λ j c e. h (suc j) c e)

apart : (a : ℕ) (others : List ℕ) → IsAway others a → (j b : ℕ) → slice_get others j ≡ Some b → a ≢ b
apart a [] h j b e = absurd (cc)
apart a (c ∷ cs) h j b e = by (a == c) refl h j e (λ g i at. apart a cs g i b at)
  where
    by : (t : Bool) → (a == c) ≡ t → (t || list_any (λ d. a == d) cs) ≡ false → (j : ℕ) →
        slice_get (c ∷ cs) j ≡ Some b →
        (IsAway cs a → (i : ℕ) → slice_get cs i ≡ Some b → a ≢ b) → a ≢ b
    by true t g j e rest same = absurd (cc)
    by false t g zero e rest same =
        let is : c ≡ b = cc in false≢true (sym t ∙ eq-eqb a c (same ∙ sym is))
    by false t g (suc j) e rest same = rest g j e same

-- ---- where the bytes lie

module _ (h : Holdings) (wired : IsWired h) (s : Send) (due : due_send (ideal_of h) ≡ Some s) where
  abbrev l : LaneState
  l = ideal_of h

  pub its-clusters : AreClustersFor s.chain s.clusters
  its-clusters = due-clusters l s due wired.machine.clusters

  -- the clusters have as few bytes as the chain
  pub clusters-small : span_bytes s.chain ≤ 2 ^ 20 → span_bytes s.clusters ≤ 2 ^ 20
  clusters-small small = let alike = its-clusters.alike in omega (arith, alike, small)

  pub chain-fine : load_judged l s.map (Vector s.chain) ≡ Fine
  chain-fine = wired.machine.due s due

  vector-bytes : (spans : List Span) → load_judged l s.map (Vector spans) ≡ Fine →
      entries_addresses (load_entries l (Vector spans)) ≡ load_addresses l (Vector spans)
  vector-bytes spans fine =
      entries-bytes (load_translation l (Vector spans)) (bio-paged l wired.laid wired.machine (Vector spans) tt) true
      spans
      (all-from _ (span_addresses spans) (λ k va e.
      let r = each-byte l s.map (Vector spans) fine k va e in (r.0, r.1)))

  pub its-bytes : (from to : List Extent) → addresses from ≡ entries_addresses (load_entries l (Vector s.chain)) →
      addresses to ≡ entries_addresses (load_entries l (Vector s.clusters)) → AreItsBytes l s from to
  its-bytes from to e f = record {
    chain = e ∙ vector-bytes s.chain chain-fine;
    clusters = λ fine. f ∙ vector-bytes s.clusters fine;
  }

  module _ (u : IsUnrefused l s) (from to : List Extent) (are : AreItsBytes l s from to) where
    clusters-are : addresses to ≡ cluster_bytes s l
    clusters-are = are.clusters u.loads

    count : length (cluster_bytes s l) ≡ length (values l (chain_bytes s l))
    count = same-count l wired.laid s wired.apart wired.machine its-clusters u.loads

    pub bytes-alike : byte_count from ≡ byte_count to
    bytes-alike =
        byte_count_is from ∙ ap length are.chain
        ∙ sym (length-map (chain_bytes s l) (λ a. value (l.memory a)))
        ∙ sym count ∙ ap length (sym clusters-are) ∙ sym (byte_count_is to)

    -- no byte of the chain is one of the clusters
    pub share-none : ShareNone from to
    share-none =
        subst (λ bs. AllByRecursion (IsAway bs) (addresses from)) (sym clusters-are)
        (subst (AllByRecursion (IsAway (cluster_bytes s l))) (sym are.chain)
        (all-from (IsAway (cluster_bytes s l)) (chain_bytes s l) (λ k a e.
        let x = byte-at l wired.laid s s.chain chain-fine k a e in
        away a (cluster_bytes s l) (λ j b f same.
        let y = byte-at l wired.laid s s.clusters u.loads j b f in
        apart x.0 (span_addresses s.clusters) (all-at _ (span_addresses s.chain) k x.0 its-clusters.apart x.1)
        j y.0 y.1
        (reached-once l wired.laid wired.apart wired.machine x.0 y.0 a x.2 (y.2 ∙ ap (λ c. Some c) (sym same)))))))

    -- ---- what is held after the copy

    module _ (there : AreIn h.loans.bytes (addresses from)) (inside : AreIn h.loans.bytes (addresses to))
        (n : FrameMemory)
        (is : wire n ≡ put (addresses to) (map (wire h.memory.memory) (addresses from)) (wire h.memory.memory)) where
      wire-copied : with_bytes_of (held_pages h.maps.map) (wire n) ≡ wires.wire_copied s l (wire_of h)
      wire-copied =
          own-put h wired (addresses to) (map (wire h.memory.memory) (addresses from)) inside n is
          ∙ ap (λ vs. put (addresses to) vs (wire_of h)) (own-reads h wired (addresses from) there)
          ∙ (λ i. put (clusters-are i) (map (wire_of h) (are.chain i)) (wire_of h))

      pub held-copied :
          held (set_all h.loans.bytes (addresses to) true) h.loans.loans (devices_of h.maps.map) n ≡ (copied s l).memory
      held-copied =
          held-is l wired.laid wired.apart h.maps.map refl h.unlent n (copied s l).memory h.loans.loans
          (subst (IsFaithful (copied s l)) (sym wire-copied)
          (copied-faithful l s (wire_of h) wired.apart wired.laid wired.faithful u.loads u.reads u.writes))
          (λ k. refl)
          (λ a mine. sym (copied-own l s a) ∙ mine)
          (set_all h.loans.bytes (addresses to) true)
          (λ a. ap (λ bs. get (set_all h.loans.bytes bs true) a) clusters-are
          ∙ marks-written h.loans.bytes l.memory (cluster_bytes s l) (values l (chain_bytes s l)) count
          (subst (AreIn h.loans.bytes) clusters-are inside)
          (marks-held h.loans.bytes h.loans.loans (devices_of h.maps.map) h.memory.memory) a)

-- ---- what is held before a load is held after it

no-pages : (ps : List FrameBytes) → page_addresses ps ≡ [] → ps ≡ []
no-pages [] e = refl
no-pages (p ∷ ps) e = absurd (cc)

-- two maps with the same ideal state have the same chunks and pages
device-alike : (o p : Option KeptMap) → lends_pages o ≡ false → lends_pages p ≡ false →
    option_map map_of p ≡ option_map map_of o →
    ((device_of p).pages ≡ (device_of o).pages) ⊎ (((device_of o).pages ≡ []) ⊎ ((device_of p).pages ≡ [])) →
    device_of p ≡ device_of o
device-alike o p kept lent same pages =
    λ i. record { chunks = chunks i; pages = (by pages) i }
  where
    chunks : (device_of p).chunks ≡ (device_of o).chunks
    chunks = chunks-in p ∙ ap (λ x. bounced_in (stage_in x)) same ∙ sym (chunks-in o)

    at : page_addresses (device_of p).pages ≡ page_addresses (device_of o).pages
    at = pages-in p lent ∙ ap (λ x. pages_of (stage_in x)) same ∙ sym (pages-in o kept)

    by : ((device_of p).pages ≡ (device_of o).pages) ⊎ (((device_of o).pages ≡ []) ⊎ ((device_of p).pages ≡ [])) →
        (device_of p).pages ≡ (device_of o).pages
    by (inl e) = e
    by (inr (inl none)) = no-pages (device_of p).pages (at ∙ ap page_addresses none) ∙ sym none
    by (inr (inr none)) = none ∙ sym (no-pages (device_of o).pages (sym at ∙ ap page_addresses none))

module _ (h k : Holdings) (m : ℕ) (after : IsAfterLoad m (ideal_of h) (ideal_of k)) (stays : KeepsWhatStays h k)
    (unloaned : get h.loans.loans m ≡ None) where
  devices : (q : ℕ) → (m == q) ≡ false → devices_of k.maps.map q ≡ devices_of h.maps.map q
  devices q off =
      device-alike (get h.maps.map q) (get k.maps.map q) (h.unlent q) (k.unlent q)
      (sym (get-map_values map_of k.maps.map q) ∙ after.others q off ∙ get-map_values map_of h.maps.map q)
      (stays.pages q)

  pub marks : (a : ℕ) → get k.loans.bytes a ≡ get h.loans.bytes a
  marks a =
      marks-held k.loans.bytes k.loans.loans (devices_of k.maps.map) k.memory.memory a
      ∙ ap (λ w. mark_of (w a)) after.memory
      ∙ sym (marks-held h.loans.bytes h.loans.loans (devices_of h.maps.map) h.memory.memory a)

  module _ (n : FrameMemory) where
    by-loans : (bytes : FinMap nat_cmp Bool) → AreLoansOf m h.loans.loans k.loans.loans →
        held bytes k.loans.loans (devices_of k.maps.map) n ≡ held bytes h.loans.loans (devices_of h.maps.map) n
    by-loans bytes (Same e) =
        ap (λ ls. held bytes ls (devices_of k.maps.map) n) e
        ∙ (λ i a. content_of (get bytes a) (byte-apart n (devices_of h.maps.map) (devices_of k.maps.map) m
        (entries h.loans.loans) a (sym (get-entries h.loans.loans m) ∙ unloaned) devices i))
    by-loans bytes (More coherent pas e) =
        ap (λ ls. held bytes ls (devices_of k.maps.map) n) e
        ∙ held-loaded bytes h.loans.loans n (devices_of h.maps.map) (devices_of k.maps.map) m coherent pas unloaned
        devices

    pub held-behind : (pas : List ℕ) →
        held (set_all k.loans.bytes pas true) k.loans.loans (devices_of k.maps.map) n
        ≡ held (set_all h.loans.bytes pas true) h.loans.loans (devices_of h.maps.map) n
    held-behind pas =
        (λ i a. content_of (marked a i) (byte_among (devices_of k.maps.map) n (entries k.loans.loans) a))
        ∙ by-loans (set_all h.loans.bytes pas true) after.loans
      where
        marked : (a : ℕ) → get (set_all k.loans.bytes pas true) a ≡ get (set_all h.loans.bytes pas true) a
        marked a =
            get-set_all k.loans.bytes pas true a
            ∙ ap (cond (list_any (λ b. a == b) pas) (Some true)) (marks a)
            ∙ sym (get-set_all h.loans.bytes pas true a)
