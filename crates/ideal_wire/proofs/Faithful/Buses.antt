-- Where the places of a trace are.
use Rattle.std.proofs.Common.{◌≡◌, ℕ, zero, suc, ◌+◌, ◌-◌, ◌<◌, ◌≤◌, ◌/◌, ◌%◌, ◌*◌, Bool, true, false, cond, List, []}
use Rattle.std.proofs.Common.{◌∷◌, map, slice_get, Some, ◌⊎◌, inl, inr, refl, sym, ap, ◌∙◌, arith, nat_le, nat_lt}
use Rattle.std.proofs.lemmas.Bool.{and_parts, leb-true, ltb-true}
use Rattle.std.specs.List.{AllZip}
use Rattle.busdma_machine.specs.declared.machine.chunk.Chunk.{Chunk}
use Rattle.busdma_machine.specs.Machine.Wire.{Placed}
use Rattle.busdma_rules.specs.Segments.Trace.{chunk_len, bus_extent}
use Rattle.ideal_wire.specs.Laid.{IsInPage}
use Rattle.ideal_wire.specs.Traces.{has_place, bus_at, placed_from}
use Rattle.ideal_wire.proofs.Laid.Positions.{found_one}

-- a place of a load lies in the page of the chunk that has it
pub record IsBounced (cs : List Chunk) (pages : List ℕ) (k bus : ℕ) : Type 0 where
  pub index : ℕ
  pub chunk : Chunk
  pub page : ℕ
  pub has_chunk : slice_get cs index ≡ Some chunk
  pub has_page : slice_get pages index ≡ Some page
  pub behind : chunk.at ≤ k
  pub bus_is : bus ≡ (bus_extent chunk).pa.0 + (k - chunk.at)
  pub whole : page % 4096 ≡ 0
  pub low : page ≤ bus
  pub high : bus < page + 4096

in-page : (c : Chunk) (page k : ℕ) → IsInPage c page → has_place k c ≡ true →
    (page % 4096 ≡ 0) × (page ≤ (bus_extent c).pa.0 + (k - c.at))
    × ((bus_extent c).pa.0 + (k - c.at) < page + 4096) × (c.at ≤ k)
in-page c page k p h =
    let base : ℕ = (bus_extent c).pa.0 in
    let parts = and_parts (nat_le c.at k) (nat_lt k (c.at + chunk_len c)) h in
    let low : c.at ≤ k = leb-true c.at k parts.0 in
    let high : k < c.at + chunk_len c = ltb-true k (c.at + chunk_len c) parts.1 in
    let inside : base % 4096 + chunk_len c ≤ 4096 = p.bus.in_frame in
    let frame : base / 4096 * 4096 ≡ page = p.frame in (
      omega (arith, frame),
      omega (arith, frame, low),
      omega (arith, frame, low, high, inside),
      low,
    )

-- a bus address is the byte's own, or lies in a page
pub bus-cases : (cs : List Chunk) (pages : List ℕ) (k pa : ℕ) → AllZip IsInPage cs pages →
    (bus_at cs k pa ≡ pa) ⊎ IsBounced cs pages k (bus_at cs k pa)
bus-cases [] [] k pa z = inl refl
bus-cases [] (p ∷ ps) k pa z = absurd z
bus-cases (c ∷ cs) [] k pa z = absurd z
bus-cases (c ∷ cs) (p ∷ ps) k pa z = by (has_place k c) refl (bus-cases cs ps k pa z.1)
  where
    at_page : ℕ
    at_page = (bus_extent c).pa.0 + (k - c.at)

    by : (b : Bool) → has_place k c ≡ b → (bus_at cs k pa ≡ pa) ⊎ IsBounced cs ps k (bus_at cs k pa) →
        (cond b at_page (bus_at cs k pa) ≡ pa) ⊎ IsBounced (c ∷ cs) (p ∷ ps) k (cond b at_page (bus_at cs k pa))
    by true e rest = let q = in-page c p k z.0 e in inr (record {
      index = 0;
      chunk = c;
      page = p;
      has_chunk = refl;
      has_page = refl;
      behind = q.3;
      bus_is = refl;
      whole = q.0;
      low = q.1;
      high = q.2;
    })
    by false e (inl s) = inl s
    by false e (inr s) = inr (record {
      index = suc s.index;
      chunk = s.chunk;
      page = s.page;
      has_chunk = s.has_chunk;
      has_page = s.has_page;
      behind = s.behind;
      bus_is = s.bus_is;
      whole = s.whole;
      low = s.low;
      high = s.high;
    })

-- what is at a place of a trace
pub placed-at : (cs : List Chunk) (at : ℕ) (pas : List ℕ) (i : ℕ) (t : Placed) →
    slice_get (placed_from cs at pas) i ≡ Some t →
    (slice_get pas i ≡ Some t.pa) × (t.bus ≡ bus_at cs (at + i) t.pa)
placed-at cs at [] i t h = absurd (cc)
placed-at cs at (pa ∷ pas) zero t h =
    let e : record { pa = pa; bus = bus_at cs at pa } ≡ t = found_one (Some _)
    (record { pa = pa; bus = bus_at cs at pa }) t refl h in
    let here : at + 0 ≡ at = omega arith in (
      ap (λ (u : Placed). Some u.pa) e,
      sym (ap (λ (u : Placed). u.bus) e) ∙ ap (λ k. bus_at cs k pa) (sym here)
          ∙ ap (λ (u : Placed). bus_at cs (at + 0) u.pa) e,
    )
placed-at cs at (pa ∷ pas) (suc i) t h =
    let r = placed-at cs (at + 1) pas i t h in
    let there : at + 1 + i ≡ at + suc i = omega arith in
    (r.0, r.1 ∙ ap (λ k. bus_at cs k t.pa) there)

pub placed-buffers : (cs : List Chunk) (at : ℕ) (pas : List ℕ) → map (λ (t : Placed). t.pa) (placed_from cs at pas) ≡
    pas
placed-buffers cs at [] = refl
placed-buffers cs at (pa ∷ pas) = ap (λ xs. pa ∷ xs) (placed-buffers cs (at + 1) pas)
