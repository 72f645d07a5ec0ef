-- The position of a byte at a device address.
use Rattle.std.proofs.Common.{◌≡◌, ℕ, ◌+◌, ◌-◌, ◌<◌, ◌≤◌, ◌==◌, ◌&&◌, Bool, true, false, zero, suc, List, [], ◌∷◌, ◌++◌}
use Rattle.std.proofs.Common.{slice_get, Option, Some, None, is_some, unwrap_or, nat_le, nat_lt, refl, sym, ap}
use Rattle.std.proofs.Common.{◌∙◌, arith, if◌then◌else◌}
use Rattle.std.proofs.lemmas.Bool.{and_parts, eqb-true, leb-true, ltb-true}
use Rattle.std.specs.FinMap.{get, entries, entries_sorted, get-entries}
use Rattle.busdma_machine.specs.declared.machine.address.Segment.{Segment}
use Rattle.busdma_machine.specs.Runs.{run_of}
use Rattle.busdma_rules.specs.declared.position.Position.{Position}
use Rattle.busdma_rules.specs.Lending.Loans.{loan_of}
use Rattle.busdma_rules.specs.Segments.Segmentation.{segment_bytes}
use Rattle.ideal_lane.specs.Accesses.{place_in, position_in}
use Rattle.ideal_lane.specs.State.{LaneState, LaneMap}
use Rattle.ideal_lane.specs.Unloads.{segments_in}
use Rattle.ideal_wire.specs.Centre.{IsAt}
use Rattle.ideal_wire.proofs.Faithful.Lent.{entry_found}
use Rattle.ideal_wire.proofs.Laid.Positions.{found_one}

-- ---- the place of a device address among the bytes of segments

-- the bytes of a run, and the bytes after it
in_run : (a n k : ℕ) (rest : List ℕ) → k < n → slice_get (run_of a n ++ rest) k ≡ Some (a + k)
in_run a zero k rest lt = absurd (omega (arith, lt))
in_run a (suc n) zero rest lt = let e : a ≡ a + 0 = omega arith in ap Some e
in_run a (suc n) (suc k) rest lt =
    let e : (a + 1) + k ≡ a + suc k = omega arith in in_run (a + 1) n k rest (omega (arith, lt)) ∙ ap Some e

behind_run : (a n k : ℕ) (rest : List ℕ) → slice_get (run_of a n ++ rest) (n + k) ≡ slice_get rest k
behind_run a zero k rest = let e : 0 + k ≡ k = omega arith in ap (slice_get rest) e
behind_run a (suc n) k rest =
    let e : suc n + k ≡ suc (n + k) = omega arith in
    ap (slice_get (run_of a (suc n) ++ rest)) e ∙ behind_run (a + 1) n k rest

-- so many bytes come before the segments, and the byte at a place after them has the address
record IsIn (before : ℕ) (ss : List Segment) (a i : ℕ) : Type 0 where
  place : ℕ
  is : i ≡ before + place
  there : slice_get (segment_bytes ss) place ≡ Some a

is-in : (before : ℕ) (ss : List Segment) (a i : ℕ) → place_in before ss a ≡ Some i → IsIn before ss a i
is-in before [] a i e = absurd (cc)
is-in before (s ∷ ss) a i e =
    by (nat_le s.addr.0 a && nat_lt a (s.addr.0 + s.len)) refl (is-in (before + s.len) ss a i) e
  where
    by : (b : Bool) → (nat_le s.addr.0 a && nat_lt a (s.addr.0 + s.len)) ≡ b →
        (place_in (before + s.len) ss a ≡ Some i → IsIn (before + s.len) ss a i) →
        (if b then Some (before + (a - s.addr.0)) else place_in (before + s.len) ss a) ≡ Some i →
        IsIn before (s ∷ ss) a i
    by true h rest is =
        let parts = and_parts (nat_le s.addr.0 a) (nat_lt a (s.addr.0 + s.len)) h in
        let low : s.addr.0 ≤ a = leb-true s.addr.0 a parts.0 in
        let high : a < s.addr.0 + s.len = ltb-true a (s.addr.0 + s.len) parts.1 in
        let e : s.addr.0 + (a - s.addr.0) ≡ a = omega (arith, low) in
        record {
          place = a - s.addr.0;
          is = sym (found_one (Some (before + (a - s.addr.0))) (before + (a - s.addr.0)) i refl is);
          there =
              in_run s.addr.0 s.len (a - s.addr.0) (segment_bytes ss) (omega (arith, low, high)) ∙ ap Some e;
        }
    by false h rest is =
        let r = rest is in
        record {
          place = s.len + r.place;
          is = omega (arith, r.is);
          there = behind_run s.addr.0 s.len r.place (segment_bytes ss) ∙ r.there;
        }

-- the place in a load is that of the address among the bytes of its segments
pub placed-byte : (ss : List Segment) (a i : ℕ) → place_in 0 ss a ≡ Some i → slice_get (segment_bytes ss) i ≡ Some a
placed-byte ss a i e =
    let r = is-in 0 ss a i e in
    let same : i ≡ r.place = omega (arith, r.is) in
    ap (slice_get (segment_bytes ss)) same ∙ r.there

-- ---- the position

-- a position is that of a map of the tag, of whose load the byte at the position's place has the address
pub record HasByte (l : LaneState) (t a : ℕ) (p : Position) : Type 0 where
  pub by_map : ℕ
  pub map : LaneMap
  pub there : get l.maps by_map ≡ Some map
  pub tag : map.tag ≡ t
  pub place : ℕ
  pub byte : slice_get (segment_bytes (segments_in map.stage)) place ≡ Some a
  pub at : IsAt l.loans by_map place p

some-is : (o : Option ℕ) → is_some o ≡ true → o ≡ Some (unwrap_or o 0)
some-is None h = absurd (cc)
some-is (Some x) h = refl

module _ (l : LaneState) (t a : ℕ) (p : Position) where
  record Found (es : List (ℕ × LaneMap)) : Type 0 where
    index : ℕ
    entry : ℕ × LaneMap
    there : slice_get es index ≡ Some entry
    passes : (entry.1.tag == t && is_some (place_in 0 (segments_in entry.1.stage) a)) ≡ true
    at : IsAt l.loans entry.0 (unwrap_or (place_in 0 (segments_in entry.1.stage) a) 0) p

  found : (es : List (ℕ × LaneMap)) → position_in l t a es ≡ Some p → Found es
  found [] e = absurd (cc)
  found (x ∷ es) e =
      by (x.1.tag == t && is_some (place_in 0 (segments_in x.1.stage) a)) refl (found es) e
    where
      by : (b : Bool) → (x.1.tag == t && is_some (place_in 0 (segments_in x.1.stage) a)) ≡ b →
          (position_in l t a es ≡ Some p → Found es) →
          (if b then slice_get (loan_of l.loans x.0).positions (unwrap_or (place_in 0 (segments_in x.1.stage) a) 0)
          else position_in l t a es) ≡ Some p → Found (x ∷ es)
      by true h rest is = record { index = 0; entry = x; there = refl; passes = h; at = is }
      by false h rest is =
          let r = rest is in
          record { index = suc r.index; entry = r.entry; there = r.there; passes = r.passes; at = r.at }

  pub position-found : position_in l t a (entries l.maps) ≡ Some p → HasByte l t a p
  position-found e =
      let r = found (entries l.maps) e in
      let parts = and_parts (r.entry.1.tag == t) (is_some (place_in 0 (segments_in r.entry.1.stage) a)) r.passes in
      record {
        by_map = r.entry.0;
        map = r.entry.1;
        there =
            get-entries l.maps r.entry.0
            ∙ entry_found (entries l.maps) (entries_sorted l.maps) r.index r.entry r.there;
        tag = eqb-true r.entry.1.tag t parts.0;
        place = unwrap_or (place_in 0 (segments_in r.entry.1.stage) a) 0;
        byte =
            placed-byte (segments_in r.entry.1.stage) a (unwrap_or (place_in 0 (segments_in r.entry.1.stage) a) 0)
            (some-is (place_in 0 (segments_in r.entry.1.stage) a) parts.1);
        at = r.at;
      }
