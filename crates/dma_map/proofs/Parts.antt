-- Where a range of bus addresses lies in segments that are cut in two, and why a part of them is skipped.
use Rattle.std.proofs.Common.{◌≡◌, ℕ, zero, suc, ◌+◌, ◌-◌, ◌^◌, ◌<◌, ◌≤◌, ◌∙◌, Bool, true, false, ◌&&◌, nat_le, nat_lt}
use Rattle.std.proofs.Common.{List, [], ◌∷◌, ◌++◌}
use Rattle.std.proofs.Common.{Option, Some, None, refl, ap, sym, subst, arith, take, drop, min, take-append-drop}
use Rattle.std.proofs.Common.{unwrap_or}
use Rattle.std.proofs.Common.{if◌then◌else◌}
use Rattle.std.proofs.lemmas.Bool.{leb-true, ltb-false, ltb-true}
use Rattle.std.proofs.lemmas.List.Elements.{All-head, All-tail, All-weaker}
use Rattle.std.proofs.lemmas.List.Sums.{sum_by-cons, sum_by-append}
use Rattle.std.specs.Int.{bit_at}
use Rattle.std.specs.List.{All, AllByRecursion}
use Rattle.std.specs.Option.{option_map}
use Rattle.busdma_machine.specs.declared.machine.address.Segment.{Segment}
use Rattle.ring_device.specs.Ends.{EndsLow}
use Rattle.busdma_rules.specs.Rings.Ranges.{address_of, segments_byte_count}
use Rattle.busdma_rules.specs.Rings.Ranges.{segment_holds, place_of}
use Rattle.dma_map.specs.declared.part.Part.{Part}
use Rattle.dma_map.specs.Pages.{HasPages, page_bit}
use Rattle.dma_map.specs.Parts.{ArePartsOf, IsBetween, IsMapPart}

-- the bytes of two lists of segments
pub bytes-append : (xs ys : List Segment) → segments_byte_count (xs ++ ys) ≡ segments_byte_count xs
    + segments_byte_count ys
bytes-append xs ys = sum_by-append (λ (s : Segment). s.len) xs ys

pub bytes-cut : (n : ℕ) (ss : List Segment) → segments_byte_count (take n ss) + segments_byte_count (drop n ss)
    ≡ segments_byte_count ss
bytes-cut n ss = sym (bytes-append (take n ss) (drop n ss)) ∙ ap segments_byte_count (take-append-drop n ss)

-- if no segment holds the range, it has no place
unheld : (addr len : ℕ) (ss : List Segment) → All (λ s. segment_holds addr len s ≡ false) ss → place_of addr len ss
    ≡ None
unheld addr len [] off = refl
unheld addr len (s ∷ ss) off =
    ap (λ b. if b then Some (addr - s.addr.0) else option_map (λ at. s.len + at) (place_of addr len ss))
    (All-head (λ t. segment_holds addr len t ≡ false) s ss off)
    ∙ ap (option_map (λ at. s.len + at))
    (unheld addr len ss (All-tail (λ t. segment_holds addr len t ≡ false) s ss off))

both : (b c : Bool) → b && c ≡ true → (b ≡ true) × (c ≡ true)
both true true h = (refl, refl)
both true false h = absurd (cc)
both false c h = absurd (cc)

not-held : (addr len : ℕ) (s : Segment) → (s.addr.0 ≤ addr → addr + len ≤ s.addr.0 + s.len → ⊥) →
    segment_holds addr len s ≡ false
not-held addr len s f = by (segment_holds addr len s) refl
  where
    by : (b : Bool) → segment_holds addr len s ≡ b → b ≡ false
    by true h =
        let two = both (nat_le s.addr.0 addr) (nat_le (addr + len) (s.addr.0 + s.len)) h in
        absurd (f (leb-true s.addr.0 addr two.0) (leb-true (addr + len) (s.addr.0 + s.len) two.1))
    by false h = refl

-- a range that begins before all segments
pub begins-before : (addr len least end : ℕ) (ss : List Segment) → All (IsBetween least end) ss → addr < least →
    place_of addr len ss ≡ None
begins-before addr len least end ss between h =
    unheld addr len ss (All-weaker (IsBetween least end) (λ s. segment_holds addr len s ≡ false)
    (λ s is. not-held addr len s (λ low high. omega (arith, h, low, is.begins))) ss between)

-- a range that ends after all segments
pub ends-behind : (addr len least end : ℕ) (ss : List Segment) → All (IsBetween least end) ss →
    end < min (addr + len) (2 ^ 64 - 1) → place_of addr len ss ≡ None
ends-behind addr len least end ss between h =
    unheld addr len ss (All-weaker (IsBetween least end) (λ s. segment_holds addr len s ≡ false)
    (λ s is. not-held addr len s (λ low high. omega (arith, h, high, is.ends))) ss between)

-- a range whose first byte lies in a page in which no segment has a byte
pub in-no-page : (addr len pages : ℕ) (ss : List Segment) → All (HasPages pages) ss → 0 < len →
    (bit_at pages (page_bit addr) ≡ 1 → ⊥) → place_of addr len ss ≡ None
in-no-page addr len pages ss has some f =
    unheld addr len ss (All-weaker (HasPages pages) (λ s. segment_holds addr len s ≡ false)
    (λ s is. not-held addr len s (λ low high. f (is.bits addr low (omega (arith, some, high))))) ss has)

-- how far into a load a place is that was found after two lists of its bytes
moved : (o : Option ℕ) (a b : ℕ) →
    option_map (λ at. a + at) (option_map (λ at. b + at) o) ≡ option_map (λ at. a + b + at) o
moved None a b = refl
moved (Some at) a b = let e : a + (b + at) ≡ a + b + at = omega arith in ap Some e

-- a place in the first of two lists is one in both
in-front : (addr len at : ℕ) (xs ys : List Segment) → place_of addr len xs ≡ Some at →
    place_of addr len (xs ++ ys) ≡ Some at
in-front addr len at [] ys e = absurd (cc)
in-front addr len at (s ∷ ss) ys e = by (λ p q. in-front addr len p ss ys q) (segment_holds addr len s) e
  where
    Later : Type 0
    Later = (p : ℕ) → place_of addr len ss ≡ Some p → place_of addr len (ss ++ ys) ≡ Some p

    later : Later → (o : Option ℕ) → place_of addr len ss ≡ o → option_map (λ p. s.len + p) o ≡ Some at →
        option_map (λ p. s.len + p) (place_of addr len (ss ++ ys)) ≡ Some at
    later f None q e = absurd (cc)
    later f (Some p) q e = ap (option_map (λ p. s.len + p)) (f p q) ∙ e

    by : Later → (b : Bool) →
        (if b then Some (addr - s.addr.0) else option_map (λ p. s.len + p) (place_of addr len ss)) ≡ Some at →
        (if b then Some (addr - s.addr.0) else option_map (λ p. s.len + p) (place_of addr len (ss ++ ys))) ≡ Some at
    by f true e = e
    by f false e = later f (place_of addr len ss) refl e

-- if a range has no place in the first of two lists, its place is in the second, after the bytes of the first
behind : (addr len : ℕ) (xs ys : List Segment) → place_of addr len xs ≡ None →
    place_of addr len (xs ++ ys) ≡ option_map (λ at. segments_byte_count xs + at) (place_of addr len ys)
behind addr len [] ys e = nothing (place_of addr len ys)
  where
    nothing : (o : Option ℕ) → o ≡ option_map (λ at. 0 + at) o
    nothing None = refl
    nothing (Some at) = let e : at ≡ 0 + at = omega arith in ap Some e
behind addr len (s ∷ ss) ys e = by (λ q. behind addr len ss ys q) (segment_holds addr len s) e
  where
    Later : Type 0
    Later = place_of addr len ss ≡ None →
        place_of addr len (ss ++ ys) ≡ option_map (λ at. segments_byte_count ss + at) (place_of addr len ys)

    bytes : s.len + segments_byte_count ss ≡ segments_byte_count (s ∷ ss)
    bytes = sym (sum_by-cons (λ (t : Segment). t.len) s ss)

    later : Later → (o : Option ℕ) → place_of addr len ss ≡ o → option_map (λ p. s.len + p) o ≡ None →
        option_map (λ p. s.len + p) (place_of addr len (ss ++ ys))
        ≡ option_map (λ at. segments_byte_count (s ∷ ss) + at) (place_of addr len ys)
    later f None q e =
        ap (option_map (λ p. s.len + p)) (f q) ∙ moved (place_of addr len ys) s.len (segments_byte_count ss)
        ∙ ap (λ n. option_map (λ at. n + at) (place_of addr len ys)) bytes
    later f (Some p) q e = absurd (cc)

    by : Later → (b : Bool) →
        (if b then Some (addr - s.addr.0) else option_map (λ p. s.len + p) (place_of addr len ss)) ≡ None →
        (if b then Some (addr - s.addr.0) else option_map (λ p. s.len + p) (place_of addr len (ss ++ ys)))
        ≡ option_map (λ at. segments_byte_count (s ∷ ss) + at) (place_of addr len ys)
    by f true e = absurd (cc)
    by f false e = later f (place_of addr len ss) refl e

-- if a load has its first place of a range after some bytes, that place is in the next part or after it
pub found-in-part : (addr len before n at : ℕ) (all rest : List Segment) →
    place_of addr len all ≡ option_map (λ p. before + p) (place_of addr len rest) →
    place_of addr len (take n rest) ≡ Some at → place_of addr len all ≡ Some (before + at)
found-in-part addr len before n at all rest from e =
    from
    ∙ ap (λ ss. option_map (λ p. before + p) (place_of addr len ss)) (sym (take-append-drop n rest))
    ∙ ap (option_map (λ p. before + p)) (in-front addr len at (take n rest) (drop n rest) e)

pub behind-part : (addr len before n : ℕ) (all rest : List Segment) →
    place_of addr len all ≡ option_map (λ p. before + p) (place_of addr len rest) →
    place_of addr len (take n rest) ≡ None →
    place_of addr len all ≡ option_map (λ p. before + segments_byte_count (take n rest) + p)
    (place_of addr len (drop n rest))
behind-part addr len before n all rest from e =
    from
    ∙ ap (λ ss. option_map (λ p. before + p) (place_of addr len ss)) (sym (take-append-drop n rest))
    ∙ ap (option_map (λ p. before + p)) (behind addr len (take n rest) (drop n rest) e)
    ∙ moved (place_of addr len (drop n rest)) before (segments_byte_count (take n rest))

-- one more part
pub ArePartsOf-push : (n : ℕ) (ps : List Part) (p : Part) (ss rest : List Segment) → ArePartsOf n ps ss rest →
    IsMapPart (take n rest) p → ArePartsOf n (ps ++ p ∷ []) ss (drop n rest)
ArePartsOf-push n [] p ss rest e is = (subst (λ xs. IsMapPart (take n xs) p) (sym e) is, ap (drop n) e)
ArePartsOf-push n (q ∷ ps) p ss rest h is = (h.0, ArePartsOf-push n ps p (drop n ss) rest h.1 is)

-- a place lies within the bytes of its load
pub place-within : (addr len at : ℕ) (ss : List Segment) → place_of addr len ss ≡ Some at → at ≤ segments_byte_count ss
place-within addr len at [] e = absurd (cc)
place-within addr len at (s ∷ ss) e = by (λ p q. place-within addr len p ss q) (segment_holds addr len s) refl e
  where
    Later : Type 0
    Later = (p : ℕ) → place_of addr len ss ≡ Some p → p ≤ segments_byte_count ss

    bytes : segments_byte_count (s ∷ ss) ≡ s.len + segments_byte_count ss
    bytes = sum_by-cons (λ (t : Segment). t.len) s ss

    later : Later → (o : Option ℕ) → place_of addr len ss ≡ o → option_map (λ p. s.len + p) o ≡ Some at →
        at ≤ segments_byte_count (s ∷ ss)
    later f None q e = absurd (cc)
    later f (Some p) q e =
        let is : s.len + p ≡ at = ap (λ o. unwrap_or o 0) e in
        omega (arith, is, bytes, f p q)

    by : Later → (b : Bool) → segment_holds addr len s ≡ b →
        (if b then Some (addr - s.addr.0) else option_map (λ p. s.len + p) (place_of addr len ss)) ≡ Some at →
        at ≤ segments_byte_count (s ∷ ss)
    by f true h e =
        let two = both (nat_le s.addr.0 addr) (nat_le (addr + len) (s.addr.0 + s.len)) h in
        let high : addr + len ≤ s.addr.0 + s.len = leb-true (addr + len) (s.addr.0 + s.len) two.1 in
        let is : addr - s.addr.0 ≡ at = ap (λ o. unwrap_or o 0) e in
        omega (arith, high, is, bytes)
    by f false h e = later f (place_of addr len ss) refl e

-- the bytes of the next part, of a load whose number of bytes fits in a `u64`
pub part-bytes : (n before : ℕ) (all rest : List Segment) (p : Part) → segments_byte_count all < 2 ^ 64 →
    before + segments_byte_count rest ≡ segments_byte_count all → IsMapPart (take n rest) p → p.bytes
    ≡ segments_byte_count (take n rest)
part-bytes n before all rest p short e is = is.bytes (omega (arith, short, e, bytes-cut n rest))

-- the bus address of a byte of the first of two lists, and of a byte after the first
in-front-address : (off len : ℕ) (xs ys : List Segment) → off < segments_byte_count xs →
    address_of off len (xs ++ ys) ≡ address_of off len xs
in-front-address off len [] ys h = absurd (omega (arith, h))
in-front-address off len (s ∷ ss) ys h =
    by (λ q. in-front-address (off - s.len) len ss ys q) (nat_lt off s.len) refl
  where
    bytes : segments_byte_count (s ∷ ss) ≡ s.len + segments_byte_count ss
    bytes = sum_by-cons (λ (t : Segment). t.len) s ss

    by : (off - s.len < segments_byte_count ss → address_of (off - s.len) len (ss ++ ys) ≡ address_of (off - s.len) len
        ss) →
        (b : Bool) → nat_lt off s.len ≡ b →
        (if b then if nat_le (off + len) s.len then Some (s.addr.0 + off) else None
        else address_of (off - s.len) len (ss ++ ys))
        ≡ (if b then if nat_le (off + len) s.len then Some (s.addr.0 + off) else None
        else address_of (off - s.len) len ss)
    by f true e = refl
    by f false e = f (omega (arith, h, bytes, ltb-false off s.len e))

behind-address : (off len : ℕ) (xs ys : List Segment) → segments_byte_count xs ≤ off →
    address_of off len (xs ++ ys) ≡ address_of (off - segments_byte_count xs) len ys
behind-address off len [] ys h =
    let e : off ≡ off - 0 = omega arith in
    ap (λ n. address_of n len ys) e
behind-address off len (s ∷ ss) ys h =
    by (λ q. behind-address (off - s.len) len ss ys q) (nat_lt off s.len) refl
  where
    bytes : segments_byte_count (s ∷ ss) ≡ s.len + segments_byte_count ss
    bytes = sum_by-cons (λ (t : Segment). t.len) s ss

    by : (segments_byte_count ss ≤ off - s.len →
        address_of (off - s.len) len (ss ++ ys) ≡ address_of (off - s.len - segments_byte_count ss) len ys) →
        (b : Bool) → nat_lt off s.len ≡ b →
        (if b then if nat_le (off + len) s.len then Some (s.addr.0 + off) else None
        else address_of (off - s.len) len (ss ++ ys))
        ≡ address_of (off - segments_byte_count (s ∷ ss)) len ys
    by f true e = absurd (omega (arith, h, bytes, ltb-true off s.len e))
    by f false e =
        let same : off - s.len - segments_byte_count ss ≡ off - segments_byte_count (s ∷ ss) = omega (arith, bytes) in
        f (omega (arith, h, bytes, ltb-false off s.len e)) ∙ ap (λ n. address_of n len ys) same

pub address-in-part : (off len n : ℕ) (ss : List Segment) → off < segments_byte_count (take n ss) →
    address_of off len ss ≡ address_of off len (take n ss)
address-in-part off len n ss h =
    ap (address_of off len) (sym (take-append-drop n ss)) ∙ in-front-address off len (take n ss) (drop n ss) h

pub address-behind-part : (off len n : ℕ) (ss : List Segment) → segments_byte_count (take n ss) ≤ off →
    address_of off len ss ≡ address_of (off - segments_byte_count (take n ss)) len (drop n ss)
address-behind-part off len n ss h =
    ap (address_of off len) (sym (take-append-drop n ss)) ∙ behind-address off len (take n ss) (drop n ss) h

-- if all segments end low, so do those after a part
pub low-behind : (n : ℕ) (ss : List Segment) → AllByRecursion EndsLow ss → AllByRecursion EndsLow (drop n ss)
low-behind zero ss h = h
low-behind (suc n) [] h = h
low-behind (suc n) (s ∷ ss) h = low-behind n ss h.1
