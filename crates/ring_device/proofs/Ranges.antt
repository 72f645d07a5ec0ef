-- The bytes of a range that a segment has.
use Rattle.std.proofs.Common.{◌≡◌, ℕ, zero, suc, ◌+◌, ◌-◌, ◌≤◌, ◌∙◌, Bool, true, false, ◌&&◌, if◌then◌else◌, nat_le}
use Rattle.std.proofs.Common.{nat_lt}
use Rattle.std.proofs.Common.{List, [], ◌∷◌, ◌++◌, take, drop, Option, Some, None, refl, ap, sym, arith, unwrap_or}
use Rattle.std.proofs.lemmas.Bool.{leb-true, ltb-false}
use Rattle.std.proofs.lemmas.List.Concat.{flat_map-cons}
use Rattle.std.specs.Option.{option_map}
use Rattle.busdma_machine.specs.declared.machine.address.Segment.{Segment}
use Rattle.busdma_machine.specs.Runs.{run_of}
use Rattle.busdma_rules.specs.Rings.Ranges.{address_of, bus_bytes, segment_holds, place_of}

-- a part of a run that others follow
run_part : (n k len a : ℕ) (rest : List ℕ) → k + len ≤ n → take len (drop k (run_of a n ++ rest)) ≡ run_of (a + k) len
run_part n zero zero a rest h = refl
run_part zero zero (suc len) a rest h = absurd (omega (arith, h))
run_part (suc n) zero (suc len) a rest h =
    let e : a + 1 + 0 ≡ a + 0 + 1 = omega arith in
    let s : a ≡ a + 0 = omega arith in
    (λ i. s i ∷ run_part n zero len (a + 1) rest (omega (arith, h)) i) ∙ ap (λ b. (a + 0) ∷ run_of b len) e
run_part zero (suc k) len a rest h = absurd (omega (arith, h))
run_part (suc n) (suc k) len a rest h =
    let e : a + 1 + k ≡ a + suc k = omega arith in
    run_part n k len (a + 1) rest (omega (arith, h)) ∙ ap (λ b. run_of b len) e

-- what follows a run
past_run : (n j a : ℕ) (rest : List ℕ) → drop (n + j) (run_of a n ++ rest) ≡ drop j rest
past_run zero j a rest = ap (λ k. drop k rest) zero_more
  where
    zero_more : 0 + j ≡ j
    zero_more = omega arith
past_run (suc n) j a rest =
    let e : suc n + j ≡ suc (n + j) = omega arith in
    ap (λ k. drop k (run_of a (suc n) ++ rest)) e ∙ past_run n j (a + 1) rest

both : (b c : Bool) → b && c ≡ true → (b ≡ true) × (c ≡ true)
both true true h = (refl, refl)
both true false h = absurd (cc)
both false c h = absurd (cc)

-- the bytes at the place that is found are those of the range
pub found_bytes : (addr len : ℕ) (segments : List Segment) (at : ℕ) → place_of addr len segments ≡ Some at →
    take len (drop at (bus_bytes segments)) ≡ run_of addr len
found_bytes addr len [] at e = absurd (cc)
found_bytes addr len (s ∷ ss) at e = by (λ p q. found_bytes addr len ss p q) (segment_holds addr len s) refl e
  where
    run : List ℕ
    run = run_of s.addr.0 s.len

    all : bus_bytes (s ∷ ss) ≡ run ++ bus_bytes ss
    all = flat_map-cons (λ (s : Segment). run_of s.addr.0 s.len) s ss

    Later : Type 0
    Later = (p : ℕ) → place_of addr len ss ≡ Some p → take len (drop p (bus_bytes ss)) ≡ run_of addr len

    later : Later → (o : Option ℕ) → place_of addr len ss ≡ o → option_map (λ p. s.len + p) o ≡ Some at →
        take len (drop at (bus_bytes (s ∷ ss))) ≡ run_of addr len
    later f None q e = absurd (cc)
    later f (Some p) q e =
        let is : s.len + p ≡ at = ap (λ o. unwrap_or o 0) e in
        ap (λ k. take len (drop k (bus_bytes (s ∷ ss)))) (sym is)
        ∙ ap (λ xs. take len (drop (s.len + p) xs)) all
        ∙ ap (take len) (past_run s.len p s.addr.0 (bus_bytes ss))
        ∙ f p q

    by : Later → (b : Bool) → segment_holds addr len s ≡ b →
        (if b then Some (addr - s.addr.0) else option_map (λ p. s.len + p) (place_of addr len ss)) ≡ Some at →
        take len (drop at (bus_bytes (s ∷ ss))) ≡ run_of addr len
    by f true h e =
        let two = both (nat_le s.addr.0 addr) (nat_le (addr + len) (s.addr.0 + s.len)) h in
        let low : s.addr.0 ≤ addr = leb-true s.addr.0 addr two.0 in
        let high : addr + len ≤ s.addr.0 + s.len = leb-true (addr + len) (s.addr.0 + s.len) two.1 in
        let is : addr - s.addr.0 ≡ at = ap (λ o. unwrap_or o 0) e in
        let back : s.addr.0 + (addr - s.addr.0) ≡ addr = omega (arith, low) in
        ap (λ k. take len (drop k (bus_bytes (s ∷ ss)))) (sym is)
        ∙ ap (λ xs. take len (drop (addr - s.addr.0) xs)) all
        ∙ run_part s.len (addr - s.addr.0) len s.addr.0 (bus_bytes ss) (omega (arith, low, high))
        ∙ ap (λ a. run_of a len) back
    by f false h e = later f (place_of addr len ss) refl e

-- the bus address of a range of a load is the address of its bytes
pub addressed_bytes : (off len : ℕ) (segments : List Segment) (pa : ℕ) → address_of off len segments ≡ Some pa →
    take len (drop off (bus_bytes segments)) ≡ run_of pa len
addressed_bytes off len [] pa e = absurd (cc)
addressed_bytes off len (s ∷ ss) pa e = by (λ h. addressed_bytes (off - s.len) len ss pa h) (nat_lt off s.len) refl e
  where
    all : bus_bytes (s ∷ ss) ≡ run_of s.addr.0 s.len ++ bus_bytes ss
    all = flat_map-cons (λ (s : Segment). run_of s.addr.0 s.len) s ss

    here : (b : Bool) → nat_le (off + len) s.len ≡ b → (if b then Some (s.addr.0 + off) else None) ≡ Some pa →
        take len (drop off (bus_bytes (s ∷ ss))) ≡ run_of pa len
    here true h e =
        let is : s.addr.0 + off ≡ pa = ap (λ o. unwrap_or o 0) e in
        ap (λ xs. take len (drop off xs)) all
        ∙ run_part s.len off len s.addr.0 (bus_bytes ss) (leb-true (off + len) s.len h) ∙ ap (λ a. run_of a len) is
    here false h e = absurd (cc)

    Later : Type 0
    Later = address_of (off - s.len) len ss ≡ Some pa → take len (drop (off - s.len) (bus_bytes ss)) ≡ run_of pa len

    by : Later → (b : Bool) → nat_lt off s.len ≡ b →
        (if b then if nat_le (off + len) s.len then Some (s.addr.0 + off) else None
        else address_of (off - s.len) len ss) ≡ Some pa → take len (drop off (bus_bytes (s ∷ ss))) ≡ run_of pa len
    by f true h e = here (nat_le (off + len) s.len) refl e
    by f false h e =
        let past : s.len + (off - s.len) ≡ off = omega (arith, ltb-false off s.len h) in
        ap (λ k. take len (drop k (bus_bytes (s ∷ ss)))) (sym past)
        ∙ ap (λ xs. take len (drop (s.len + (off - s.len)) xs)) all
        ∙ ap (take len) (past_run s.len (off - s.len) s.addr.0 (bus_bytes ss)) ∙ f e
