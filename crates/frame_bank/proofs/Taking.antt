-- The pages of a run leave a list.
use Rattle.std.proofs.Common.{◌≡◌, ℕ, zero, suc, ◌+◌, ◌-◌, ◌*◌, ◌<◌, ◌≤◌, Bool, true, false, cond, not, ◌&&◌, List, []}
use Rattle.std.proofs.Common.{◌∷◌, ◌++◌, length, get_or, take, drop, refl, sym, ap, ◌∙◌, arith, leb, ltb, eqb}
use Rattle.std.specs.List.{All, filter}
use Rattle.std.proofs.lemmas.Bool.{le-leb, lt-leb, lt-ltb, le-ltb, eqb-true, and_from, and_left, and_right, and_parts}
use Rattle.std.proofs.lemmas.Bool.{false≢true}
use Rattle.std.proofs.lemmas.List.{take-append-drop, take-append-le, drop-append-le, drop-drop, take_at, drop_at}
use Rattle.std.proofs.lemmas.List.{length-drop, length-take-le, length-append, length-map, drop-map}
use Rattle.std.proofs.lemmas.List.Elements.{All-head, All-tail, All-weaker, All-append, All-take, All-drop}
use Rattle.busdma_machine.specs.Machine.Page.{FrameBytes}
use Rattle.busdma_machine.specs.Bounce.History.{IsRising}
use Rattle.busdma_machine.specs.Bounce.MemoryRuns.{frames_for, follow, crosses_none, begins_run, frames_from}
use Rattle.busdma_machine.specs.Machine.PageList.{page_address, page_addresses}
use Rattle.frame_bank.specs.FrameBank.{is_in_bank_run}
use Rattle.frame_bank.proofs.Rising.{AreRising, rising_pages, rising_drop, rising_below}
use Rattle.frame_bank.proofs.Runs.{AreFrom, from_next, from_place, no_page, address_at, follow-long, begins_run-at}

-- a list without a part of it, and that part, where the list was turned to begin with the part
module _ {X : Type 0} where
  turned_rest : (xs : List X) (at n : ℕ) → at + n ≤ length xs →
      drop n (drop at xs ++ take at xs) ≡ drop (at + n) xs ++ take at xs
  turned_rest xs at n l = drop-append-le n (drop at xs) (take at xs) (omega (arith, length-drop at xs))
      ∙ ap (λ ys. ys ++ take at xs) (drop-drop n at xs)

  pub turned_back : (xs ys : List X) (at n : ℕ) → at + n ≤ length xs → ys ≡ drop n (drop at xs ++ take at xs) →
      drop (length ys - at) ys ++ take (length ys - at) ys ≡ take at xs ++ drop (at + n) xs
  turned_back xs ys at n l e =
      let split : ys ≡ drop (at + n) xs ++ take at xs = e ∙ turned_rest xs at n l in
      let long : length (drop (at + n) xs) ≡ length ys - at =
      omega (
        arith,
        ap length split,
        length-append (drop (at + n) xs) (take at xs),
        length-take-le at xs (omega arith),
        length-drop (at + n) xs,
      ) in
      ap (λ zs. drop (length ys - at) zs ++ take (length ys - at) zs) split
      ∙ ap (λ zs. zs ++ take (length ys - at) (drop (at + n) xs ++ take at xs))
      (drop_at (drop (at + n) xs) (take at xs) (length ys - at) long)
      ∙ ap (λ zs. take at xs ++ zs) (take_at (drop (at + n) xs) (take at xs) (length ys - at) long)

  pub turned_front : (xs : List X) (at n : ℕ) → at + n ≤ length xs →
      take n (drop at xs ++ take at xs) ≡ take n (drop at xs)
  turned_front xs at n l = take-append-le n (drop at xs) (take at xs) (omega (arith, length-drop at xs))

  -- what a filter and its opposite keep if no element passes, and what they keep of two lists
  filter_none : (t : X → Bool) (xs : List X) → All (λ x. t x ≡ false) xs →
      (filter t xs ≡ []) × (filter (λ x. not (t x)) xs ≡ xs)
  filter_none t [] h = (refl, refl)
  filter_none t (x ∷ xs) h =
      let here : t x ≡ false = All-head (λ y. t y ≡ false) x xs h in
      let rest = filter_none t xs (All-tail (λ y. t y ≡ false) x xs h) in (
        ap (λ v. cond v (x ∷ filter t xs) (filter t xs)) here ∙ rest.0,
        ap (λ v. cond (not v) (x ∷ filter (λ y. not (t y)) xs) (filter (λ y. not (t y)) xs)) here
            ∙ ap (λ ys. x ∷ ys) rest.1,
      )

  filter_append : (t : X → Bool) (xs ys : List X) → filter t (xs ++ ys) ≡ filter t xs ++ filter t ys
  filter_append t [] ys = refl
  filter_append t (x ∷ xs) ys =
      (elim (t x) as (λ v. cond v (x ∷ filter t (xs ++ ys)) (filter t (xs ++ ys))
      ≡ cond v (x ∷ filter t xs) (filter t xs) ++ filter t ys) [
        | true ↦ ap (λ zs. x ∷ zs) (filter_append t xs ys)
        | false ↦ filter_append t xs ys
      ])

-- a filter of the addresses of pages is the same filter of the pages
pub filter-page_addresses : (t : ℕ → Bool) (ps : List FrameBytes) →
    filter t (page_addresses ps) ≡ page_addresses (filter (λ p. t (page_address p)) ps)
filter-page_addresses t [] = refl
filter-page_addresses t (p ∷ ps) =
    (elim (t (page_address p)) as (λ v. cond v (page_address p ∷ filter t (page_addresses ps))
    (filter t (page_addresses ps)) ≡ page_addresses
    (cond v (p ∷ filter (λ q. t (page_address q)) ps) (filter (λ q. t (page_address q)) ps))) [
      | true ↦ ap (λ fs. page_address p ∷ fs) (filter-page_addresses t ps)
      | false ↦ filter-page_addresses t ps
    ])

-- of pages that begin with the last n of a run, those n are the run's
record Taken (first m n a : ℕ) (ps : List FrameBytes) : Type 0 where
  run : filter (is_in_bank_run first m) ps ≡ take n ps
  left : filter (λ p. not (is_in_bank_run first m p)) ps ≡ drop n ps
  placed : page_addresses (take n ps) ≡ frames_from n a

taken : (n f first m a : ℕ) (ps : List FrameBytes) → first ≤ 4096 * f → 4096 * f + 4096 * n ≡ first + 4096 * m →
    a ≡ 4096 * f → AreRising ps → AreFrom f ps → follow n a (page_addresses ps) ≡ true → Taken first m n a ps
taken zero f first m a ps low end e h from t =
    let past = filter_none (is_in_bank_run first m) ps
    (All-weaker (λ p. f ≤ p.frame) (λ p. is_in_bank_run first m p ≡ false)
    (λ p l. and_right (leb first (page_address p)) (ltb (page_address p) (first + 4096 * m))
    (le-ltb (page_address p) (first + 4096 * m) (omega arith))) ps from) in
    record { run = past.0; left = past.1; placed = refl }
taken (suc n) f first m a [] low end e h from t = absurd (false≢true t)
taken (suc n) f first m a (p ∷ ps) low end e h from t =
    let parts = and_parts (eqb (page_address p) a) (follow n (a + 4096) (page_addresses ps)) t in
    let here : page_address p ≡ a = eqb-true (page_address p) a parts.0 in
    let inside : is_in_bank_run first m p ≡ true =
    and_from (leb first (page_address p)) (ltb (page_address p) (first + 4096 * m))
    (le-leb first (page_address p) (omega arith)) (lt-ltb (page_address p) (first + 4096 * m) (omega arith)) in
    let rest =
    taken n (f + 1) first m (a + 4096) ps (omega arith) (omega arith) (omega arith) h.1
    (from_next p.frame (f + 1) ps (omega arith) h.0) parts.1 in
    record {
      run = ap (λ v. cond v (p ∷ filter (is_in_bank_run first m) ps) (filter (is_in_bank_run first m) ps)) inside
          ∙ ap (λ qs. p ∷ qs) rest.run;
      left =
          ap (λ v. cond (not v) (p ∷ filter (λ q. not (is_in_bank_run first m q)) ps)
          (filter (λ q. not (is_in_bank_run first m q)) ps)) inside ∙ rest.left;
      placed = ap (λ b. b ∷ page_addresses (take n ps)) here ∙ ap (λ bs. a ∷ bs) rest.placed;
    }

-- the n pages of a run that begins at a place
pub record TakenAt (first n at : ℕ) (ps : List FrameBytes) : Type 0 where
  pub inside : at + n ≤ length ps
  pub run : filter (is_in_bank_run first n) ps ≡ take n (drop at ps)
  pub left : filter (λ p. not (is_in_bank_run first n p)) ps ≡ take at ps ++ drop (at + n) ps
  pub placed : page_addresses (take n (drop at ps)) ≡ frames_from n first

pub taken_at : (n at : ℕ) (ps : List FrameBytes) → IsRising (page_addresses ps) → at < length ps →
    follow n (get_or (page_addresses ps) at 0) (drop at (page_addresses ps)) ≡ true →
    TakenAt (get_or (page_addresses ps) at 0) n at ps
taken_at n at ps rising inside t =
    let h : AreRising ps = rising_pages ps rising in
    let f : ℕ = (get_or ps at no_page).frame in
    let first : ℕ = get_or (page_addresses ps) at 0 in
    let is : first ≡ 4096 * f = address_at ps at inside in
    let behind =
    taken n f first n first (drop at ps) (omega arith) (omega arith) is
    (rising_drop at ps h) (from_place ps at h inside)
    (ap (follow n first) (sym (drop-map page_address at ps)) ∙ t) in
    let before = filter_none (is_in_bank_run first n) (take at ps)
    (All-weaker (λ p. p.frame < f) (λ p. is_in_bank_run first n p ≡ false)
    (λ p l. and_left (leb first (page_address p)) (ltb (page_address p) (first + 4096 * n))
    (lt-leb first (page_address p) (omega arith))) (take at ps) (rising_below ps at no_page h inside)) in
    let split : ps ≡ take at ps ++ drop at ps = sym (take-append-drop at ps) in
    record {
      inside =
          omega (
            arith,
            inside,
            follow-long n first _ t,
            length-map ps page_address,
            length-drop at (page_addresses ps),
          );
      run = ap (filter (is_in_bank_run first n)) split ∙ filter_append (is_in_bank_run first n) (take at ps)
          (drop at ps)
          ∙ ap (λ qs. qs ++ filter (is_in_bank_run first n) (drop at ps)) before.0 ∙ behind.run;
      left = ap (filter (λ p. not (is_in_bank_run first n p))) split
          ∙ filter_append (λ p. not (is_in_bank_run first n p)) (take at ps) (drop at ps)
          ∙ ap (λ qs. qs ++ filter (λ p. not (is_in_bank_run first n p)) (drop at ps)) before.1
          ∙ ap (λ qs. take at ps ++ qs) (behind.left ∙ drop-drop n at ps);
      placed = behind.placed;
    }

-- the pages of a run that passes the test of the code
pub begun_at : (len boundary limit at : ℕ) (ps : List FrameBytes) → IsRising (page_addresses ps) → at < length ps →
    begins_run len boundary limit (drop at (page_addresses ps)) ≡ true →
    TakenAt (get_or (page_addresses ps) at 0) (frames_for len) at ps
begun_at len boundary limit at ps rising inside t =
    let a : ℕ = get_or (page_addresses ps) at 0 in
    taken_at (frames_for len) at ps rising inside
    (and_parts (follow (frames_for len) a (drop at (page_addresses ps)))
    (leb (a + 4096 * frames_for len) (limit + 1) && crosses_none len boundary a)
    (sym (begins_run-at len boundary limit at (page_addresses ps) (simp length-map inside)) ∙ t)).0

-- pages still rise after a part of them is removed
pub rising_without : (ps : List FrameBytes) (at j : ℕ) → at ≤ j → AreRising ps → AreRising (take at ps ++ drop j ps)
rising_without ps zero j l h = rising_drop j ps h
rising_without ps (suc at) zero l h = absurd (omega arith)
rising_without [] (suc at) (suc j) l h = tt
rising_without (p ∷ ps) (suc at) (suc j) l h = (
  All-append (λ q. p.frame < q.frame) (take at ps) (drop j ps) (All-take (λ q. p.frame < q.frame) at ps h.0)
      (All-drop (λ q. p.frame < q.frame) j ps h.0),
  rising_without ps at j (omega arith) h.1,
)
