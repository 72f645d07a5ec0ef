-- Pieces of a list of positions.
use Rattle.std.proofs.Common.{◌≡◌, ℕ, zero, suc, ◌+◌, ◌-◌, ◌<◌, ◌≤◌, ◌&&◌, ◌==◌, Bool, true, false, cond, length}
use Rattle.std.proofs.Common.{◌^◌, slice_index, List, [], ◌∷◌, ◌++◌, map, take, drop, get_or, Option, Some, None, refl}
use Rattle.std.proofs.Common.{sym, ap, ◌∙◌, subst, arith}
use Rattle.std.proofs.lemmas.List.{drop-drop, take-take, take_all, take-append-le, length-map, map-append}
use Rattle.std.proofs.lemmas.List.{get_or-drop, get_or-take}
use Rattle.std.proofs.lemmas.List.{get_or_append_left, take-map}
use Rattle.std.specs.List.{All, filter}
use Rattle.std.proofs.lemmas.List.Sums.{sum_by-cons}
use Rattle.std.proofs.lemmas.List.Elements.{All-get_or, filter-append}
use Rattle.std.specs.Ordering.{nat_cmp}
use Rattle.std.specs.FinMap.{FinMap}
use Rattle.loan_table.specs.declared.row.Way.{Way}
use Rattle.loan_table.specs.declared.row.Way.TheVariants.{ToWrite, ToRead}
use Rattle.loan_table.specs.Kinds.{test_of}
use Rattle.loan_table.specs.Table.{AreIn, set_all}
use Rattle.loan_table.proofs.Addresses.{AreIn-append, set_all-append}
use Rattle.busdma_machine.specs.declared.report.ReportName.{ReportName}
use Rattle.busdma_machine.specs.declared.report.Judged.TheVariants.{Refused}
use Rattle.busdma_machine.specs.Judging.{judged, refused_or}
use Rattle.busdma_machine.specs.Machine.Wire.{stretch}
use Rattle.busdma_machine.specs.Runs.{run_of}
use Rattle.run_set.specs.Edges.{is_inside_run}
use Rattle.busdma_rules.specs.declared.position.Position.{Position}
use Rattle.busdma_rules.specs.Lending.Loans.{addresses_of}
use Rattle.busdma_rules.specs.Lending.SyncEffects.{marked}
use Rattle.loan_table.specs.Counted.{counted_places, places_in}
use Rattle.loan_table.specs.Rows.{alike, lent_like, stands, AreAlike}
use Rattle.loan_table.proofs.Judgement.{length-run_of}
use Rattle.loan_table.proofs.Places.{places-run}
use Rattle.loan_table.proofs.Recounting.{places-cons, places-append}
use Rattle.loan_table.proofs.Stretches.{run_of_sum, take_run}
use Rattle.busdma_machine.specs.declared.machine.address.Extent.{Extent}

module _ {X : Type 0} where
  take_sum : (n m : ℕ) (xs : List X) → take (n + m) xs ≡ take n xs ++ take m (drop n xs)
  take_sum zero m xs = let on : zero + m ≡ m = omega arith in ap (λ k. take k xs) on
  take_sum (suc n) m [] =
      let on : suc n + m ≡ suc (n + m) = omega arith in
      ap (λ k. take k []) on ∙ sym (take_all m [] (omega arith))
  take_sum (suc n) m (x ∷ xs) =
      let on : suc n + m ≡ suc (n + m) = omega arith in
      ap (λ k. take k (x ∷ xs)) on ∙ ap (λ l. x ∷ l) (take_sum n m xs)

  -- the part of a list from a place on, in two parts
  pub two_parts : (at n end : ℕ) (xs : List X) → at + n ≤ end →
      stretch at (end - at) xs ≡ stretch at n xs ++ stretch (at + n) (end - (at + n)) xs
  two_parts at n end xs h =
      let on : end - at ≡ n + (end - (at + n)) = omega arith in
      ap (λ k. stretch at k xs) on ∙ take_sum n (end - (at + n)) (drop at xs)
      ∙ ap (λ ys. stretch at n xs ++ take (end - (at + n)) ys) (drop-drop n at xs)

  -- the first and the last step of a loop over a range
  pub whole : (off len end : ℕ) (xs : List X) → end ≡ off + len → stretch off (end - off) xs ≡ stretch off len xs
  whole off len end xs e = let on : end - off ≡ len = omega arith in ap (λ k. stretch off k xs) on

  pub nothing : (at end : ℕ) (xs : List X) → end ≤ at → stretch at (end - at) xs ≡ []
  nothing at end xs h = let on : end - at ≡ 0 = omega arith in ap (λ k. stretch at k xs) on

abbrev pub lent_as : Position → ℕ → Position
lent_as p a = record { pa = a; to_read = p.to_read; to_write = p.to_write }

pub length-alike : (p : Position) (n : ℕ) → length (alike p n) ≡ n
length-alike p n = length-map (run_of p.pa n) (lent_as p) ∙ length-run_of p.pa n

pub take-alike : (p : Position) (m n : ℕ) → m ≤ n → take m (alike p n) ≡ alike p m
take-alike p m n h =
    let on : n ≡ m + (n - m) = omega arith in
    let long = length-alike p m in
    ap (λ k. take m (alike p k)) on
    ∙ ap (λ xs. take m (map (lent_as p) xs)) (run_of_sum p.pa m (n - m))
    ∙ ap (take m) (map-append (lent_as p) (run_of p.pa m) (run_of (p.pa + m) (n - m)))
    ∙ take-append-le m (alike p m) _ (omega (arith, long)) ∙ take_all m (alike p m) (omega (arith, long))

-- a shorter piece is a piece too
pub shorter : (at end n m : ℕ) (p : Position) (ps : List Position) →
    stretch at (end - at) ps ≡ alike p n ++ stretch (at + n) (end - (at + n)) ps → m ≤ n → at + n ≤ end →
    stretch at (end - at) ps ≡ alike p m ++ stretch (at + m) (end - (at + m)) ps
shorter at end n m p ps e h k =
    let long = length-alike p n in
    two_parts at m end ps (omega arith)
    ∙ ap (λ xs. xs ++ stretch (at + m) (end - (at + m)) ps)
    (sym (take-take m (end - at) (drop at ps) (omega arith)) ∙ ap (take m) e
    ∙ take-append-le m (alike p n) _ (omega (arith, long)) ∙ take-alike p m n h)

get_or-alike : (g : ℕ → Position) (d : Position) (s n i : ℕ) → i < n → get_or (map g (run_of s n)) i d ≡ g (s + i)
get_or-alike g d s zero i h = absurd (omega arith)
get_or-alike g d s (suc n) zero h = let on : s ≡ s + zero = omega arith in ap g on
get_or-alike g d s (suc n) (suc i) h =
    let on : s + 1 + i ≡ s + suc i = omega arith in get_or-alike g d (s + 1) n i (omega arith) ∙ ap g on

-- what holds of all positions holds of those of a piece
pub in_piece : (P : Position → Type 0) (d : Position) (at end n : ℕ) (p : Position) (ps : List Position) →
    stretch at (end - at) ps ≡ alike p n ++ stretch (at + n) (end - (at + n)) ps → at + n ≤ end → end ≤ length ps →
    All P ps → (a : ℕ) → p.pa ≤ a → a < p.pa + n → P (lent_as p a)
in_piece P d at end n p ps e within range all a from to =
    let i : ℕ = a - p.pa in
    let here : p.pa + i ≡ a = omega arith in
    let long = length-alike p n in
    subst P
    (sym (get_or-drop at ps i d) ∙ sym (get_or-take (end - at) (drop at ps) i d (omega arith))
    ∙ ap (λ xs. get_or xs i d) e
    ∙ get_or_append_left (alike p n) _ d i (omega (arith, long))
    ∙ get_or-alike (lent_as p) d p.pa n i (omega arith) ∙ ap (lent_as p) here)
    (All-get_or P ps (at + i) d (omega arith) all)

pub addresses_of-append : (ps qs : List Position) → addresses_of (ps ++ qs) ≡ addresses_of ps ++ addresses_of qs
addresses_of-append ps qs = map-append _ ps qs

-- positions that are lent alike are still alike after a sync call marks them
pub marked-like : (ops : ℕ) (p : Position) (xs : List ℕ) → map (marked ops) (lent_like p xs) ≡ lent_like (marked ops p)
    xs
marked-like ops p [] = refl
marked-like ops p (x ∷ xs) = ap (λ l. lent_as (marked ops p) x ∷ l) (marked-like ops p xs)

-- of positions that are lent alike, a test passes all or none
pub filter-like : (test : Position → Bool) (p : Position) (xs : List ℕ) → ((a : ℕ) → test (lent_as p a) ≡ test p) →
    filter test (lent_like p xs) ≡ cond (test p) (lent_like p xs) []
filter-like test p [] same = none (test p)
  where
    none : (b : Bool) → ◌≡◌ {A = List Position} [] (cond b [] [])
    none true = refl
    none false = refl
filter-like test p (x ∷ xs) same = one (test (lent_as p x)) (test p) (same x) (filter-like test p xs same)
  where
    rest : List Position
    rest = filter test (lent_like p xs)

    one : (b c : Bool) → b ≡ c → rest ≡ cond c (lent_like p xs) [] →
        cond b (lent_as p x ∷ rest) rest ≡ cond c (lent_as p x ∷ lent_like p xs) []
    one b true e h = ap (λ t. cond t (lent_as p x ∷ rest) rest) e ∙ ap (λ l. lent_as p x ∷ l) h
    one b false e h = ap (λ t. cond t (lent_as p x ∷ rest) rest) e ∙ h

-- at how many of the positions that are lent alike a byte is lent
both : (b w : Bool) → ◌≡◌ {A = ℕ} (cond (b && w) 1 0) (cond w (cond b 1 0) 0)
both true true = refl
both true false = refl
both false true = refl
both false false = refl

more : (w : Bool) (k m : ℕ) → ◌≡◌ {A = ℕ} (cond w k 0 + cond w m 0) (cond w (k + m) 0)
more true k m = refl
more false k m = omega arith

pub places-like : (way : Position → Bool) (p : Position) (a : ℕ) (xs : List ℕ) →
    ((x : ℕ) → way (lent_as p x) ≡ way p) → counted_places way a (lent_like p xs) ≡ cond (way p) (stands a xs) 0
places-like way p a [] same = none (way p)
  where
    none : (b : Bool) → ◌≡◌ {A = ℕ} 0 (cond b 0 0)
    none true = refl
    none false = refl
places-like way p a (x ∷ xs) same =
    places-cons way a (lent_as p x) (lent_like p xs)
    ∙ ap (λ k. cond (x == a && way (lent_as p x)) 1 0 + k) (places-like way p a xs same)
    ∙ ap (λ w. cond (x == a && w) 1 0 + cond (way p) (stands a xs) 0) (same x)
    ∙ ap (λ k. k + cond (way p) (stands a xs) 0) (both (x == a) (way p))
    ∙ more (way p) (cond (x == a) 1 0) (stands a xs)
    ∙ ap (λ k. cond (way p) k 0) (sym (sum_by-cons (λ b. cond (b == a) 1 0) x xs))

places-alike : (way : Position → Bool) (p : Position) (n a : ℕ) → ((x : ℕ) → way (lent_as p x) ≡ way p) →
    counted_places way a (alike p n) ≡ places_in p.pa n (way p) a
places-alike way p n a same =
    places-like way p a (run_of p.pa n) same ∙ ap (λ k. cond (way p) k 0) (places-run a p.pa n)
    ∙ sym (both (is_inside_run p.pa (p.pa + n) a) (way p))

-- the judgement passes over items of which none is refused
pub none_refused : {X : Type 0} (f : X → Option ReportName) (g : ℕ → X) (at s m : ℕ) (ys : List X) →
    ((a : ℕ) → s ≤ a → a < s + m → f (g a) ≡ None) → judged f at (map g (run_of s m) ++ ys) ≡ judged f (at + m) ys
none_refused f g at s zero ys h = let on : at ≡ at + zero = omega arith in ap (λ k. judged f k ys) on
none_refused f g at s (suc m) ys h =
    let on : at + 1 + m ≡ at + suc m = omega arith in
    ap (λ o. refused_or o at (judged f (at + 1) (map g (run_of (s + 1) m) ++ ys))) (h s (omega arith) (omega arith))
    ∙ none_refused f g (at + 1) (s + 1) m ys (λ a p q. h a (omega arith) (omega arith))
    ∙ ap (λ k. judged f k ys) on

pub first_refused : {X : Type 0} (f : X → Option ReportName) (g : ℕ → X) (at s n : ℕ) (ys : List X)
    (name : ReportName) →
    0 < n → f (g s) ≡ Some name → judged f at (map g (run_of s n) ++ ys) ≡ Refused (record { name = name; at = at })
first_refused f g at s zero ys name some h = absurd (omega arith)
first_refused f g at s (suc n) ys name some h =
    ap (λ o. refused_or o at (judged f (at + 1) (map g (run_of (s + 1) n) ++ ys))) h

-- a way of lending, and what is lost, does not depend on the address of a position
pub same_way : (way : Way) (p : Position) (a : ℕ) → test_of way (lent_as p a) ≡ test_of way p
same_way ToWrite p a = refl
same_way ToRead p a = refl

-- at how many positions a byte is lent: those of a piece, and those after it
pub places_ahead : (way : Way) (a at end n : ℕ) (p : Position) (ps : List Position) →
    stretch at (end - at) ps ≡ alike p n ++ stretch (at + n) (end - (at + n)) ps →
    counted_places (test_of way) a (stretch at (end - at) ps)
    ≡ places_in p.pa n (test_of way p) a + counted_places (test_of way) a (stretch (at + n) (end - (at + n)) ps)
places_ahead way a at end n p ps e =
    let rest = stretch (at + n) (end - (at + n)) ps in
    ap (counted_places (test_of way) a) e ∙ places-append (test_of way) a (alike p n) rest
    ∙ ap (λ k. k + counted_places (test_of way) a rest) (places-alike (test_of way) p n a (same_way way p))

-- at how many positions a byte is lent, before and after a sync call: those of a span, and those after it
module _ (way : Way) (a at end n : ℕ) (ps : List Position) (within : at + n ≤ end) where
  pub span_places : counted_places (test_of way) a (stretch at (end - at) ps)
      ≡ counted_places (test_of way) a (stretch at n ps) + counted_places (test_of way) a
      (stretch (at + n) (end - (at + n)) ps)
  span_places =
      ap (counted_places (test_of way) a) (two_parts at n end ps within)
      ∙ places-append (test_of way) a (stretch at n ps) (stretch (at + n) (end - (at + n)) ps)

  pub span_marked : (ops : ℕ) → counted_places (test_of way) a (map (marked ops) (stretch at (end - at) ps))
      ≡ counted_places (test_of way) a (map (marked ops) (stretch at n ps))
      + counted_places (test_of way) a (map (marked ops) (stretch (at + n) (end - (at + n)) ps))
  span_marked ops =
      ap (λ xs. counted_places (test_of way) a (map (marked ops) xs)) (two_parts at n end ps within)
      ∙ ap (counted_places (test_of way) a)
      (map-append (marked ops) (stretch at n ps) (stretch (at + n) (end - (at + n)) ps))
      ∙ places-append (test_of way) a (map (marked ops) (stretch at n ps))
      (map (marked ops) (stretch (at + n) (end - (at + n)) ps))

-- the bytes of a span, and those after it
pub span_bytes : (at end n : ℕ) (ps : List Position) → at + n ≤ end → addresses_of (stretch at (end - at) ps)
    ≡ addresses_of (stretch at n ps) ++ addresses_of (stretch (at + n) (end - (at + n)) ps)
span_bytes at end n ps within =
    ap addresses_of (two_parts at n end ps within)
    ∙ addresses_of-append (stretch at n ps) (stretch (at + n) (end - (at + n)) ps)

-- at how many positions of a span a byte is lent, before a call and after it
module _ (way : Way) (a : ℕ) (p : Position) (ps : List Position) (alike_all : AreAlike p ps) where
  pub alike_places_of : counted_places (test_of way) a ps ≡ cond (test_of way p) (stands a (addresses_of ps)) 0
  alike_places_of =
      ap (counted_places (test_of way) a) alike_all ∙ places-like (test_of way) p a (addresses_of ps) (same_way way p)

  pub alike_marked_of : (ops : ℕ) → counted_places (test_of way) a (map (marked ops) ps)
      ≡ cond (test_of way (marked ops p)) (stands a (addresses_of ps)) 0
  alike_marked_of ops =
      ap (λ xs. counted_places (test_of way) a (map (marked ops) xs)) alike_all
      ∙ ap (counted_places (test_of way) a) (marked-like ops p (addresses_of ps))
      ∙ places-like (test_of way) (marked ops p) a (addresses_of ps) (same_way way (marked ops p))

-- bytes of a piece are marked, and then those after it
module _ (m new w : FinMap nat_cmp Bool) (v : Bool) (all front back : List ℕ) (e : all ≡ front ++ back) where
  pub marked_front : new ≡ set_all m front v → set_all m all v ≡ w → set_all new back v ≡ w
  marked_front is h = ap (λ x. set_all x back v) is ∙ sym (set_all-append m front back v)
      ∙ sym (ap (λ xs. set_all m xs v) e) ∙ h

pub there_front : (m : FinMap nat_cmp Bool) (all front back : List ℕ) → all ≡ front ++ back → AreIn m all →
    AreIn m front
there_front m all front back e h = (AreIn-append m front back (subst (AreIn m) e h)).0

pub there_back : (m : FinMap nat_cmp Bool) (all front back : List ℕ) → all ≡ front ++ back → AreIn m all → AreIn m back
there_back m all front back e h = (AreIn-append m front back (subst (AreIn m) e h)).1

pub filter_ahead : (test : Position → Bool) (ps front rest : List Position) → ps ≡ front ++ rest →
    addresses_of (filter test ps) ≡ addresses_of (filter test front) ++ addresses_of (filter test rest)
filter_ahead test ps front rest e =
    ap (λ xs. addresses_of (filter test xs)) e ∙ ap addresses_of (filter-append test front rest)
    ∙ addresses_of-append (filter test front) (filter test rest)

-- the first bytes of consecutive bytes are those of an extent
pub begins_with : (at end n pa : ℕ) (ps : List Position) (e : Extent) → addresses_of (stretch at (end - at) ps)
    ≡ run_of pa n ++ addresses_of (stretch (at + n) (end - (at + n)) ps) → at + n ≤ end → e.len ≤ n → e.pa.0 ≡ pa →
    addresses_of (stretch at e.len ps) ≡ run_of e.pa.0 e.len
begins_with at end n pa ps e is within short same =
    let long = length-run_of pa n in
    ap addresses_of (sym (take-take e.len (end - at) (drop at ps) (omega arith)))
    ∙ sym (take-map (λ p. p.pa) e.len (stretch at (end - at) ps)) ∙ ap (take e.len) is
    ∙ take-append-le e.len (run_of pa n) _ (omega (arith, long)) ∙ take_run pa n e.len short
    ∙ ap (λ a. run_of a e.len) (sym same)

byte_there : (ps : List Position) (at : ℕ) (d : Position) → at < length ps →
    slice_index (addresses_of ps) at ≡ (get_or ps at d).pa
byte_there [] at d h = absurd (omega arith)
byte_there (p ∷ ps) zero d h = refl
byte_there (p ∷ ps) (suc at) d h = byte_there ps at d (omega arith)

-- if all bytes are memory, so is the byte of a position
pub low_at : (ps : List Position) (at pa : ℕ) → pa ≡ slice_index (addresses_of ps) at → at < length ps →
    All (λ p. p.pa < 2 ^ 42) ps → pa < 2 ^ 42
low_at ps at pa is range low =
    let none : Position = record { pa = 0; to_read = false; to_write = false } in
    let there : (get_or ps at none).pa < 2 ^ 42 = All-get_or (λ p. p.pa < 2 ^ 42) ps at none range low in
    let same : pa ≡ (get_or ps at none).pa = is ∙ byte_there ps at none range in
    omega (arith, there, same)
