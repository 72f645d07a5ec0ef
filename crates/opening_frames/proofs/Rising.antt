-- Lists of frames by how often each number occurs in them.
use Rattle.std.proofs.Common.{◌≡◌, ◌≢◌, ℕ, ◌+◌, ◌<◌, ◌≤◌, ◌==◌, List, [], ◌∷◌, map}
use Rattle.std.proofs.Common.{refl, sym, ap, ◌∙◌, arith, ◌⊎◌, inl, inr}
use Rattle.std.specs.List.{All, AllPairs, count_by}
use Rattle.std.proofs.lemmas.Bool.{eq-eqb, ne_eqb, cases_lt}
use Rattle.std.proofs.lemmas.List.Elements.{All-nil, All-cons, All-head, All-tail, All-weaker}
use Rattle.std.proofs.lemmas.List.Kept.{AllPairs-cons}
use Rattle.busdma_machine.specs.Bounce.History.{IsRising}
use Rattle.busdma_machine.specs.Bounce.Places.{times}
use Rattle.busdma_machine.specs.Machine.Page.{FrameBytes}
use Rattle.busdma_machine.specs.Machine.PageList.{page_frames}
use Rattle.busdma_machine.proofs.Accounts.Rising.{above_first}
use Rattle.frame_bank.specs.FrameBank.{fresh_page, put_pages}
use Rattle.opening_frames.proofs.ListCounts.{weight, count_by-cons, count_by-map}
use Rattle.frame_bank.proofs.Placing.{All-put_page, count_by-put_pages, put_page-rising}
use Rattle.frame_bank.proofs.Rising.{AreRising}

pub times-cons : (n f : ℕ) (fs : List ℕ) → times n (f ∷ fs) ≡ weight (f == n) + times n fs
times-cons n f fs = count_by-cons (λ g. g == n) f fs

pub weight-same : (n f : ℕ) → f ≡ n → weight (f == n) ≡ 1
weight-same n f e = ap weight (eq-eqb f n e)

pub weight-off : (n f : ℕ) → f ≢ n → weight (f == n) ≡ 0
weight-off n f e = ap weight (ne_eqb f n e)

-- a number that is not in a list occurs 0 times in it
pub times-none : (n : ℕ) (fs : List ℕ) → All (λ f. f ≢ n) fs → times n fs ≡ 0
times-none n [] h = refl
times-none n (f ∷ fs) h =
    omega (
      arith,
      times-cons n f fs,
      weight-off n f (All-head (λ g. g ≢ n) f fs h),
      times-none n fs (All-tail (λ g. g ≢ n) f fs h),
    )

tail-rises : (f : ℕ) (fs : List ℕ) → IsRising (f ∷ fs) → IsRising fs
tail-rises f [] h = tt
tail-rises f (g ∷ gs) h = h.1

-- a number below the first of a rising list is not in it
below-first : (n g : ℕ) (gs : List ℕ) → IsRising (g ∷ gs) → n < g → times n (g ∷ gs) ≡ 0
below-first n g gs h l =
    let off : (x : ℕ) → n < x → x ≢ n = (λ x m e. absurd (omega (arith, m, e))) in
    times-none n (g ∷ gs) (All-cons (λ x. x ≢ n) g gs (off g l)
    (All-weaker (λ x. g < x) (λ x. x ≢ n) (λ x m. off x (omega (arith, m, l))) gs (above_first g gs h)))

-- two rising lists in which each number occurs equally often are equal
pub rising-same : (fs gs : List ℕ) → IsRising fs → IsRising gs → ((n : ℕ) → times n fs ≡ times n gs) → fs ≡ gs
rising-same [] [] rf rg same = refl
rising-same [] (g ∷ gs) rf rg same =
    absurd (omega (arith, same g, times-cons g g gs, weight-same g g refl))
rising-same (f ∷ fs) [] rf rg same =
    absurd (omega (arith, same f, times-cons f f fs, weight-same f f refl))
rising-same (f ∷ fs) (g ∷ gs) rf rg same =
    by_order (cases_lt f g) (cases_lt g f) (rising-same fs gs (tail-rises f fs rf) (tail-rises g gs rg))
  where
    here : (n : ℕ) → weight (f == n) + times n fs ≡ weight (g == n) + times n gs
    here n = sym (times-cons n f fs) ∙ same n ∙ times-cons n g gs

    rest : f ≡ g → (n : ℕ) → times n fs ≡ times n gs
    rest e n = let one : weight (f == n) ≡ weight (g == n) = ap (λ x. weight (x == n)) e in omega (arith, here n, one)

    by_order : (f < g) ⊎ (g ≤ f) → (g < f) ⊎ (f ≤ g) → (((n : ℕ) → times n fs ≡ times n gs) → fs ≡ gs) →
        f ∷ fs ≡ g ∷ gs
    by_order (inl low) h next =
        absurd (omega (arith, same f, times-cons f f fs, weight-same f f refl, below-first f g gs rg low))
    by_order (inr most) (inl low) next =
        absurd (omega (arith, same g, times-cons g g gs, weight-same g g refl, below-first g f fs rf low))
    by_order (inr most) (inr least) next =
        let e : f ≡ g = omega (arith, most, least) in
        ap (λ x. x ∷ fs) e ∙ ap (λ xs. g ∷ xs) (next (rest e))

-- numbers that each occur at most once differ
apart : (f : ℕ) (fs : List ℕ) → times f fs ≡ 0 → All (λ g. f ≢ g) fs
apart f [] h = All-nil (λ g. f ≢ g)
apart f (g ∷ gs) h =
    All-cons (λ x. f ≢ x) g gs
    (λ e. absurd (omega (arith, h, times-cons f g gs, weight-same f g (sym e))))
    (apart f gs (omega (arith, h, times-cons f g gs)))

pub differ : (fs : List ℕ) → ((n : ℕ) → times n fs ≤ 1) → AllPairs (λ f g. f ≢ g) fs
differ [] one = λ i j d l m. absurd (omega (arith, l, m))
differ (f ∷ fs) one =
    AllPairs-cons (λ x y. x ≢ y) f fs
    (apart f fs (omega (arith, one f, times-cons f f fs, weight-same f f refl)))
    (differ fs (λ n. omega (arith, one n, times-cons n f fs)))

-- ---- the pages of a new bank

-- fresh pages of frames that each occur at most once, put in one by one, rise
times-fresh : (n : ℕ) (fs : List ℕ) →
    count_by (λ (p : FrameBytes). p.frame == n) (put_pages (map fresh_page fs) []) ≡ times n fs
times-fresh n fs =
    count_by-put_pages (λ (p : FrameBytes). p.frame == n) (map fresh_page fs)
    ∙ count_by-map (λ (p : FrameBytes). p.frame == n) fresh_page fs

put-rises : (fs : List ℕ) → ((n : ℕ) → times n fs ≤ 1) → AreRising (put_pages (map fresh_page fs) [])
put-rises [] one = tt
put-rises (f ∷ fs) one =
    put_page-rising (fresh_page f) (put_pages (map fresh_page fs) [])
    (put-rises fs (λ n. omega (arith, one n, times-cons n f fs)))
    (omega (arith, times-fresh f fs, one f, times-cons f f fs, weight-same f f refl))

-- their frames rise
frames-rise : (ps : List FrameBytes) → AreRising ps → IsRising (page_frames ps)
frames-rise [] h = tt
frames-rise (p ∷ []) h = tt
frames-rise (p ∷ q ∷ qs) h =
    (All-head (λ (x : FrameBytes). p.frame < x.frame) q qs h.0, frames-rise (q ∷ qs) h.1)

-- a page is fresh
abbrev IsFresh : FrameBytes → Type 0
IsFresh p = p ≡ fresh_page p.frame

put-fresh : (fs : List ℕ) → All IsFresh (put_pages (map fresh_page fs) [])
put-fresh [] = All-nil IsFresh
put-fresh (f ∷ fs) =
    All-put_page IsFresh (fresh_page f) (put_pages (map fresh_page fs) []) refl (put-fresh fs)

are-fresh : (ps : List FrameBytes) → All IsFresh ps → ps ≡ map fresh_page (page_frames ps)
are-fresh [] h = refl
are-fresh (p ∷ ps) h =
    ap (λ x. x ∷ ps) (All-head IsFresh p ps h)
    ∙ ap (λ xs. fresh_page p.frame ∷ xs) (are-fresh ps (All-tail IsFresh p ps h))

-- fresh pages of frames, put in one by one, are those of a rising list in which each number occurs equally often
pub put-sorted : (fs gs : List ℕ) → IsRising gs → ((n : ℕ) → times n fs ≤ 1) → ((n : ℕ) → times n fs ≡ times n gs) →
    put_pages (map fresh_page fs) [] ≡ map fresh_page gs
put-sorted fs gs rising one same =
    let ps : List FrameBytes = put_pages (map fresh_page fs) [] in
    let count : (n : ℕ) → times n (page_frames ps) ≡ times n gs =
    (λ n. count_by-map (λ f. f == n) (λ (p : FrameBytes). p.frame) ps ∙ times-fresh n fs ∙ same n) in
    are-fresh ps (put-fresh fs)
    ∙ ap (map fresh_page) (rising-same (page_frames ps) gs (frames-rise ps (put-rises fs one)) rising count)
