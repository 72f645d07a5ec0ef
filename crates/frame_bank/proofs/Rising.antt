-- Pages of rising frames.
use Rattle.std.proofs.Common.{ℕ, zero, suc, ◌+◌, ◌<◌, ◌≤◌, List, [], ◌∷◌, length, get_or, take, drop, arith}
use Rattle.std.specs.List.{All}
use Rattle.std.specs.List.Sorted.{IsNonDecreasingBy}
use Rattle.std.proofs.lemmas.List.Elements.{All-nil, All-cons, All-head, All-get_or, All-weaker}
use Rattle.busdma_machine.specs.Machine.Page.{FrameBytes}
use Rattle.busdma_machine.specs.Bounce.History.{IsRising}
use Rattle.busdma_machine.specs.Machine.PageList.{page_address, page_addresses}

-- each page is above a frame
abbrev pub AreAbove : ℕ → List FrameBytes → Type 0
AreAbove f ps = All (λ p. f < p.frame) ps

abbrev pub AreRising : List FrameBytes → Type 0
AreRising [] = Unit {0}
AreRising (p ∷ ps) = AreAbove p.frame ps × AreRising ps

pub above_lower : (f g : ℕ) (ps : List FrameBytes) → f ≤ g → AreAbove g ps → AreAbove f ps
above_lower f g ps l h = All-weaker (λ p. g < p.frame) (λ p. f < p.frame) (λ p m. omega arith) ps h

pub rising_pages : (ps : List FrameBytes) → IsRising (page_addresses ps) → AreRising ps
rising_pages [] h = tt
rising_pages (p ∷ []) h = (All-nil (λ q. p.frame < q.frame), tt)
rising_pages (p ∷ q ∷ qs) h =
    let rest = rising_pages (q ∷ qs) h.1 in
    let here : p.frame < q.frame = omega (arith, h.0) in
    (All-cons (λ x. p.frame < x.frame) q qs here (above_lower p.frame q.frame qs (omega arith) rest.0), rest)

pub rising_addresses : (ps : List FrameBytes) → AreRising ps → IsRising (page_addresses ps)
rising_addresses [] h = tt
rising_addresses (p ∷ []) h = tt
rising_addresses (p ∷ q ∷ qs) h =
    let here : p.frame < q.frame = All-head (λ (x : FrameBytes). p.frame < x.frame) q qs h.0 in
    (omega arith, rising_addresses (q ∷ qs) h.1)

pub rising_drop : (n : ℕ) (ps : List FrameBytes) → AreRising ps → AreRising (drop n ps)
rising_drop zero ps h = h
rising_drop (suc n) [] h = tt
rising_drop (suc n) (p ∷ ps) h = rising_drop n ps h.1

-- each page before a place is below the page there
pub rising_below : (ps : List FrameBytes) (i : ℕ) (d : FrameBytes) → AreRising ps → i < length ps →
    All (λ q. q.frame < (get_or ps i d).frame) (take i ps)
rising_below [] i d h l = absurd (omega arith)
rising_below (p ∷ ps) zero d h l = All-nil (λ q. q.frame < p.frame)
rising_below (p ∷ ps) (suc i) d h l =
    All-cons (λ q. q.frame < (get_or ps i d).frame) p (take i ps)
    (All-get_or (λ q. p.frame < q.frame) ps i d (omega arith) h.0) (rising_below ps i d h.1 (omega arith))

pub rising_never_falls : (ps : List FrameBytes) → AreRising ps → IsNonDecreasingBy (λ p. p.frame) ps
rising_never_falls [] h i j d le l = absurd (omega arith)
rising_never_falls (p ∷ ps) h zero zero d le l = omega arith
rising_never_falls (p ∷ ps) h zero (suc j) d le l =
    let above : p.frame < (get_or ps j d).frame =
    All-get_or (λ q. p.frame < q.frame) ps j d (omega arith) h.0 in omega arith
rising_never_falls (p ∷ ps) h (suc i) zero d le l = absurd (omega arith)
rising_never_falls (p ∷ ps) h (suc i) (suc j) d le l = rising_never_falls ps h.1 i j d (omega arith) (omega arith)

pub rising_ends : (ps : List FrameBytes) → AreRising ps → IsNonDecreasingBy (λ p. page_address p + 4095) ps
rising_ends ps h i j d le l = omega (arith, rising_never_falls ps h i j d le l)
