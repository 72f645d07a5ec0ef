-- Frames that follow one another, among rising ones.
use Rattle.std.proofs.Common.{◌≡◌, ℕ, zero, suc, ◌+◌, ◌-◌, ◌*◌, ◌<◌, ◌≤◌, true, false, ◌&&◌, List, [], ◌∷◌, length}
use Rattle.std.proofs.Common.{get_or, drop, refl, sym, ap, ◌∙◌, arith, leb, eqb, Some, if◌then◌else◌}
use Rattle.std.specs.List.{All}
use Rattle.std.proofs.lemmas.Bool.{eqb-true, ne_eqb, and_right, and_parts, false≢true}
use Rattle.std.proofs.lemmas.Bool.Decides.{nat_tests}
use Rattle.std.proofs.lemmas.List.Elements.{All-cons, All-head, All-weaker}
use Rattle.std.proofs.lemmas.List.{get_or-map, get_or_read, get_or-drop, drop-map, drop_more, length-drop, length-map}
use Rattle.busdma_machine.specs.Machine.Page.{FrameBytes}
use Rattle.busdma_machine.specs.Bounce.History.{IsRising}
use Rattle.busdma_machine.specs.Bounce.MemoryRuns.{frames_for, follow, crosses_none, begins_run, lowest_run}
use Rattle.busdma_machine.specs.Machine.PageList.{page_address, page_addresses}
use Rattle.frame_bank.proofs.Rising.{AreRising, rising_pages, rising_drop}

-- each page is at or above a frame
abbrev pub AreFrom : ℕ → List FrameBytes → Type 0
AreFrom f ps = All (λ p. f ≤ p.frame) ps

pub from_next : (f g : ℕ) (ps : List FrameBytes) → g ≤ f + 1 → All (λ p. f < p.frame) ps → AreFrom g ps
from_next f g ps l h = All-weaker (λ p. f < p.frame) (λ p. g ≤ p.frame) (λ p m. omega arith) ps h

-- from a place on, each page is at or above the page there
pub from_place : (ps : List FrameBytes) (at : ℕ) → AreRising ps → at < length ps →
    AreFrom (get_or ps at (record { frame = 0; bytes = [] })).frame (drop at ps)
from_place [] at h l = absurd (omega arith)
from_place (p ∷ ps) zero h l =
    All-cons (λ q. p.frame ≤ q.frame) p ps (omega arith) (from_next p.frame p.frame ps (omega arith) h.0)
from_place (p ∷ ps) (suc at) h l = from_place ps at h.1 (omega arith)

-- the page n places on is at least n frames higher
pub rising_by : (n : ℕ) (p : FrameBytes) (ps : List FrameBytes) (d : FrameBytes) → AreRising (p ∷ ps) →
    n < length (p ∷ ps) → p.frame + n ≤ (get_or (p ∷ ps) n d).frame
rising_by zero p ps d h l = omega arith
rising_by (suc n) p [] d h l = absurd (omega arith)
rising_by (suc n) p (q ∷ qs) d h l =
    let here : p.frame < q.frame = All-head (λ (x : FrameBytes). p.frame < x.frame) q qs h.0 in
    omega (arith, rising_by n q qs d h.1 (omega arith))

pub follow-short : (n a : ℕ) (fs : List ℕ) → length fs < n → follow n a fs ≡ false
follow-short zero a fs l = absurd (omega arith)
follow-short (suc n) a [] l = refl
follow-short (suc n) a (g ∷ gs) l =
    and_right (eqb g a) (follow n (a + 4096) gs) (follow-short n (a + 4096) gs (omega arith))

-- rising frames follow one another if the last has the number that it then must have
pub follow-last : (n f a : ℕ) (ps : List FrameBytes) (d : FrameBytes) → a ≡ 4096 * f → AreRising ps → AreFrom f ps →
    n < length ps → follow (suc n) a (page_addresses ps) ≡ eqb (get_or ps n d).frame (f + n)
follow-last n f a [] d e h from l = absurd (omega arith)
follow-last zero f a (p ∷ ps) d e h from l = grind (arith, nat_tests, e)
follow-last (suc n) f a (p ∷ ps) d e h from l =
    let here : f ≤ p.frame = All-head (λ (x : FrameBytes). f ≤ x.frame) p ps from in
    (elim (eqb (4096 * p.frame) a) as (λ v. eqb (4096 * p.frame) a ≡ v →
    (v && follow (suc n) (a + 4096) (page_addresses ps)) ≡ eqb (get_or ps n d).frame (f + suc n)) [
      | true ↦ λ t.
          let same : p.frame ≡ f = omega (arith, eqb-true (4096 * p.frame) a t) in
          follow-last n (f + 1) (a + 4096) ps d (omega arith) h.1
          (from_next p.frame (f + 1) ps (omega arith) h.0) (omega arith)
          ∙ ap (eqb (get_or ps n d).frame) (omega arith)
      | false ↦ λ t.
          let above : f < p.frame = grind (arith, nat_tests, here, e, t) in
          let high : p.frame + suc n ≤ (get_or ps n d).frame = rising_by (suc n) p ps d h l in
          sym (ne_eqb (get_or ps n d).frame (f + suc n) (λ s. omega arith))
    ]) refl

abbrev pub no_page : FrameBytes
no_page = record { frame = 0; bytes = [] }

pub address_at : (ps : List FrameBytes) (at : ℕ) → at < length ps →
    get_or (page_addresses ps) at 0 ≡ 4096 * (get_or ps at no_page).frame
address_at ps at l = get_or-map page_address ps at no_page 0 l

-- from a place on, count frames follow one another if the last of them has the number that it then must have
pub follow-at : (count at : ℕ) (ps : List FrameBytes) (p q : FrameBytes) → IsRising (page_addresses ps) →
    at < length ps → 0 < count → count ≤ length ps - at →
    p ≡ get_or ps at p → q ≡ get_or ps (at + count - 1) q →
    follow count (get_or (page_addresses ps) at 0) (drop at (page_addresses ps)) ≡ eqb q.frame (p.frame + (count - 1))
follow-at zero at ps p q rising inside some enough here last = absurd (omega arith)
follow-at (suc n) at ps p q rising inside some enough here last =
    let h : AreRising ps = rising_pages ps rising in
    let f : ℕ = (get_or ps at no_page).frame in
    let is_first : p.frame ≡ f = ap (λ (x : FrameBytes). x.frame) (get_or_read ps at p inside here no_page) in
    let place : at + suc n - 1 ≡ at + n = omega arith in
    let is_last : q.frame ≡ (get_or (drop at ps) n no_page).frame =
    ap (λ (x : FrameBytes). x.frame) (get_or_read ps (at + suc n - 1) q (omega arith) last no_page
    ∙ ap (λ k. get_or ps k no_page) place ∙ sym (get_or-drop at ps n no_page)) in
    rw (address_at ps at inside, drop-map page_address at ps)
    (follow-last n f (4096 * f) (drop at ps) no_page refl (rising_drop at ps h)
    (from_place ps at h inside) (simp length-drop (omega arith))
    ∙ ap (λ k. eqb k (f + n)) (sym is_last) ∙ ap (eqb q.frame) (omega arith))

pub follow-long : (n a : ℕ) (fs : List ℕ) → follow n a fs ≡ true → n ≤ length fs
follow-long zero a fs e = omega arith
follow-long (suc n) a [] e = absurd (false≢true e)
follow-long (suc n) a (g ∷ gs) e =
    omega (arith, follow-long n (a + 4096) gs (and_parts (eqb g a) (follow n (a + 4096) gs) e).1)

-- the test of a run, from a place on
pub begins_run-at : (len boundary limit at : ℕ) (fs : List ℕ) → at < length fs →
    begins_run len boundary limit (drop at fs)
    ≡ (follow (frames_for len) (get_or fs at 0) (drop at fs)
    && (leb (get_or fs at 0 + 4096 * frames_for len) (limit + 1) && crosses_none len boundary (get_or fs at 0)))
begins_run-at len boundary limit at fs l =
    let e = drop_more fs at 0 l in
    let a : ℕ = get_or fs at 0 in
    ap (begins_run len boundary limit) e
    ∙ ap (λ gs. follow (frames_for len) a gs
    && (leb (a + 4096 * frames_for len) (limit + 1) && crosses_none len boundary a)) (sym e)

-- the test of a run of frames that follow one another, by its first page and its last
pub begins_run-ends : (len boundary limit count at : ℕ) (ps : List FrameBytes) (p q : FrameBytes) →
    IsRising (page_addresses ps) → at < length ps → count ≡ frames_for len → 0 < count →
    follow count (get_or (page_addresses ps) at 0) (drop at (page_addresses ps)) ≡ true →
    p ≡ get_or ps at p → q ≡ get_or ps (at + count - 1) q →
    begins_run len boundary limit (drop at (page_addresses ps))
    ≡ (leb (page_address q + 4095) limit && crosses_none len boundary (page_address p))
begins_run-ends len boundary limit count at ps p q rising inside is some follows here last =
    let long : count ≤ length ps - at =
    omega (arith, follow-long count _ _ follows, length-drop at (page_addresses ps), length-map ps page_address) in
    let number : q.frame ≡ p.frame + (count - 1) =
    eqb-true q.frame (p.frame + (count - 1))
    (sym (follow-at count at ps p q rising inside some long here last) ∙ follows) in
    let a_is : get_or (page_addresses ps) at 0 ≡ page_address p =
    address_at ps at inside ∙ ap page_address (sym (get_or_read ps at p inside here no_page)) in
    let end : leb (page_address p + 4096 * count) (limit + 1) ≡ leb (page_address q + 4095) limit =
    grind (arith, nat_tests, number, some) in
    begins_run-at len boundary limit at (page_addresses ps) (simp length-map inside)
    ∙ ap (λ n. follow n (get_or (page_addresses ps) at 0) (drop at (page_addresses ps))
    && (leb (get_or (page_addresses ps) at 0 + 4096 * n) (limit + 1)
    && crosses_none len boundary (get_or (page_addresses ps) at 0))) (sym is)
    ∙ ap (λ v. v && (leb (get_or (page_addresses ps) at 0 + 4096 * count) (limit + 1)
    && crosses_none len boundary (get_or (page_addresses ps) at 0))) follows
    ∙ ap (λ a. leb (a + 4096 * count) (limit + 1) && crosses_none len boundary a) a_is
    ∙ ap (λ v. v && crosses_none len boundary (page_address p)) end

-- the lowest run of the rest of a list, if it begins at a place and if it does not
pub lowest_run-here : (len boundary limit at : ℕ) (fs : List ℕ) → at < length fs →
    begins_run len boundary limit (drop at fs) ≡ true →
    lowest_run len boundary limit (drop at fs) ≡ Some (get_or fs at 0)
lowest_run-here len boundary limit at fs l e =
    let d = drop_more fs at 0 l in
    let f : ℕ = get_or fs at 0 in
    ap (lowest_run len boundary limit) d
    ∙ ap (λ v. if v then Some f else lowest_run len boundary limit (drop (at + 1) fs))
    (ap (begins_run len boundary limit) (sym d) ∙ e)

pub lowest_run-later : (len boundary limit at : ℕ) (fs : List ℕ) → at < length fs →
    begins_run len boundary limit (drop at fs) ≡ false →
    lowest_run len boundary limit (drop at fs) ≡ lowest_run len boundary limit (drop (at + 1) fs)
lowest_run-later len boundary limit at fs l e =
    let d = drop_more fs at 0 l in
    let f : ℕ = get_or fs at 0 in
    ap (lowest_run len boundary limit) d
    ∙ ap (λ v. if v then Some f else lowest_run len boundary limit (drop (at + 1) fs))
    (ap (begins_run len boundary limit) (sym d) ∙ e)
