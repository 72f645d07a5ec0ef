-- A page in its place among others.
use Rattle.std.proofs.Common.{◌≡◌, ◌≢◌, ℕ, zero, suc, ◌+◌, ◌*◌, ◌<◌, ◌≤◌, Bool, true, false, cond, List, [], ◌∷◌, map}
use Rattle.std.proofs.Common.{length, get_or, drop, replicate, refl, sym, ap, ◌∙◌, arith, leb, ltb, eqb}
use Rattle.std.specs.List.{All, AllPairs, AllWithin, count_by, insert}
use Rattle.std.proofs.lemmas.Bool.{ltb-true, ltb-false, leb-true, leb-false, lt-ltb, le-ltb, eq-eqb, ne_eqb}
use Rattle.std.proofs.lemmas.Bool.Decides.{nat_tests}
use Rattle.std.proofs.lemmas.List.{get_or_default, get_or-drop, drop_more, length-drop}
use Rattle.std.proofs.lemmas.List.Elements.{All-nil, All-cons, All-head, All-tail}
use Rattle.busdma_machine.specs.Machine.Page.{FrameBytes}
use Rattle.busdma_machine.specs.Bounce.History.{IsRising}
use Rattle.busdma_machine.specs.Bounce.MemoryRuns.{put_in}
use Rattle.busdma_machine.specs.Machine.PageList.{page_address, page_addresses}
use Rattle.frame_bank.specs.FrameBank.{Bank, free_frames, fresh_page, put_page, put_pages}
use Rattle.frame_bank.proofs.Counted.{weight, count_by-cons, count_by-map, count_by-front}
use Rattle.frame_bank.proofs.Rising.{AreRising, above_lower}

-- the page goes first, or it goes after the first page
put-first : (p q : FrameBytes) (qs : List FrameBytes) → p.frame < q.frame → put_page p (q ∷ qs) ≡ p ∷ q ∷ qs
put-first p q qs l = rw (lt-ltb p.frame q.frame l) refl

put-behind : (p q : FrameBytes) (qs : List FrameBytes) → q.frame ≤ p.frame → put_page p (q ∷ qs) ≡ q ∷ put_page p qs
put-behind p q qs l = rw (le-ltb p.frame q.frame l) refl

pub put_page-insert : (p : FrameBytes) (qs : List FrameBytes) (i : ℕ) → i ≤ length qs →
    AllWithin (λ q. leb q.frame p.frame ≡ true) qs 0 i →
    AllWithin (λ q. leb q.frame p.frame ≡ false) qs i (length qs) → put_page p qs ≡ insert qs i p
put_page-insert p [] zero l front rest = refl
put_page-insert p [] (suc i) l front rest = absurd (omega arith)
put_page-insert p (q ∷ qs) zero l front rest =
    put-first p q qs (leb-false q.frame p.frame (rest 0 q (omega arith) (omega arith)))
put_page-insert p (q ∷ qs) (suc i) l front rest =
    put-behind p q qs (leb-true q.frame p.frame (front 0 q (omega arith) (omega arith)))
    ∙ ap (λ rs. q ∷ rs) (put_page-insert p qs i (omega arith) (λ k d a b. front (suc k) d (omega arith) (omega arith))
    (λ k d a b. rest (suc k) d (omega arith) (omega arith)))

module _ (P : FrameBytes → Type 0) where
  pub All-put_page : (p : FrameBytes) (qs : List FrameBytes) → P p → All P qs → All P (put_page p qs)
  All-put_page p [] here h = All-cons P p [] here h
  All-put_page p (q ∷ qs) here h =
      (elim (ltb p.frame q.frame) as (λ v. All P (cond v (p ∷ q ∷ qs) (q ∷ put_page p qs))) [
        | true ↦ All-cons P p (q ∷ qs) here h
        | false ↦ All-cons P q (put_page p qs) (All-head P q qs h) (All-put_page p qs here (All-tail P q qs h))
      ])

-- the address in its place among the addresses
pub page_addresses-put_page : (p : FrameBytes) (qs : List FrameBytes) →
    page_addresses (put_page p qs) ≡ put_in (page_address p) (page_addresses qs)
page_addresses-put_page p [] = refl
page_addresses-put_page p (q ∷ qs) =
    let same : ltb p.frame q.frame ≡ ltb (page_address p) (page_address q) = grind (arith, nat_tests) in
    ap (λ v. page_addresses (cond v (p ∷ q ∷ qs) (q ∷ put_page p qs))) same
    ∙ (elim (ltb (page_address p) (page_address q))
    as (λ v. page_addresses (cond v (p ∷ q ∷ qs) (q ∷ put_page p qs))
    ≡ cond v (page_address p ∷ page_address q ∷ page_addresses qs)
    (page_address q ∷ put_in (page_address p) (page_addresses qs))) [
      | true ↦ refl
      | false ↦ ap (λ fs. page_address q ∷ fs) (page_addresses-put_page p qs)
    ])

pub length-put_page : (p : FrameBytes) (qs : List FrameBytes) → length (put_page p qs) ≡ length qs + 1
length-put_page p [] = refl
length-put_page p (q ∷ qs) =
    (elim (ltb p.frame q.frame) as (λ v. length (cond v (p ∷ q ∷ qs) (q ∷ put_page p qs)) ≡ length (q ∷ qs) + 1) [
      | true ↦ omega arith
      | false ↦ omega (arith, length-put_page p qs)
    ])

pub count_by-put_page : (t : FrameBytes → Bool) (p : FrameBytes) (qs : List FrameBytes) →
    count_by t (put_page p qs) ≡ weight (t p) + count_by t qs
count_by-put_page t p [] = count_by-cons t p []
count_by-put_page t p (q ∷ qs) =
    (elim (ltb p.frame q.frame) as (λ v. count_by t (cond v (p ∷ q ∷ qs) (q ∷ put_page p qs))
    ≡ weight (t p) + count_by t (q ∷ qs)) [
      | true ↦ count_by-cons t p (q ∷ qs)
      | false ↦ omega (arith, count_by-cons t q (put_page p qs), count_by-cons t q qs, count_by-put_page t p qs)
    ])

pub put_page-rising : (p : FrameBytes) (qs : List FrameBytes) → AreRising qs →
    count_by (λ q. eqb q.frame p.frame) qs ≡ 0 → AreRising (put_page p qs)
put_page-rising p [] h none = (All-nil (λ q. p.frame < q.frame), tt)
put_page-rising p (q ∷ qs) h none =
    let others = count_by-cons (λ (x : FrameBytes). eqb x.frame p.frame) q qs in
    (elim (ltb p.frame q.frame) as (λ v. ltb p.frame q.frame ≡ v →
    AreRising (cond v (p ∷ q ∷ qs) (q ∷ put_page p qs))) [
      | true ↦ λ t.
          let l : p.frame < q.frame = ltb-true p.frame q.frame t in
          (All-cons (λ x. p.frame < x.frame) q qs l (above_lower p.frame q.frame qs (omega arith) h.0), h)
      | false ↦ λ t.
          let l : q.frame ≤ p.frame = ltb-false p.frame q.frame t in
          let m : q.frame < p.frame = grind (arith, l, none, others, eq-eqb) in
          (All-put_page (λ x. q.frame < x.frame) p qs m h.0, put_page-rising p qs h.1 (omega arith))
    ]) refl

-- pages that are put in one by one are all there
pub length-put_pages : (ps : List FrameBytes) → length (put_pages ps []) ≡ length ps
length-put_pages [] = refl
length-put_pages (p ∷ ps) = omega (arith, length-put_page p (put_pages ps []), length-put_pages ps)

pub count_by-put_pages : (t : FrameBytes → Bool) (ps : List FrameBytes) → count_by t (put_pages ps []) ≡ count_by t ps
count_by-put_pages t [] = refl
count_by-put_pages t (p ∷ ps) =
    omega (arith, count_by-put_page t p (put_pages ps []), count_by-cons t p ps, count_by-put_pages t ps)

-- frames that differ from all that follow
pub differs_behind : (frames : List ℕ) (i j x : ℕ) → AllPairs (λ f g. f ≢ g) frames → j ≡ i + 1 → i < length frames →
    x ≡ get_or frames i 0 → count_by (λ p. eqb p.frame x) (map fresh_page (drop j frames)) ≡ 0
differs_behind frames i j x differ next inside here =
    count_by-map (λ p. eqb p.frame x) fresh_page (drop j frames)
    ∙ count_by-front (λ f. eqb f x) (drop j frames) 0 (omega arith) (λ k d a b. absurd (omega arith))
    (λ k d a b. ne_eqb (get_or (drop j frames) k d) x
    (λ e. differ i (j + k) d (omega arith) (omega (arith, length-drop j frames)) (get_or_default frames i d 0 inside
    ∙ sym here ∙ sym e ∙ get_or-drop j frames k d)))

-- the next page of a new bank is put in
pub put_next : (frames : List ℕ) (i j : ℕ) (page : FrameBytes) (pages : List FrameBytes) → j ≡ i + 1 →
    i < length frames → page.frame ≡ get_or frames i 0 → page.bytes ≡ replicate 4096 0xa5 →
    pages ≡ put_pages (map fresh_page (drop j frames)) [] →
    put_page page pages ≡ put_pages (map fresh_page (drop i frames)) []
put_next frames i j page pages next inside frame bytes before =
    let rest : List FrameBytes = put_pages (map fresh_page (drop j frames)) [] in
    ap (put_page page) before
    ∙ ap (λ bs. put_page (record { frame = page.frame; bytes = bs }) rest) bytes
    ∙ ap (λ f. put_page (fresh_page f) rest) frame
    ∙ ap (λ k. put_page (fresh_page (get_or frames i 0)) (put_pages (map fresh_page (drop k frames)) [])) next
    ∙ ap (λ fs. put_pages (map fresh_page fs) []) (sym (drop_more frames i 0 inside))

-- pages of rising frames stay in their order
pub put_rising : (fs : List ℕ) → IsRising fs → put_pages (map fresh_page fs) [] ≡ map fresh_page fs
put_rising [] rising = refl
put_rising (f ∷ []) rising = refl
put_rising (f ∷ g ∷ gs) rising =
    ap (put_page (fresh_page f)) (put_rising (g ∷ gs) rising.1)
    ∙ put-first (fresh_page f) (fresh_page g) (map fresh_page gs) rising.0

fresh_addresses : (fs : List ℕ) → page_addresses (map fresh_page fs) ≡ map (λ f. 4096 * f) fs
fresh_addresses [] = refl
fresh_addresses (f ∷ fs) = ap (λ xs. 4096 * f ∷ xs) (fresh_addresses fs)

pub rising_are_free : (fs : List ℕ) (b : Bank) → b.pages ≡ put_pages (map fresh_page fs) [] →
    IsRising fs → free_frames b ≡ map (λ f. 4096 * f) fs
rising_are_free fs b pages rising = ap page_addresses (pages ∙ put_rising fs rising) ∙ fresh_addresses fs
