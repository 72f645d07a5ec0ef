-- The wire if pages hold the bytes of their frames.
use Rattle.std.proofs.Common.{◌≡◌, ◌≢◌, ℕ, zero, suc, ◌+◌, ◌-◌, ◌*◌, ◌/◌, ◌%◌, ◌<◌, ◌≤◌, ◌==◌, true, false, cond}
use Rattle.std.proofs.Common.{List, [], ◌∷◌, length, map, take, drop, drop-cons, get_or, set, refl, sym, ap, ◌∙◌, inl}
use Rattle.std.proofs.Common.{inr, arith}
use Rattle.std.specs.Prelude.{if◌then◌else◌}
use Rattle.std.specs.List.{All, AllByRecursion, AllPairs}
use Rattle.std.proofs.Math.Path.{fun_ext}
use Rattle.std.proofs.lemmas.Bool.{eq-eqb, ne_eqb, false≢true}
use Rattle.std.proofs.lemmas.Bool.Decides.{eqb_tells}
use Rattle.std.proofs.lemmas.List.{get_or-map, length-map}
use Rattle.busdma_machine.specs.Machine.Page.{FrameBytes, overwritten}
use Rattle.busdma_machine.specs.Machine.PageList.{page_frames}
use Rattle.busdma_machine.specs.Machine.Wire.{Wire, page_byte, put, with_bytes_of}
use Rattle.busdma_machine.specs.Runs.{run_of}
use Rattle.phys_memory.specs.Memory.{FrameMemory, memory_has_frame, memory_written}
use Rattle.phys_memory.proofs.FrameBytes.{in_run, at_address, elsewhere, offset_in_frame, get_or-overwritten}
use Rattle.phys_memory.proofs.Writing.{written_run}

-- the value that is read beyond the end of a list of pages
pub no_page : FrameBytes
no_page = record { frame = 0; bytes = [] }

-- the first page has the bytes of its frame, and the others those of other frames
pub first_page : (p : FrameBytes) (ps : List FrameBytes) (w : Wire) (a : ℕ) → a / 4096 ≡ p.frame →
    with_bytes_of (p ∷ ps) w a ≡ page_byte p a
first_page p ps w a h = ap (λ b. cond b (page_byte p a) (with_bytes_of ps w a)) (eq-eqb (a / 4096) p.frame h)

pub other_pages : (p : FrameBytes) (ps : List FrameBytes) (w : Wire) (a : ℕ) → a / 4096 ≢ p.frame →
    with_bytes_of (p ∷ ps) w a ≡ with_bytes_of ps w a
other_pages p ps w a h = ap (λ b. cond b (page_byte p a) (with_bytes_of ps w a)) (ne_eqb (a / 4096) p.frame h)

-- a frame is none of these
abbrev pub IsNone : List FrameBytes → ℕ → Type 0
IsNone ps f = AllByRecursion (λ p. f ≢ p.frame) ps

-- an address of none of the pages
pub no_page_at : (ps : List FrameBytes) (w : Wire) (a : ℕ) → IsNone ps (a / 4096) → with_bytes_of ps w a ≡ w a
no_page_at [] w a h = refl
no_page_at (p ∷ ps) w a h = other_pages p ps w a h.0 ∙ no_page_at ps w a h.1

-- a frame of the memory is none of pages that lie apart from it
pub none_apart : (m : FrameMemory) (ps : List FrameBytes) (f : ℕ) →
    All (λ g. memory_has_frame m g ≡ false) (page_frames ps) → memory_has_frame m f ≡ true → IsNone ps f
none_apart m [] f h k = tt
none_apart m (p ∷ ps) f h k = (
  λ e. false≢true (sym (h 0 0 (omega arith)) ∙ (ap (memory_has_frame m) (sym e) ∙ k)),
  none_apart m ps f (λ j d l. h (suc j) d (omega arith)) k,
)

-- pages whose frames differ: the first page, and those after it
first_differs : (p : FrameBytes) (ps : List FrameBytes) (i : ℕ) → AllPairs (λ f g. f ≢ g) (page_frames (p ∷ ps)) →
    i < length ps → p.frame ≢ (get_or ps i no_page).frame
first_differs p ps i h k e =
    h 0 (suc i) 0 (omega arith) (omega (arith, length-map (p ∷ ps) (λ (x : FrameBytes). x.frame)))
    (e ∙ sym (get_or-map (λ (x : FrameBytes). x.frame) ps i no_page 0 k))

pub later_differ : (p : FrameBytes) (ps : List FrameBytes) →
    AllPairs (λ f g. f ≢ g) (page_frames (p ∷ ps)) → AllPairs (λ f g. f ≢ g) (page_frames ps)
later_differ p ps h i j d k l = h (suc i) (suc j) d (omega arith) (omega arith)

-- the page of an address, among pages whose frames differ
pub page_at : (ps : List FrameBytes) (i : ℕ) (w : Wire) (a : ℕ) → AllPairs (λ f g. f ≢ g) (page_frames ps) →
    i < length ps → a / 4096 ≡ (get_or ps i no_page).frame → with_bytes_of ps w a ≡ page_byte (get_or ps i no_page) a
page_at [] i w a d h e = absurd (omega arith)
page_at (p ∷ ps) zero w a d h e = first_page p ps w a e
page_at (p ∷ ps) (suc i) w a d h e =
    other_pages p ps w a (λ q. first_differs p ps i d (omega arith) (sym q ∙ e))
    ∙ page_at ps i w a (later_differ p ps d) (omega arith) e

-- a page is replaced by another page of the same frame
pub page_replaced : (ps : List FrameBytes) (i : ℕ) (new : FrameBytes) (w : Wire) →
    AllPairs (λ f g. f ≢ g) (page_frames ps) → i < length ps → new.frame ≡ (get_or ps i no_page).frame →
    with_bytes_of (set ps i new) w ≡ with_bytes_of (new ∷ []) (with_bytes_of ps w)
page_replaced ps i new w d h e = fun_ext (at ps i d h e)
  where
    at : (ps : List FrameBytes) (i : ℕ) → AllPairs (λ f g. f ≢ g) (page_frames ps) → i < length ps →
        new.frame ≡ (get_or ps i no_page).frame → (a : ℕ) →
        with_bytes_of (set ps i new) w a ≡ with_bytes_of (new ∷ []) (with_bytes_of ps w) a
    at [] i d h e a = absurd (omega arith)
    at (p ∷ ps) zero d h e a = elim (eqb_tells (a / 4096) new.frame) [
      | inl t ↦ first_page new ps w a t.1 ∙ sym (first_page new [] (with_bytes_of (p ∷ ps) w) a t.1)
      | inr t ↦
          other_pages new ps w a t.1 ∙ sym (other_pages p ps w a (λ q. t.1 (q ∙ sym e)))
          ∙ sym (other_pages new [] (with_bytes_of (p ∷ ps) w) a t.1)
    ]
    at (p ∷ ps) (suc i) d h e a = elim (eqb_tells (a / 4096) p.frame) [
      | inl t ↦
          let away : a / 4096 ≢ new.frame = (λ q. first_differs p ps i d (omega arith) (sym t.1 ∙ (q ∙ e))) in
          first_page p (set ps i new) w a t.1 ∙ sym (first_page p ps w a t.1)
          ∙ sym (other_pages new [] (with_bytes_of (p ∷ ps) w) a away)
      | inr t ↦
          let rest = at ps i (later_differ p ps d) (omega arith) e a in
          other_pages p (set ps i new) w a t.1 ∙ (rest ∙ under (other_pages p ps w a t.1))
    ]
      where
        under : with_bytes_of (p ∷ ps) w a ≡ with_bytes_of ps w a →
            with_bytes_of (new ∷ []) (with_bytes_of ps w) a ≡ with_bytes_of (new ∷ []) (with_bytes_of (p ∷ ps) w) a
        under q = ap (λ x. cond (a / 4096 == new.frame) (page_byte new a) x) (sym q)

-- the pages show the bytes of each page among them
pub page_shown : (ps : List FrameBytes) (i : ℕ) (w : Wire) → AllPairs (λ f g. f ≢ g) (page_frames ps) → i < length ps →
    with_bytes_of (get_or ps i no_page ∷ []) (with_bytes_of ps w) ≡ with_bytes_of ps w
page_shown ps i w d h = fun_ext (λ a. elim (eqb_tells (a / 4096) (get_or ps i no_page).frame) [
  | inl t ↦ first_page (get_or ps i no_page) [] (with_bytes_of ps w) a t.1 ∙ sym (page_at ps i w a d h t.1)
  | inr t ↦ other_pages (get_or ps i no_page) [] (with_bytes_of ps w) a t.1
])

-- bytes that are put at addresses of no page
pub put_under : (ps : List FrameBytes) (keys vs : List ℕ) (w : Wire) →
    AllByRecursion (λ a. IsNone ps (a / 4096)) keys →
    with_bytes_of ps (put keys vs w) ≡ put keys vs (with_bytes_of ps w)
put_under ps [] vs w h = refl
put_under ps (k ∷ keys) [] w h = refl
put_under ps (k ∷ keys) (v ∷ vs) w h =
    put_under ps keys vs (λ b. cond (b == k) v (w b)) h.1 ∙ ap (put keys vs) (fun_ext (one ps h.0))
  where
    one : (ps : List FrameBytes) → IsNone ps (k / 4096) → (a : ℕ) →
        with_bytes_of ps (λ b. cond (b == k) v (w b)) a ≡ cond (a == k) v (with_bytes_of ps w a)
    one [] h a = refl
    one (p ∷ ps) h a = elim (eqb_tells (a / 4096) p.frame) [
      | inl t ↦
          first_page p ps (λ b. cond (b == k) v (w b)) a t.1 ∙ sym (first_page p ps w a t.1)
          ∙ ap (λ b. cond b v (with_bytes_of (p ∷ ps) w a))
          (sym (ne_eqb a k (λ q. h.0 (ap (λ x. x / 4096) (sym q) ∙ t.1))))
      | inr t ↦
          other_pages p ps (λ b. cond (b == k) v (w b)) a t.1 ∙ one ps h.1 a
          ∙ ap (λ x. cond (a == k) v x) (sym (other_pages p ps w a t.1))
    ]

-- bytes that are written into a page
pub page_written : (p : FrameBytes) (pa : ℕ) (bs : List ℕ) (w : Wire) → length p.bytes ≡ 4096 → pa / 4096 ≡ p.frame →
    pa % 4096 + length bs ≤ 4096 → with_bytes_of (record p { bytes = overwritten p.bytes (pa % 4096) bs } ∷ []) w
    ≡ put (run_of pa (length bs)) bs (with_bytes_of (p ∷ []) w)
page_written p pa bs w whole here fits = fun_ext at ∙ written_run pa bs (with_bytes_of (p ∷ []) w)
  where
    new : FrameBytes
    new = record p { bytes = overwritten p.bytes (pa % 4096) bs }

    at : (a : ℕ) → with_bytes_of (new ∷ []) w a ≡ memory_written pa bs (with_bytes_of (p ∷ []) w) a
    at a = elim (eqb_tells (a / 4096) p.frame) [
      | inl t ↦
          first_page new [] w a t.1 ∙ get_or-overwritten p.bytes (pa % 4096) bs (a % 4096) (omega arith)
          ∙ ap (λ b. if b then get_or bs (a % 4096 - pa % 4096) 0 else get_or p.bytes (a % 4096) 0)
          (at_address pa (length bs) a fits (t.1 ∙ sym here))
          ∙ ap (λ i. if in_run pa (length bs) a then get_or bs i 0 else get_or p.bytes (a % 4096) 0)
          (offset_in_frame pa a (t.1 ∙ sym here))
          ∙ ap (λ x. if in_run pa (length bs) a then get_or bs (a - pa) 0 else x) (sym (first_page p [] w a t.1))
      | inr t ↦
          other_pages new [] w a t.1 ∙ sym (other_pages p [] w a t.1)
          ∙ ap (λ b. if b then get_or bs (a - pa) 0 else with_bytes_of (p ∷ []) w a)
          (sym (elsewhere pa (length bs) a fits (λ q. t.1 (q ∙ here))))
    ]

-- the bytes of a page from a place on are those at their addresses
slice_from : (p : FrameBytes) (f at n : ℕ) → length p.bytes ≡ 4096 → at + n ≤ 4096 →
    take n (drop at p.bytes) ≡ map (page_byte p) (run_of (4096 * f + at) n)
slice_from p f at zero whole h = refl
slice_from p f at (suc n) whole h =
    let place : (4096 * f + at) % 4096 ≡ at = omega arith in
    let next : 4096 * f + suc at ≡ 4096 * f + at + 1 = omega arith in
    let others : take n (drop (suc at) p.bytes) ≡ map (page_byte p) (run_of (4096 * f + at + 1) n) =
    slice_from p f (suc at) n whole (omega arith) ∙ ap (λ a. map (page_byte p) (run_of a n)) next in
    ap (take (suc n)) (drop-cons p.bytes at 0 (omega arith))
    ∙ ap (λ i. get_or p.bytes i 0 ∷ take n (drop (suc at) p.bytes)) (sym place)
    ∙ ap (λ xs. page_byte p (4096 * f + at) ∷ xs) others

pub slice_page : (p : FrameBytes) (pa n k : ℕ) → k ≡ n → length p.bytes ≡ 4096 → pa % 4096 + n ≤ 4096 →
    take k (drop (pa % 4096) p.bytes) ≡ map (page_byte p) (run_of pa n)
slice_page p pa n k e whole h =
    let address : 4096 * (pa / 4096) + pa % 4096 ≡ pa = omega arith in
    ap (λ j. take j (drop (pa % 4096) p.bytes)) e ∙ slice_from p (pa / 4096) (pa % 4096) n whole h
    ∙ ap (λ a. map (page_byte p) (run_of a n)) address
