-- What an access does run by run.
use Rattle.std.proofs.Common.{◌≡◌, ◌≢◌, ℕ, zero, suc, ◌+◌, ◌-◌, ◌/◌, ◌%◌, ◌<◌, ◌≤◌, ◌==◌, true, false, List, [], ◌∷◌}
use Rattle.std.proofs.Common.{◌++◌, length, map, take, drop, get_or, set, refl, ap, sym, ◌∙◌, arith}
use Rattle.std.specs.Prelude.{◌||◌, Bool}
use Rattle.std.specs.List.{AllByRecursion, list_any}
use Rattle.std.proofs.Common.{inl, inr, length-append, length-drop, length-take}
use Rattle.std.proofs.lemmas.Bool.{cases_lt, false≢true, ne_eqb}
use Rattle.std.proofs.lemmas.List.{drop_all, drop_more, get_or-map, length-map}
use Rattle.busdma_machine.specs.Machine.Page.{FrameBytes, overwritten}
use Rattle.busdma_machine.specs.Machine.PageList.{page_frames}
use Rattle.busdma_machine.specs.Machine.Wire.{Wire, page_byte, put, with_bytes_of}
use Rattle.busdma_machine.specs.Runs.{run_of}
use Rattle.phys_memory.specs.Frames.{AreApart, SamePages}
use Rattle.phys_memory.specs.Memory.{FrameMemory, memory_has_frame}
use Rattle.phys_memory.specs.Memory.{wire, memory_written as written}
use Rattle.phys_memory.proofs.PageBytes.{no_page, no_page_at, none_apart, page_at, page_replaced, page_shown}
use Rattle.phys_memory.proofs.PageBytes.{page_written, put_under}
use Rattle.phys_memory.proofs.RunParts.{all_imply, run_in_frame, same_reads, take_append}
use Rattle.phys_memory.proofs.Writing.{written_run}
use Rattle.busdma_rules.proofs.Segments.Places.{run_length}
use Rattle.device_model.specs.Access.{IsThere}
use Rattle.device_model.specs.AccessSteps.{BeginsLow}

-- ---- a run, and what is left after it
pub split_run : (a n left : ℕ) (rest : List ℕ) → n ≤ left →
    take left (run_of a n ++ rest) ≡ run_of a n ++ take (left - n) rest
split_run a n left rest h =
    let whole : take left (run_of a n) ≡ run_of a n = taken left (run_of a n) (omega (arith, run_length a n)) in
    take_append left (run_of a n) rest ∙ ap (λ xs. xs ++ take (left - length (run_of a n)) rest) whole
    ∙ ap (λ k. run_of a n ++ take (left - k) rest) (run_length a n)
  where
    taken : (k : ℕ) (xs : List ℕ) → length xs ≤ k → take k xs ≡ xs
    taken zero [] l = refl
    taken zero (x ∷ xs) l = absurd (omega arith)
    taken (suc k) [] l = refl
    taken (suc k) (x ∷ xs) l = ap (λ ys. x ∷ ys) (taken k xs (omega arith))

pub all_behind : (P : ℕ → Type 0) (xs ys : List ℕ) → AllByRecursion P (xs ++ ys) → AllByRecursion P ys
all_behind P [] ys h = h
all_behind P (x ∷ xs) ys h = all_behind P xs ys h.1

pub first_of_run : (P : ℕ → Type 0) (a n : ℕ) (ys : List ℕ) → 0 < n → AllByRecursion P (run_of a n ++ ys) → P a
first_of_run P a zero ys h k = absurd (omega arith)
first_of_run P a (suc n) ys h k = k.0

-- the first of bytes that are there lies in a frame with a number
pub begins_low : (m : FrameMemory) (fs : List ℕ) (n : ℕ) (xs : List ℕ) → 0 < n →
    AllByRecursion (IsThere m fs) (take n xs) → BeginsLow xs
begins_low m fs zero xs h k = absurd (omega arith)
begins_low m fs (suc n) [] h k = tt
begins_low m fs (suc n) (x ∷ xs) h k = k.0.numbered

-- ---- where the bytes of one frame are
in_one_frame : (a n : ℕ) → a % 4096 + n ≤ 4096 → AllByRecursion (λ b. b / 4096 ≡ a / 4096) (run_of a n)
in_one_frame a n h = run_in_frame n a (a / 4096) (omega arith) (omega arith)

-- a frame that is not the memory's is a page's
pub among_pages : (x y : Bool) → x ≡ false → (x || y) ≡ true → y ≡ true
among_pages true y e h = absurd (cc)
among_pages false y e h = h

module _ (m : FrameMemory) (pages : List FrameBytes) (apart : AreApart m (page_frames pages)) where
  -- bytes of a frame of the memory
  pub memory_read : (a n : ℕ) → a % 4096 + n ≤ 4096 → memory_has_frame m (a / 4096) ≡ true →
      map (wire m) (run_of a n) ≡ map (with_bytes_of pages (wire m)) (run_of a n)
  memory_read a n h there =
      same_reads (run_of a n) _ _ (all_imply _ _
      (λ b q. sym (no_page_at pages (wire m) b
      (none_apart m pages (b / 4096) apart.away (ap (memory_has_frame m) q ∙ there))))
      (run_of a n) (in_one_frame a n h))

  pub memory_written : (a : ℕ) (bytes : List ℕ) (now : Wire) → a % 4096 + length bytes ≤ 4096 →
      memory_has_frame m (a / 4096) ≡ true → now ≡ written a bytes (wire m)
      → with_bytes_of pages now ≡ put (run_of a (length bytes)) bytes (with_bytes_of pages (wire m))
  memory_written a bytes now h there is =
      ap (with_bytes_of pages) (is ∙ written_run a bytes (wire m))
      ∙ put_under pages (run_of a (length bytes)) bytes (wire m)
      (all_imply _ _ (λ b q. none_apart m pages (b / 4096) apart.away (ap (memory_has_frame m) q ∙ there))
      (run_of a (length bytes)) (in_one_frame a (length bytes) h))

  -- bytes of a page
  frame_at : (k : ℕ) (f : ℕ) → k < length pages → get_or (page_frames pages) k 0 ≡ f → f
      ≡ (get_or pages k no_page).frame
  frame_at k f h e = sym (sym (get_or-map (λ (p : FrameBytes). p.frame) pages k no_page 0 h) ∙ e)

  pub page_read : (k a n : ℕ) → k < length pages → get_or (page_frames pages) k 0 ≡ a / 4096 → a % 4096 + n ≤ 4096
      → map (page_byte (get_or pages k no_page)) (run_of a n) ≡ map (with_bytes_of pages (wire m)) (run_of a n)
  page_read k a n h e fits =
      same_reads (run_of a n) _ _ (all_imply _ _
      (λ b q. sym (page_at pages k (wire m) b apart.differ h (q ∙ frame_at k (a / 4096) h e)))
      (run_of a n) (in_one_frame a n fits))

  pub page_put : (k a : ℕ) (bytes : List ℕ) (new : FrameBytes) → k < length pages →
      get_or (page_frames pages) k 0 ≡ a / 4096 → a % 4096 + length bytes ≤ 4096
      → length (get_or pages k no_page).bytes ≡ 4096 →
      new ≡ record (get_or pages k no_page) { bytes = overwritten (get_or pages k no_page).bytes (a % 4096) bytes }
      → with_bytes_of (set pages k new) (wire m) ≡ put (run_of a (length bytes)) bytes (with_bytes_of pages (wire m))
  page_put k a bytes new h e fits whole is =
      let page = get_or pages k no_page in
      let w = with_bytes_of pages (wire m) in
      page_replaced pages k new (wire m) apart.differ h (ap (λ (p : FrameBytes). p.frame) is)
      ∙ ap (λ p. with_bytes_of (p ∷ []) w) is
      ∙ page_written page a bytes w whole (frame_at k (a / 4096) h e) fits
      ∙ ap (put (run_of a (length bytes)) bytes) (page_shown pages k (wire m) apart.differ h)

-- ---- what stays the same if a memory has the same pages
pub there_now : (m n : FrameMemory) (fs now : List ℕ) (a : ℕ) → SamePages m n → now ≡ fs → IsThere m fs a →
    IsThere n now a
there_now m n fs now a s e t = record {
  numbered = t.numbered;
  found = ap (λ b. b || list_any (λ f. a / 4096 == f) now) (s.frames (a / 4096))
      ∙ (ap (λ xs. memory_has_frame m (a / 4096) || list_any (λ f. a / 4096 == f) xs) e ∙ t.found);
}

-- ---- how many bytes a slice has, and what is left of the segments
pub slice_size : (n done k : ℕ) (bytes : List ℕ) → k ≡ n →
    done + n ≤ length bytes → length (take k (drop done bytes)) ≡ n
slice_size n done k bytes e h = ap (λ j. length (take j (drop done bytes))) e
    ∙ (omega (arith, length-take n (drop done bytes), length-drop done bytes))

pub rest_length : (a n : ℕ) (xs rest : List ℕ) → xs ≡ run_of a n ++ rest → length xs ≡ n + length rest
rest_length a n xs rest e = ap length e ∙ length-append (run_of a n) rest ∙ ap (λ k. k + length rest) (run_length a n)

-- the frame of another page is searched for in the pages after it
pub any_behind : (ps : List FrameBytes) (k f : ℕ) (d : FrameBytes) → (get_or ps k d).frame ≢ f →
    list_any (λ g. f == g) (drop k (page_frames ps)) ≡ true → list_any (λ g. f == g) (drop (k + 1) (page_frames ps))
    ≡ true
any_behind ps k f d differ h = elim (cases_lt k (length ps)) [
  | inl l ↦
      let same : get_or (page_frames ps) k 0 ≡ (get_or ps k d).frame =
      get_or-map (λ (p : FrameBytes). p.frame) ps k d 0 l in
      let more = drop_more (page_frames ps) k 0 (omega (arith, l, length-map ps (λ (p : FrameBytes). p.frame))) in
      behind (get_or (page_frames ps) k 0) (drop (k + 1) (page_frames ps))
      (ne_eqb f (get_or (page_frames ps) k 0) (λ e. differ (sym (e ∙ same))))
      (sym (ap (list_any (λ g. f == g)) more) ∙ h)
  | inr l ↦
      let none = drop_all k (page_frames ps) (omega (arith, l, length-map ps (λ (p : FrameBytes). p.frame))) in
      absurd (false≢true (sym (ap (list_any (λ g. f == g)) none) ∙ h))
]
  where
    behind : (x : ℕ) (xs : List ℕ) → (f == x) ≡ false →
        list_any (λ g. f == g) (x ∷ xs) ≡ true → list_any (λ g. f == g) xs ≡ true
    behind x xs e q = among_pages (f == x) (list_any (λ g. f == g) xs) e q
