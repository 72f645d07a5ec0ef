-- Pages that go, one after the other.
use Rattle.std.proofs.Common.{◌≡◌, ℕ, zero, suc, ◌+◌, ◌*◌, ◌/◌, ◌%◌, ◌<◌, Bool, true, false, cond, List}
use Rattle.std.proofs.Common.{[], ◌∷◌, ◌++◌, append_assoc, length, length-append, map, refl, sym, ap, ◌∙◌, subst}
use Rattle.std.proofs.Common.{Option, Some, None, is_some, arith}
use Rattle.std.specs.Prelude.{nat_eq, unwrap_or}
use Rattle.std.specs.FinMap.{get}
use Rattle.std.specs.Option.{option_map}
use Rattle.std.proofs.lemmas.Bool.{false≢true}
use Rattle.std.proofs.lemmas.List.{length-map}
use Rattle.busdma_machine.specs.Bounce.MemoryRuns.{in_run, frames_from}
use Rattle.busdma_machine.specs.Machine.Page.{FrameBytes}
use Rattle.busdma_machine.specs.Machine.PageList.{page_address, page_addresses}
use Rattle.busdma_machine.specs.Machine.VirtualPages.{pages_end}
use Rattle.busdma_rules.specs.Memory.Memories.{virtual_of}
use Rattle.phys_memory.specs.declared.reach.Reach.{Reach}
use Rattle.phys_memory.specs.Memory as memory
use Rattle.phys_memory.specs.Memory.{FrameMemory, byte_in, memory_has_frame}
use Rattle.phys_memory.specs.Memory.{page_at, wire, without_page}
use Rattle.phys_memory.proofs.Tables.{get_removed}
use Rattle.memory_pages.specs.Bytes.{page_of, memory_pages_of}
use Rattle.memory_pages.specs.Placed.{AreAtTheirFrames, Goes, HasFrames, IsAtItsFrame, frame_of, is_frame, is_page}
use Rattle.memory_pages.proofs.Runs.{extend, in_run_end, in_run_hi, in_run_is, in_run_lo, in_run_none, in_run_page}

-- one more frame at the end
pub frames_more : (n first : ℕ) → frames_from (n + 1) first ≡ frames_from n first ++ (first + 4096 * n) ∷ []
frames_more zero first = ap (λ a. a ∷ []) (omega arith)
frames_more (suc n) first =
    let one : suc n + 1 ≡ suc (n + 1) = omega arith in
    let last : first + 4096 + 4096 * n ≡ first + 4096 * suc n = omega arith in
    ap (λ k. frames_from k first) one ∙ ap (λ xs. first ∷ xs) (frames_more n (first + 4096))
    ∙ ap (λ a. first ∷ frames_from n (first + 4096) ++ a ∷ []) last

pub map_push : {X Y : Type 0} (f : X → Y) (xs : List X) (x : X) → map f (xs ++ x ∷ []) ≡ map f xs ++ f x ∷ []
map_push f [] x = refl
map_push f (y ∷ xs) x = ap (λ ys. f y ∷ ys) (map_push f xs x)

-- nothing is gone yet
pub none_gone : (m : FrameMemory) (first : ℕ) → Goes m m first 0
none_gone m first = record {
  rows = λ v. sym (ap (λ b. cond b None (get m.table v)) (in_run_none (virtual_of first) (4096 * v)));
  frames = λ f. sym (ap (λ b. cond b None (get m.frames f)) (in_run_none first (4096 * f)));
}

-- the next page, and the memory without it
module _ (old new : FrameMemory) (first n i : ℕ) (whole : first % 4096 ≡ 0) (lt : i < n) (there : HasFrames old first n)
    (goes : Goes old new first i) where
  number : virtual_of (first + 4096 * i) / 4096 ≡ pages_end / 4096 + (first + 4096 * i) / 4096
  number = omega arith

  page : 4096 * (virtual_of (first + 4096 * i) / 4096) ≡ virtual_of first + 4096 * i
  page = omega arith

  own : frame_of (virtual_of (first + 4096 * i) / 4096) ≡ (first + 4096 * i) / 4096
  own = omega arith

  frame : 4096 * ((first + 4096 * i) / 4096) ≡ first + 4096 * i
  frame = omega arith

  row : get new.table (virtual_of (first + 4096 * i) / 4096) ≡ get old.table (virtual_of (first + 4096 * i) / 4096)
  row =
      let p = page in
      goes.rows (virtual_of (first + 4096 * i) / 4096)
      ∙ ap (λ b. cond b None (get old.table (virtual_of (first + 4096 * i) / 4096)))
      (in_run_end (virtual_of first) i (4096 * (virtual_of (first + 4096 * i) / 4096)) (omega arith))

  bytes : get new.frames ((first + 4096 * i) / 4096) ≡ get old.frames ((first + 4096 * i) / 4096)
  bytes =
      let p = frame in
      goes.frames ((first + 4096 * i) / 4096)
      ∙ ap (λ b. cond b None (get old.frames ((first + 4096 * i) / 4096)))
      (in_run_end first i (4096 * ((first + 4096 * i) / 4096)) (omega arith))

  found : (o : Option Reach) → get old.table (virtual_of (first + 4096 * i) / 4096) ≡ o →
      option_map (λ (r : Reach). r.frame) o ≡ Some ((first + 4096 * i) / 4096)
  found o e =
      let p = page in
      ap (option_map (λ (r : Reach). r.frame)) (sym e)
      ∙ there (virtual_of (first + 4096 * i) / 4096)
      (in_run_is (virtual_of first) n (4096 * (virtual_of (first + 4096 * i) / 4096)) (omega arith) (omega arith))
      ∙ ap Some own

  pub next_page : page_at new (virtual_of (first + 4096 * i)) ≡ Some (page_of old (first + 4096 * i))
  next_page = at (get old.table (virtual_of (first + 4096 * i) / 4096)) refl
    where
      at : (o : Option Reach) → get old.table (virtual_of (first + 4096 * i) / 4096) ≡ o →
          page_at new (virtual_of (first + 4096 * i)) ≡ Some (page_of old (first + 4096 * i))
      at None e = none (found None e)
        where
          none : None ≡ Some ((first + 4096 * i) / 4096) →
              page_at new (virtual_of (first + 4096 * i)) ≡ Some (page_of old (first + 4096 * i))
          none q = absurd (cc)
      at (Some r) e =
          ap (λ o. memory.page_of new o) (row ∙ e) ∙ ap (λ f. Some (record {
            frame = f;
            bytes = unwrap_or (get new.frames f) [];
          })) (only (found (Some r) e))
          ∙ ap (λ o. Some (record { frame = (first + 4096 * i) / 4096; bytes = unwrap_or o [] })) bytes
        where
          only : Some r.frame ≡ Some ((first + 4096 * i) / 4096) → r.frame ≡ (first + 4096 * i) / 4096
          only q = cc

  pub next_gone : Goes old (without_page new (virtual_of (first + 4096 * i))) first (i + 1)
  next_gone = at (get old.table (virtual_of (first + 4096 * i) / 4096)) refl
    where
      at : (o : Option Reach) → get old.table (virtual_of (first + 4096 * i) / 4096) ≡ o →
          Goes old (without_page new (virtual_of (first + 4096 * i))) first (i + 1)
      at None e = none (found None e)
        where
          none : None ≡ Some ((first + 4096 * i) / 4096) →
              Goes old (without_page new (virtual_of (first + 4096 * i))) first (i + 1)
          none q = absurd (cc)
      at (Some r) e =
          let is = only (found (Some r) e) in
          let p = page in
          subst (λ m. Goes old m first (i + 1))
          (sym (ap (λ o. memory.without_row new (virtual_of (first + 4096 * i) / 4096) o) (row ∙ e))) (record {
            rows = λ v. get_removed new.table (virtual_of (first + 4096 * i) / 4096) v
                ∙ ap (cond (nat_eq v (virtual_of (first + 4096 * i) / 4096)) None) (goes.rows v)
                ∙ extend (virtual_of first) i (virtual_of (first + 4096 * i) / 4096) v None (λ w. None)
                (get old.table v) p refl;
            frames = λ f. get_removed new.frames r.frame f
                ∙ ap (cond (nat_eq f r.frame) None) (goes.frames f)
                ∙ extend first i r.frame f None (λ w. None) (get old.frames f)
                (ap (λ g. 4096 * g) is ∙ frame) refl;
          })
        where
          only : Some r.frame ≡ Some ((first + 4096 * i) / 4096) → r.frame ≡ (first + 4096 * i) / 4096
          only q = cc

-- the bytes of what is left
pub left_bytes : (old new : FrameMemory) (first n a : ℕ) → first % 4096 ≡ 0 → Goes old new first n →
    wire new a ≡ cond (in_run first n a) 0 (wire old a)
left_bytes old new first n a whole goes =
    ap (λ o. byte_in o (a % 4096)) (goes.frames (a / 4096)) ∙ at (is_frame first n (a / 4096))
    ∙ ap (λ b. cond b 0 (wire old a)) (in_run_page first n a (λ h. whole))
  where
    at : (b : Bool) → byte_in (cond b None (get old.frames (a / 4096))) (a % 4096) ≡ cond b 0 (wire old a)
    at true = refl
    at false = refl

-- each page where memories lie still has its own frame
pub left_placed : (old new : FrameMemory) (first n : ℕ) → first % 4096 ≡ 0 → Goes old new first n →
    AreAtTheirFrames old → AreAtTheirFrames new
left_placed old new first n whole goes placed v r e high = at (is_page first n v) refl
  where
    at : (b : Bool) → is_page first n v ≡ b → IsAtItsFrame new v r
    at true h = none (sym (goes.rows v ∙ ap (λ b. cond b None (get old.table v)) h) ∙ e)
      where
        none : None ≡ Some r → IsAtItsFrame new v r
        none q = absurd (cc)
    at false h =
        let is = placed v r (sym (goes.rows v ∙ ap (λ b. cond b None (get old.table v)) h) ∙ e) high in
        let own : v ≡ pages_end / 4096 + r.frame = is.own in
        record {
          own = own;
          there = ap is_some (goes.frames r.frame
              ∙ ap (λ b. cond b None (get old.frames r.frame)) (out own (is_frame first n r.frame) refl)) ∙ is.there;
        }
      where
        out : v ≡ pages_end / 4096 + r.frame → (b : Bool) → is_frame first n r.frame ≡ b → b ≡ false
        out own true q =
            let lo = in_run_lo first n (4096 * r.frame) q in
            let hi = in_run_hi first n (4096 * r.frame) q in
            absurd (false≢true (sym h ∙ in_run_is (virtual_of first) n (4096 * v) (omega arith) (omega arith)))
        out own false q = refl

-- the addresses of pages that are taken
pub taken_addresses : (m : FrameMemory) (n first : ℕ) → first % 4096 ≡ 0 →
    page_addresses (memory_pages_of m (frames_from n first)) ≡ frames_from n first
taken_addresses m zero first whole = refl
taken_addresses m (suc n) first whole =
    let here : 4096 * (first / 4096) ≡ first = omega arith in
    ap (λ a. a ∷ page_addresses (memory_pages_of m (frames_from n (first + 4096)))) here
    ∙ ap (λ xs. first ∷ xs) (taken_addresses m n (first + 4096) (omega arith))

-- one more page is taken
pub taken_more : (m : FrameMemory) (i first : ℕ) (old : List FrameBytes) →
    (old ++ memory_pages_of m (frames_from i first)) ++ page_of m (first + 4096 * i) ∷ []
    ≡ old ++ memory_pages_of m (frames_from (i + 1) first)
taken_more m i first old =
    append_assoc old (memory_pages_of m (frames_from i first)) (page_of m (first + 4096 * i) ∷ [])
    ∙ ap (λ xs. old ++ xs) (sym (ap (map (page_of m)) (frames_more i first)
    ∙ map_push (page_of m) (frames_from i first) (first + 4096 * i)))

-- how many frames there are
pub length-frames : (n first : ℕ) → length (frames_from n first) ≡ n
length-frames zero first = refl
length-frames (suc n) first = ap suc (length-frames n (first + 4096))

pub length-taken : (m : FrameMemory) (n first : ℕ) (old : List FrameBytes) →
    length (old ++ memory_pages_of m (frames_from n first)) ≡ length old + n
length-taken m n first old =
    length-append old (memory_pages_of m (frames_from n first))
    ∙ ap (λ k. length old + k) (length-map (frames_from n first) (page_of m) ∙ length-frames n first)

-- the addresses of pages, in two parts
pub addresses_taken : (m : FrameMemory) (n first : ℕ) (old : List FrameBytes) → first % 4096 ≡ 0 →
    page_addresses (old ++ memory_pages_of m (frames_from n first)) ≡ page_addresses old ++ frames_from n first
addresses_taken m n first [] whole = taken_addresses m n first whole
addresses_taken m n first (p ∷ old) whole = ap (λ xs. page_address p ∷ xs) (addresses_taken m n first old whole)
