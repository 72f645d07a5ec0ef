-- A memory after a change of its two maps.
use Rattle.std.proofs.Common.{◌≡◌, ℕ, ◌+◌, ◌/◌, ◌%◌, ◌≤◌, true, false, cond, List, length, refl, ap, sym, ◌∙◌, subst}
use Rattle.std.proofs.Common.{inl, inr, arith, Bor, MutBor}
use Rattle.std.specs.Prelude.{Option, Some, None, is_some, nat_eq}
use Rattle.std.specs.Option.{option_map, option_copied, option_copied_mut}
use Rattle.std.specs.Ordering.{nat_cmp}
use Rattle.std.specs.Map.{lookup}
use Rattle.std.specs.FinMap.{FinMap, get, insert, from_entries}
use Rattle.std.proofs.lemmas.Bool.Decides.{eqb_tells}
use Rattle.busdma_machine.specs.Machine.Page.{FrameBytes, overwritten}
use Rattle.phys_memory.specs.declared.reach.Reach.{Reach}
use Rattle.phys_memory.specs.Memory.{FrameMemory, IsMemory, memory_has_frame, page_of}
use Rattle.phys_memory.specs.Memory.{wire, with_page, without_row, rewritten}
use Rattle.phys_memory.specs.Memory.{memory_written}
use Rattle.phys_memory.specs.Kept.{contents, memory_of, AtTheirFrames}
use Rattle.phys_memory.proofs.Tables.{get_made, made_inserted, made_removed, made_same}
use Rattle.phys_memory.proofs.Kept.{get-frames, has_frame-kept, contents_inserted, contents_removed, contents_same}
use Rattle.phys_memory.proofs.Kept.{memory_with_bytes}
use Rattle.phys_memory.proofs.FrameBytes.{length-overwritten, rewritten_is, wire-rewritten}

-- the entries after a value was put at key k, or removed there if it is `None`
abbrev pub Puts : {X : Type 0} → List (ℕ × X) → List (ℕ × X) → ℕ → Option X → Type 0
Puts es fs k o = (q : ℕ) → lookup (nat_eq q) fs ≡ cond (nat_eq k q) o (lookup (nat_eq q) es)

two : {t u : FinMap nat_cmp Reach} {f g : FinMap nat_cmp (List ℕ)} → t ≡ u → f ≡ g →
    ◌≡◌ {A = FrameMemory} (record { table = t; frames = f }) (record { table = u; frames = g })
two e f = cc

pub same_memory : (rows new : List (ℕ × Reach)) (pages fresh : List (ℕ × FrameBytes)) →
    ((q : ℕ) → lookup (nat_eq q) new ≡ lookup (nat_eq q) rows) →
    ((q : ℕ) → lookup (nat_eq q) fresh ≡ lookup (nat_eq q) pages) → memory_of new fresh ≡ memory_of rows pages
same_memory rows new pages fresh h k = two (made_same rows new h) (contents_same pages fresh k)

pub same_places : (pages new : List (ℕ × FrameBytes)) →
    ((q : ℕ) → lookup (nat_eq q) new ≡ lookup (nat_eq q) pages) → AtTheirFrames pages → AtTheirFrames new
same_places pages new h at f page e = at f page (sym (h f) ∙ e)

-- pages after one was put at the number of its frame
pub place_put : (es fs : List (ℕ × FrameBytes)) (page : FrameBytes) →
    Puts es fs page.frame (Some page) → AtTheirFrames es → AtTheirFrames fs
place_put es fs page h at f p e = elim (eqb_tells page.frame f) [
  | inl t ↦ same_page (sym (ap (λ b. cond b (Some page) (lookup (nat_eq f) es)) t.0) ∙ (sym (h f) ∙ e)) ∙ t.1
  | inr t ↦ at f p (sym (ap (λ b. cond b (Some page) (lookup (nat_eq f) es)) t.0) ∙ (sym (h f) ∙ e))
]
  where
    same_page : Some page ≡ Some p → p.frame ≡ page.frame
    same_page s = cc

pub place_removed : (es fs : List (ℕ × FrameBytes)) (k : ℕ) → Puts es fs k None → AtTheirFrames es → AtTheirFrames fs
place_removed es fs k h at f p e = elim (eqb_tells k f) [
  | inl t ↦ none (sym (ap (λ b. cond b None (lookup (nat_eq f) es)) t.0) ∙ (sym (h f) ∙ e))
  | inr t ↦ at f p (sym (ap (λ b. cond b None (lookup (nat_eq f) es)) t.0) ∙ (sym (h f) ∙ e))
]
  where
    none : ◌≡◌ {A = Option FrameBytes} None (Some p) → p.frame ≡ f
    none s = absurd (cc)

-- a page was put into both maps
pub memory_put : (rows new : List (ℕ × Reach)) (pages fresh : List (ℕ × FrameBytes)) (va f : ℕ) (page : FrameBytes)
    (reach : ℕ) → f ≡ page.frame → Puts rows new (va / 4096) (Some (record { frame = f; reach = reach })) →
    Puts pages fresh f (Some page) → memory_of new fresh ≡ with_page (memory_of rows pages) va page reach
memory_put rows new pages fresh va f page reach e h k =
    let row : ℕ → Reach = λ n. record { frame = n; reach = reach } in
    two (made_inserted rows new (va / 4096) (row f) h ∙ ap (λ n. insert (from_entries rows) (va / 4096) (row n)) e)
    (contents_inserted pages fresh f page k ∙ ap (λ n. insert (from_entries (contents pages)) n page.bytes) e)

-- a row and its page were taken from both maps
pub memory_taken : (rows new : List (ℕ × Reach)) (pages fresh : List (ℕ × FrameBytes)) (v : ℕ) (r : Reach) →
    Puts rows new v None → Puts pages fresh r.frame None →
    memory_of new fresh ≡ without_row (memory_of rows pages) v (Some r)
memory_taken rows new pages fresh v r h k = two (made_removed rows new v h) (contents_removed pages fresh r.frame k)

-- the row that a look-up finds
pub row_found : (rows : List (ℕ × Reach)) (pages : List (ℕ × FrameBytes)) (va : ℕ) (o : Option Reach) →
    lookup (nat_eq (va / 4096)) rows ≡ o → get (memory_of rows pages).table (va / 4096) ≡ o
row_found rows pages va o h = get_made rows (va / 4096) ∙ h

-- the page of a row is the one at the number of its frame
pub page_found : (rows : List (ℕ × Reach)) (pages : List (ℕ × FrameBytes)) (v : ℕ) (r : Reach) →
    IsMemory (memory_of rows pages) → AtTheirFrames pages → get (memory_of rows pages).table v ≡ Some r →
    page_of (memory_of rows pages) (Some r) ≡ lookup (nat_eq r.frame) pages
page_found rows pages v r is at here = found (lookup (nat_eq r.frame) pages) refl
  where
    found : (o : Option FrameBytes) → lookup (nat_eq r.frame) pages ≡ o → page_of (memory_of rows pages) (Some r) ≡ o
    found None e = absurd (gone (sym (is.there v r here) ∙ (has_frame-kept rows pages r.frame ∙ ap is_some e)))
      where
        gone : true ≡ false → ⊥
        gone e = cc
    found (Some p) e =
        same (at r.frame p e) (get-frames pages r.frame ∙ ap (option_map (λ (x : FrameBytes). x.bytes)) e)
      where
        same : p.frame ≡ r.frame → get (memory_of rows pages).frames r.frame ≡ Some p.bytes →
            page_of (memory_of rows pages) (Some r) ≡ Some p
        same n b = rw b (ap (λ k. Some (record { frame = k; bytes = p.bytes })) (sym n))

-- the frame of a memory, given its page that a look-up finds
pub frame_found : (rows : List (ℕ × Reach)) (pages : List (ℕ × FrameBytes)) (f : ℕ) (page : FrameBytes) →
    lookup (nat_eq f) pages ≡ Some page → get (memory_of rows pages).frames f ≡ Some page.bytes
frame_found rows pages f page h = get-frames pages f ∙ ap (option_map (λ (x : FrameBytes). x.bytes)) h

-- a page of the memory after bytes were written into it
abbrev pub page_after : FrameBytes → ℕ → List ℕ → FrameBytes
page_after page at bytes = record page { bytes = overwritten page.bytes at bytes }

pub memory_rewritten : (rows : List (ℕ × Reach)) (pages fresh : List (ℕ × FrameBytes)) (pa : ℕ) (page : FrameBytes)
    (bytes : List ℕ) → lookup (nat_eq (pa / 4096)) pages ≡ Some page →
    Puts pages fresh (pa / 4096) (Some (page_after page (pa % 4096) bytes)) →
    memory_of rows fresh ≡ rewritten (memory_of rows pages) pa bytes
memory_rewritten rows pages fresh pa page bytes here h =
    two refl (contents_inserted pages fresh (pa / 4096) (page_after page (pa % 4096) bytes) h)
    ∙ sym (rewritten_is (memory_of rows pages) pa page.bytes bytes (frame_found rows pages (pa / 4096) page here))

-- the invariant after bytes were written into a page
pub kept_rewritten : (rows : List (ℕ × Reach)) (pages fresh : List (ℕ × FrameBytes)) (pa : ℕ) (page : FrameBytes)
    (bytes : List ℕ) → IsMemory (memory_of rows pages) → lookup (nat_eq (pa / 4096)) pages ≡ Some page →
    pa % 4096 + length bytes ≤ 4096 → Puts pages fresh (pa / 4096) (Some (page_after page (pa % 4096) bytes)) →
    IsMemory (memory_of rows fresh)
kept_rewritten rows pages fresh pa page bytes is here fits h =
    let m = memory_of rows pages in
    let found = frame_found rows pages (pa / 4096) page here in
    let whole : length page.bytes ≡ 4096 = is.whole (pa / 4096) page.bytes found in
    let new = overwritten page.bytes (pa % 4096) bytes in
    subst IsMemory (sym (memory_rewritten rows pages fresh pa page bytes here h
    ∙ rewritten_is m pa page.bytes bytes found))
    (memory_with_bytes m (pa / 4096) new is (ap is_some found)
    (length-overwritten page.bytes (pa % 4096) bytes (omega arith) ∙ whole))

pub places_rewritten : (pages fresh : List (ℕ × FrameBytes)) (pa : ℕ) (page : FrameBytes) (bytes : List ℕ) →
    AtTheirFrames pages → lookup (nat_eq (pa / 4096)) pages ≡ Some page →
    Puts pages fresh (pa / 4096) (Some (page_after page (pa % 4096) bytes)) → AtTheirFrames fresh
places_rewritten pages fresh pa page bytes at here h =
    place_put pages fresh (page_after page (pa % 4096) bytes)
    (subst (λ k. Puts pages fresh k (Some (page_after page (pa % 4096) bytes))) (sym (at (pa / 4096) page here)) h)
    at

-- the wire after a write
pub wire_after : (m : FrameMemory) (pa : ℕ) (bytes : List ℕ) → IsMemory m → memory_has_frame m (pa / 4096) ≡ true →
    pa % 4096 + length bytes ≤ 4096 → wire (rewritten m pa bytes) ≡ memory_written pa bytes (wire m)
wire_after m pa bytes is has fits = known (get m.frames (pa / 4096)) refl has
  where
    known : (o : Option (List ℕ)) → get m.frames (pa / 4096) ≡ o → is_some o ≡ true →
        wire (rewritten m pa bytes) ≡ memory_written pa bytes (wire m)
    known None e s = absurd (cc)
    known (Some old) e s = wire-rewritten m pa old bytes e (is.whole (pa / 4096) old e) fits

-- a reference that was found
pub IsSome-found : {A : Type 0} (r : Option (Bor A)) (o : Option A) →
    option_copied r ≡ o → is_some o ≡ true → is_some r ≡ true
IsSome-found None o h s = ap is_some h ∙ s
IsSome-found (Some x) o h s = refl

pub IsSome-found_mut : {A : Type 0} (r : Option (MutBor A)) (o : Option A) →
    option_copied_mut r ≡ o → is_some o ≡ true → is_some r ≡ true
IsSome-found_mut None o h s = ap is_some h ∙ s
IsSome-found_mut (Some x) o h s = refl
