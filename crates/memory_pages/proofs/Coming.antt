-- Pages that come one after the other.
use Rattle.std.proofs.Common.{◌≡◌, ◌≢◌, ℕ, suc, ◌+◌, ◌-◌, ◌*◌, ◌/◌, ◌%◌, ◌^◌, ◌<◌, ◌≤◌, Bool, true, false, cond}
use Rattle.std.proofs.Common.{◌==◌, ◌||◌, List, [], ◌∷◌, length, get_or, min, refl, sym, ap, ◌∙◌, subst}
use Rattle.std.proofs.Common.{Option, Some, None, is_some, inl, inr, arith}
use Rattle.std.specs.Prelude.{nat_eq}
use Rattle.std.specs.FinMap.{get}
use Rattle.std.proofs.lemmas.Bool.{false≢true}
use Rattle.std.proofs.lemmas.Bool.Decides.{eqb_tells}
use Rattle.std.proofs.lemmas.List.{get_or-replicate}
use Rattle.busdma_machine.specs.Bounce.MemoryRuns.{in_run, frames_from}
use Rattle.busdma_machine.specs.Machine.Page.{FrameBytes}
use Rattle.busdma_machine.specs.Machine.PageList.{page_address, page_addresses}
use Rattle.busdma_machine.specs.Machine.VirtualPages.{pages_end}
use Rattle.busdma_machine.specs.Machine.Wire.{Wire, page_byte, with_bytes_of}
use Rattle.busdma_rules.specs.Memory.Memories.{virtual_of}
use Rattle.phys_memory.specs.declared.reach.Reach.{Reach}
use Rattle.phys_memory.specs.Memory.{FrameMemory, byte_in, memory_has_frame}
use Rattle.phys_memory.specs.Memory.{memory_has_page, wire, with_page}
use Rattle.phys_memory.proofs.PageBytes.{IsNone, first_page, no_page_at, other_pages}
use Rattle.phys_memory.proofs.Tables.{get_inserted, is_some-inserted}
use Rattle.memory_pages.specs.Bytes.{all_filled, filled}
use Rattle.memory_pages.specs.Placed.{AreAtTheirFrames, Comes, IsAtItsFrame, IsWithout, frame_of, is_frame, is_page}
use Rattle.memory_pages.specs.Placed.{row_of}
use Rattle.memory_pages.proofs.Runs.{extend, in_run_end, in_run_hi, in_run_is, in_run_lo, in_run_none, or_is}

pub filled_frame : (clear : Bool) (p : FrameBytes) → (filled clear p).frame ≡ p.frame
filled_frame true p = refl
filled_frame false p = refl

-- the virtual page of a frame
pub page_number : (f : ℕ) → virtual_of (4096 * f) / 4096 ≡ pages_end / 4096 + f
page_number f = omega arith

-- if a frame is not there, its page is not there
pub no_page : (m : FrameMemory) (f : ℕ) → AreAtTheirFrames m → memory_has_frame m f ≡ false →
    memory_has_page m (virtual_of (4096 * f)) ≡ false
no_page m f placed h = ap (λ v. is_some (get m.table v)) (page_number f)
    ∙ at (get m.table (pages_end / 4096 + f)) refl
  where
    at : (o : Option Reach) → get m.table (pages_end / 4096 + f) ≡ o → is_some o ≡ false
    at None e = refl
    at (Some r) e =
        let is = placed (pages_end / 4096 + f) r e (omega arith) in
        let own : pages_end / 4096 + f ≡ pages_end / 4096 + r.frame = is.own in
        let same : r.frame ≡ f = omega arith in
        absurd (false≢true (sym h ∙ ap (memory_has_frame m) (sym same) ∙ is.there))

-- what was put and what is left to put are all pages of a memory, and there is room for what is left
pub record IsPart (old new : FrameMemory) (first len : ℕ) (clear : Bool) (all rest : List FrameBytes)
    (remains spare : ℕ)
    : Type 0 where
  pub done : ℕ
  pub total : done + length rest ≡ length all
  pub row : page_addresses rest ≡ frames_from (length rest) (first + 4096 * done)
  pub left : remains ≡ len - 4096 * done
  pub whole : 0 < done → first % 4096 ≡ 0
  pub below : 0 < done → first + 4096 * done ≤ 2 ^ 42
  pub comes : Comes old new first done len
  pub bytes : (a : ℕ) → with_bytes_of (all_filled clear rest) (wire new) a
      ≡ with_bytes_of (all_filled clear all) (wire old) a
  pub room : length rest ≤ spare

-- nothing was put yet
pub none_put : (m : FrameMemory) (first len : ℕ) (clear : Bool) (all : List FrameBytes) (spare : ℕ) →
    page_addresses all ≡ frames_from (length all) first → length all ≤ spare →
    IsPart m m first len clear all all len spare
none_put m first len clear all spare row room = record {
  done = 0;
  total = omega arith;
  row = row ∙ ap (frames_from (length all)) (omega arith);
  left = omega arith;
  whole = λ h. absurd (omega arith);
  below = λ h. absurd (omega arith);
  comes = record {
    rows = λ v. sym (ap (λ b. cond b (Some (row_of first len v)) (get m.table v))
        (in_run_none (virtual_of first) (4096 * v)));
    frames = λ f. sym (ap (λ b. b || memory_has_frame m f) (in_run_none first (4096 * f)));
  };
  bytes = λ a. refl;
  room = room;
}

-- the pages after a frame do not have it
behind : (clear : Bool) (ps : List FrameBytes) (address f : ℕ) →
    page_addresses ps ≡ frames_from (length ps) address → 4096 * f < address → IsNone (all_filled clear ps) f
behind clear [] address f row lt = tt
behind clear (p ∷ ps) address f row lt =
    let here : page_address p ≡ address = ap (λ xs. get_or xs 0 0) row in
    let rest : page_addresses ps ≡ frames_from (length ps) (address + 4096) = tail row in (
      λ e. (let same : f ≡ p.frame = e ∙ filled_frame clear p in absurd (omega arith)),
      behind clear ps (address + 4096) f rest (omega arith),
    )
  where
    tail : page_addresses (p ∷ ps) ≡ frames_from (suc (length ps)) address →
        page_addresses ps ≡ frames_from (length ps) (address + 4096)
    tail e = cc

-- one more page
module _ (old new : FrameMemory) (first len : ℕ) (clear : Bool) (all : List FrameBytes) (p : FrameBytes)
    (ps : List FrameBytes) (left spare : ℕ) (part : IsPart old new first len clear all (p ∷ ps) left spare) where
  address : 4096 * p.frame ≡ first + 4096 * part.done
  address = ap (λ xs. get_or xs 0 0) part.row

  rest : page_addresses ps ≡ frames_from (length ps) (first + 4096 * part.done + 4096)
  rest = tail part.row
    where
      tail : page_addresses (p ∷ ps) ≡ frames_from (suc (length ps)) (first + 4096 * part.done) →
          page_addresses ps ≡ frames_from (length ps) (first + 4096 * part.done + 4096)
      tail e = cc

  -- the frame of the next page is not there
  pub next_fresh : IsWithout old first (length all) → memory_has_frame new p.frame ≡ false
  next_fresh without =
      let at = address in
      let total : part.done + suc (length ps) ≡ length all = part.total in
      let not_put : is_frame first part.done p.frame ≡ false =
      in_run_end first part.done (4096 * p.frame) (omega arith) in
      let own : is_frame first (length all) p.frame ≡ true =
      in_run_is first (length all) (4096 * p.frame) (omega arith) (omega arith) in
      part.comes.frames p.frame ∙ ap (λ b. b || memory_has_frame old p.frame) not_put ∙ without p.frame own

  wire_with : (a : ℕ) → wire (with_page new (virtual_of (4096 * p.frame)) (filled clear p) (min left 4096)) a
      ≡ cond (a / 4096 == (filled clear p).frame) (page_byte (filled clear p) a) (wire new a)
  wire_with a = ap (λ o. byte_in o (a % 4096)) (get_inserted new.frames (filled clear p).frame (filled clear p).bytes
      (a / 4096)) ∙ at (a / 4096 == (filled clear p).frame)
    where
      at : (b : Bool) → byte_in (cond b (Some (filled clear p).bytes) (get new.frames (a / 4096))) (a % 4096)
          ≡ cond b (page_byte (filled clear p) a) (wire new a)
      at true = refl
      at false = refl

  bytes_with : (a : ℕ) →
      with_bytes_of (all_filled clear ps)
      (wire (with_page new (virtual_of (4096 * p.frame)) (filled clear p) (min left 4096))) a
      ≡ with_bytes_of (all_filled clear (p ∷ ps)) (wire new) a
  bytes_with a = elim (eqb_tells (a / 4096) (filled clear p).frame) [
    | inl t ↦
        let frame : a / 4096 ≡ p.frame = t.1 ∙ filled_frame clear p in
        let at = address in
        no_page_at (all_filled clear ps) (wire more) a
        (behind clear ps (first + 4096 * part.done + 4096) (a / 4096) rest (omega arith))
        ∙ wire_with a ∙ ap (λ b. cond b (page_byte (filled clear p) a) (wire new a)) t.0
        ∙ sym (first_page (filled clear p) (all_filled clear ps) (wire new) a t.1)
    | inr t ↦
        alike (all_filled clear ps) (wire_with a ∙ ap (λ b. cond b (page_byte (filled clear p) a) (wire new a)) t.0)
        ∙ sym (other_pages (filled clear p) (all_filled clear ps) (wire new) a t.1)
  ]
    where
      more : FrameMemory
      more = with_page new (virtual_of (4096 * p.frame)) (filled clear p) (min left 4096)

      alike : (qs : List FrameBytes) → wire more a ≡ wire new a →
          with_bytes_of qs (wire more) a ≡ with_bytes_of qs (wire new) a
      alike [] h = h
      alike (q ∷ qs) h = ap (cond (a / 4096 == q.frame) (page_byte q a)) (alike qs h)

  pub next_put : p.frame < 2 ^ 30 → (more : ℕ) → spare ≤ more + 1 →
      IsPart old (with_page new (virtual_of (4096 * p.frame)) (filled clear p) (min left 4096)) first len clear all ps
      (left - min left 4096) more
  next_put numbered more room =
      let at = address in
      let k = virtual_of (4096 * p.frame) / 4096 in
      let row : Reach = record { frame = (filled clear p).frame; reach = min left 4096 } in
      let is_left : left ≡ len - 4096 * part.done = part.left in
      let number : k ≡ pages_end / 4096 + p.frame = page_number p.frame in
      let place : 4096 * k ≡ virtual_of first + 4096 * part.done = omega arith in
      let frame : (filled clear p).frame ≡ frame_of k = filled_frame clear p ∙ (omega arith) in
      let reach : min left 4096 ≡ min 4096 (len - (4096 * k - virtual_of first)) = omega arith in
      record {
        done = part.done + 1;
        total = let t : part.done + suc (length ps) ≡ length all = part.total in omega arith;
        row = rest ∙ ap (frames_from (length ps)) (omega arith);
        left = omega arith;
        whole = λ h. omega arith;
        below = λ h. omega arith;
        comes = record {
          rows = λ v. get_inserted new.table k row v ∙ ap (cond (nat_eq v k) (Some row)) (part.comes.rows v)
              ∙ extend (virtual_of first) part.done k v (Some row) (λ w. Some (row_of first len w))
              (get old.table v) place
              (both frame reach);
          frames = λ f. is_some-inserted new.frames (filled clear p).frame (filled clear p).bytes f
              ∙ ap (cond (nat_eq f (filled clear p).frame) true) (part.comes.frames f
              ∙ or_is (is_frame first part.done f) (memory_has_frame old f))
              ∙ extend first part.done (filled clear p).frame f true (λ w. true) (memory_has_frame old f)
              (ap (λ g. 4096 * g) (filled_frame clear p) ∙ at) refl
              ∙ sym (or_is (is_frame first (part.done + 1) f) (memory_has_frame old f));
        };
        bytes = λ a. bytes_with a ∙ part.bytes a;
        room = let r : suc (length ps) ≤ spare = part.room in omega arith;
      }
    where
      both : {f g a b : ℕ} → f ≡ g → a ≡ b →
          ◌≡◌ {A = Option Reach} (Some (record { frame = f; reach = a })) (Some (record { frame = g; reach = b }))
      both e h = cc

-- each page where memories lie still has its own frame
pub still_placed : (old new : FrameMemory) (first n len : ℕ) → (0 < n → first % 4096 ≡ 0) → Comes old new first n len →
    AreAtTheirFrames old → AreAtTheirFrames new
still_placed old new first n len whole comes placed v r e high = at (is_page first n v) refl
  where
    at : (b : Bool) → is_page first n v ≡ b → IsAtItsFrame new v r
    at true h =
        let lo = in_run_lo (virtual_of first) n (4096 * v) h in
        let hi = in_run_hi (virtual_of first) n (4096 * v) h in
        let is : Some (row_of first len v) ≡ Some r =
        sym (ap (λ b. cond b (Some (row_of first len v)) (get old.table v)) h) ∙ sym (comes.rows v) ∙ e in
        let frame : frame_of v ≡ r.frame = named is in
        let own : v ≡ pages_end / 4096 + r.frame = omega arith in
        record {
          own = own;
          there = comes.frames r.frame ∙ ap (λ b. b || memory_has_frame old r.frame)
              (in_run_is first n (4096 * r.frame) (omega arith) (omega arith));
        }
      where
        named : Some (row_of first len v) ≡ Some r → frame_of v ≡ r.frame
        named is = ap (λ (x : Reach). x.frame) (only is)
          where
            only : {x y : Reach} → Some x ≡ Some y → x ≡ y
            only q = cc
    at false h =
        let is = placed v r (sym (ap (λ b. cond b (Some (row_of first len v)) (get old.table v)) h)
        ∙ sym (comes.rows v) ∙ e) high in
        record {
          own = is.own;
          there = comes.frames r.frame ∙ ap (λ b. is_frame first n r.frame || b) is.there
              ∙ any_true (is_frame first n r.frame);
        }
      where
        any_true : (b : Bool) → (b || true) ≡ true
        any_true true = refl
        any_true false = refl

-- no virtual page has a row at which new frames come
pub no_row : (m : FrameMemory) (first n v : ℕ) → (0 < n → first % 4096 ≡ 0) → AreAtTheirFrames m → IsWithout m first n →
    is_page first n v ≡ true → get m.table v ≡ None
no_row m first n v whole placed without h = at (get m.table v) refl
  where
    at : (o : Option Reach) → get m.table v ≡ o → o ≡ None
    at None e = refl
    at (Some r) e =
        let lo = in_run_lo (virtual_of first) n (4096 * v) h in
        let hi = in_run_hi (virtual_of first) n (4096 * v) h in
        let is = placed v r e (omega arith) in
        let own : v ≡ pages_end / 4096 + r.frame = is.own in
        let inside : is_frame first n r.frame ≡ true =
        in_run_is first n (4096 * r.frame) (omega arith) (omega arith) in
        absurd (false≢true (sym (without r.frame inside) ∙ is.there))

-- the bytes of other frames stay
pub others_stay : (clear : Bool) (ps : List FrameBytes) (first : ℕ) (w : Wire) (a : ℕ) →
    page_addresses ps ≡ frames_from (length ps) first → in_run first (length ps) a ≡ false →
    with_bytes_of (all_filled clear ps) w a ≡ w a
others_stay clear [] first w a row h = refl
others_stay clear (p ∷ ps) first w a row h = elim (eqb_tells (a / 4096) (filled clear p).frame) [
  | inl t ↦
      let frame : a / 4096 ≡ p.frame = t.1 ∙ filled_frame clear p in
      let at : 4096 * p.frame ≡ first = here in
      absurd (false≢true (sym h ∙ in_run_is first (suc (length ps)) a (omega arith) (omega arith)))
  | inr t ↦
      other_pages (filled clear p) (all_filled clear ps) w a t.1
      ∙ others_stay clear ps (first + 4096) w a (tail row) (out (in_run (first + 4096) (length ps) a) refl)
]
  where
    here : page_address p ≡ first
    here = ap (λ xs. get_or xs 0 0) row

    tail : page_addresses (p ∷ ps) ≡ frames_from (suc (length ps)) first →
        page_addresses ps ≡ frames_from (length ps) (first + 4096)
    tail e = cc

    out : (b : Bool) → in_run (first + 4096) (length ps) a ≡ b → b ≡ false
    out true e =
        let lo = in_run_lo (first + 4096) (length ps) a e in
        let hi = in_run_hi (first + 4096) (length ps) a e in
        absurd (false≢true (sym h ∙ in_run_is first (suc (length ps)) a (omega arith) (omega arith)))
    out false e = refl

-- the bytes of pages that are filled with 0 are 0
pub zeros_come : (ps : List FrameBytes) (first : ℕ) (w : Wire) (a : ℕ) →
    page_addresses ps ≡ frames_from (length ps) first → in_run first (length ps) a ≡ true →
    with_bytes_of (all_filled true ps) w a ≡ 0
zeros_come [] first w a row h = absurd (false≢true (sym (in_run_none first a) ∙ h))
zeros_come (p ∷ ps) first w a row h = elim (eqb_tells (a / 4096) p.frame) [
  | inl t ↦ first_page (filled true p) (all_filled true ps) w a t.1 ∙ get_or-replicate 4096 (a % 4096) 0 0 (omega arith)
  | inr t ↦
      other_pages (filled true p) (all_filled true ps) w a t.1
      ∙ zeros_come ps (first + 4096) w a (tail row) (rest t.1)
]
  where
    here : page_address p ≡ first
    here = ap (λ xs. get_or xs 0 0) row

    tail : page_addresses (p ∷ ps) ≡ frames_from (suc (length ps)) first →
        page_addresses ps ≡ frames_from (length ps) (first + 4096)
    tail e = cc

    rest : a / 4096 ≢ p.frame → in_run (first + 4096) (length ps) a ≡ true
    rest ne =
        let lo = in_run_lo first (suc (length ps)) a h in
        let hi = in_run_hi first (suc (length ps)) a h in
        let at : 4096 * p.frame ≡ first = here in
        let past : first + 4096 ≤ a = omega (arith, ne) in
        in_run_is (first + 4096) (length ps) a past (omega arith)

-- all pages were put
pub record IsWhole (old new : FrameMemory) (first len : ℕ) (clear : Bool) (all : List FrameBytes) : Type 0 where
  pub whole : 0 < length all → first % 4096 ≡ 0
  pub below : 0 < length all → first + 4096 * length all ≤ 2 ^ 42
  pub comes : Comes old new first (length all) len
  pub bytes : (a : ℕ) → wire new a ≡ with_bytes_of (all_filled clear all) (wire old) a

pub all_put : (old new : FrameMemory) (first len : ℕ) (clear : Bool) (all rest : List FrameBytes) (left spare : ℕ) →
    IsPart old new first len clear all rest left spare → length rest ≡ 0 → IsWhole old new first len clear all
all_put old new first len clear all [] left spare part e =
    let done : part.done ≡ length all = let t : part.done + 0 ≡ length all = part.total in omega arith in
    record {
      whole = λ h. part.whole (omega arith);
      below = λ h. omega (arith, part.below (omega arith));
      comes = subst (λ n. Comes old new first n len) done part.comes;
      bytes = part.bytes;
    }
all_put old new first len clear all (p ∷ ps) left spare part e = absurd (omega arith)
