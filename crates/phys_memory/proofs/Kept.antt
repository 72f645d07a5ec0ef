-- The invariant of every memory, kept through its changes.
use Rattle.std.proofs.Common.{◌≡◌, ℕ, ◌/◌, ◌^◌, ◌<◌, ◌≤◌, Bool, true, false, cond, List, [], length, refl, ap, sym}
use Rattle.std.proofs.Common.{◌∙◌, subst, inl, inr, ◌≢◌}
use Rattle.std.specs.Prelude.{Option, Some, None, is_some, nat_eq, IfSome}
use Rattle.std.specs.Option.{option_map}
use Rattle.std.specs.Ordering.{nat_cmp}
use Rattle.std.specs.Map.{lookup}
use Rattle.std.specs.FinMap.{get, insert, remove, empty, get-empty, from_entries}
use Rattle.std.proofs.lemmas.Map.Made.{lookup-map_values}
use Rattle.std.proofs.lemmas.Bool.{eq-eqb, ne_eqb}
use Rattle.busdma_machine.specs.Machine.Page.{FrameBytes}
use Rattle.phys_memory.specs.declared.reach.Reach.{Reach}
use Rattle.phys_memory.specs.Memory.{FrameMemory, IsMemory, IsReachOf}
use Rattle.phys_memory.specs.Memory.{memory_has_frame, memory_has_page, with_page, without_row}
use Rattle.phys_memory.specs.Kept.{contents, memory_of, AtTheirFrames}
use Rattle.phys_memory.proofs.Tables.{get_made, get_removed, got_inserted, got_removed, is_some-inserted}
use Rattle.phys_memory.proofs.Tables.{made_inserted, made_removed, made_same}

-- ---- what the maps have

-- the bytes of the page that a look-up finds
pub lookup-contents : (pages : List (ℕ × FrameBytes)) (q : ℕ) →
    lookup (nat_eq q) (contents pages) ≡ option_map (λ p. p.bytes) (lookup (nat_eq q) pages)
lookup-contents pages q = lookup-map_values (λ (p : FrameBytes). p.bytes) (nat_eq q) pages

-- the bytes that the memory has of a frame
pub get-frames : (pages : List (ℕ × FrameBytes)) (q : ℕ) →
    get (from_entries {R = nat_cmp} (contents pages)) q ≡ option_map (λ p. p.bytes) (lookup (nat_eq q) pages)
get-frames pages q = get_made (contents pages) q ∙ lookup-contents pages q

is_some-mapped : {A B : Type 0} (f : A → B) (o : Option A) → is_some (option_map f o) ≡ is_some o
is_some-mapped f None = refl
is_some-mapped f (Some x) = refl

-- a memory has a frame exactly if its pages do
pub has_frame-kept : (rows : List (ℕ × Reach)) (pages : List (ℕ × FrameBytes)) (q : ℕ) →
    memory_has_frame (memory_of rows pages) q ≡ is_some (lookup (nat_eq q) pages)
has_frame-kept rows pages q =
    ap is_some (get-frames pages q) ∙ is_some-mapped (λ (p : FrameBytes). p.bytes) (lookup (nat_eq q) pages)

pub has_page-kept : (rows : List (ℕ × Reach)) (pages : List (ℕ × FrameBytes)) (va : ℕ) →
    memory_has_page (memory_of rows pages) va ≡ is_some (lookup (nat_eq (va / 4096)) rows)
has_page-kept rows pages va = ap is_some (get_made rows (va / 4096))

mapped_cond : {A B : Type 0} (f : A → B) (b : Bool) (o p : Option A) →
    option_map f (cond b o p) ≡ cond b (option_map f o) (option_map f p)
mapped_cond f true o p = refl
mapped_cond f false o p = refl

-- the contents of pages after a page was put at a number
pub contents_inserted : (es fs : List (ℕ × FrameBytes)) (k : ℕ) (page : FrameBytes) →
    ((q : ℕ) → lookup (nat_eq q) fs ≡ cond (nat_eq k q) (Some page) (lookup (nat_eq q) es)) →
    from_entries {R = nat_cmp} (contents fs) ≡ insert (from_entries (contents es)) k page.bytes
contents_inserted es fs k page h =
    made_inserted (contents es) (contents fs) k page.bytes (λ q.
    lookup-contents fs q ∙ ap (option_map (λ (p : FrameBytes). p.bytes)) (h q)
    ∙ mapped_cond (λ (p : FrameBytes). p.bytes) (nat_eq k q) (Some page) (lookup (nat_eq q) es)
    ∙ ap (cond (nat_eq k q) (Some page.bytes)) (sym (lookup-contents es q)))

pub contents_removed : (es fs : List (ℕ × FrameBytes)) (k : ℕ) →
    ((q : ℕ) → lookup (nat_eq q) fs ≡ cond (nat_eq k q) None (lookup (nat_eq q) es)) →
    from_entries {R = nat_cmp} (contents fs) ≡ remove (from_entries (contents es)) k
contents_removed es fs k h =
    made_removed (contents es) (contents fs) k (λ q.
    lookup-contents fs q ∙ ap (option_map (λ (p : FrameBytes). p.bytes)) (h q)
    ∙ mapped_cond (λ (p : FrameBytes). p.bytes) (nat_eq k q) None (lookup (nat_eq q) es)
    ∙ ap (cond (nat_eq k q) None) (sym (lookup-contents es q)))

pub contents_same : (es fs : List (ℕ × FrameBytes)) → ((q : ℕ) → lookup (nat_eq q) fs ≡ lookup (nat_eq q) es) →
    from_entries {R = nat_cmp} (contents fs) ≡ from_entries (contents es)
contents_same es fs h = made_same (contents es) (contents fs) (λ q. lookup-contents fs q
    ∙ ap (option_map (λ (p : FrameBytes). p.bytes)) (h q) ∙ sym (lookup-contents es q))

-- ---- what a memory keeps

pub empty_memory : (m : FrameMemory) → m.table ≡ empty → m.frames ≡ empty → IsMemory m
empty_memory m t f =
    let row : (v : ℕ) → get m.table v ≡ None = λ v. ap (λ x. get x v) t ∙ get-empty nat_cmp v in
    let frame : (v : ℕ) → get m.frames v ≡ None = λ v. ap (λ x. get x v) f ∙ get-empty nat_cmp v in
    record {
      reached = λ v r h. absurd (cc (row v));
      there = λ v r h. absurd (cc (row v));
      apart = λ v w r s h i e. absurd (cc (row v));
      numbered = λ q bytes h. absurd (cc (frame q));
      whole = λ q bytes h. absurd (cc (frame q));
    }

pub no_pages : (pages : List (ℕ × FrameBytes)) → pages ≡ [] → AtTheirFrames pages
no_pages pages e f page h = none (sym (ap (lookup (nat_eq f)) e) ∙ h)
  where
    none : ◌≡◌ {A = Option FrameBytes} None (Some page) → page.frame ≡ f
    none h = absurd (cc)

clash : (b : Bool) → b ≡ true → b ≡ false → ⊥
clash b t f = absurd (cc)

pub memory_with_page : (m : FrameMemory) (va : ℕ) (page : FrameBytes) (reach : ℕ) → IsMemory m → memory_has_page m va
    ≡ false →
    memory_has_frame m page.frame ≡ false → page.frame < 2 ^ 30 → length page.bytes ≡ 4096 →
    reach ≤ 4096 → IsMemory (with_page m va page reach)
memory_with_page m va page reach is free fresh below whole short =
    let row : Reach = record { frame = page.frame; reach = reach } in
    let k = va / 4096 in
    let old_frame : (v : ℕ) (r : Reach) → get m.table v ≡ Some r → page.frame ≡ r.frame → ⊥ =
    λ v r h e. clash (memory_has_frame m r.frame) (is.there v r h) (ap (memory_has_frame m) (sym e) ∙ fresh) in
    record {
      reached =
          λ v r h. elim (got_inserted m.table k row v r h)
          [ inl t ↦ subst (λ (x : Reach). x.reach ≤ 4096) t.1 short | inr t ↦ is.reached v r t ];
      there =
          λ v r h. is_some-inserted m.frames page.frame page.bytes r.frame ∙ elim (got_inserted m.table k row v r h) [
            | inl t ↦ ap (λ b. cond b true (memory_has_frame m r.frame))
                (eq-eqb r.frame page.frame (sym (ap (λ (x : Reach). x.frame) t.1)))
            | inr t ↦ elim (nat_eq r.frame page.frame) as (λ b. cond b true (memory_has_frame m r.frame) ≡ true)
                [ true ↦ refl | false ↦ is.there v r t ]
          ];
      apart = λ v w r s h i e. elim (got_inserted m.table k row v r h) [
        | inl t ↦ elim (got_inserted m.table k row w s i) [
          | inl u ↦ t.0 ∙ sym u.0
          | inr u ↦ absurd (old_frame w s u (ap (λ (x : Reach). x.frame) t.1 ∙ e))
        ]
        | inr t ↦ elim (got_inserted m.table k row w s i) [
          | inl u ↦ absurd (old_frame v r t (ap (λ (x : Reach). x.frame) u.1 ∙ sym e))
          | inr u ↦ is.apart v w r s t u e
        ]
      ];
      numbered =
          λ f bytes h. elim (got_inserted m.frames page.frame page.bytes f bytes h)
          [ inl t ↦ subst (λ n. n < 2 ^ 30) (sym t.0) below | inr t ↦ is.numbered f bytes t ];
      whole = λ f bytes h. elim (got_inserted m.frames page.frame page.bytes f bytes h) [
        | inl t ↦ sym (ap length t.1)
            ∙ whole
        | inr t ↦ is.whole f bytes t
      ];
    }

pub memory_without_row : (m : FrameMemory) (v : ℕ) (r : Reach) → IsMemory m →
    get m.table v ≡ Some r → IsMemory (without_row m v (Some r))
memory_without_row m v r is here = record {
  reached = λ w s h. is.reached w s (got_removed m.table v w s h).1;
  there = λ w s h.
      let old = got_removed m.table v w s h in
      let apart : s.frame ≢ r.frame = λ e. old.0 (is.apart w v s r old.1 here e) in
      ap is_some (get_removed m.frames r.frame s.frame
      ∙ ap (λ b. cond b None (get m.frames s.frame)) (ne_eqb s.frame r.frame apart)) ∙ is.there w s old.1;
  apart = λ w x s t h i e. is.apart w x s t (got_removed m.table v w s h).1 (got_removed m.table v x t i).1 e;
  numbered = λ f bytes h. is.numbered f bytes (got_removed m.frames r.frame f bytes h).1;
  whole = λ f bytes h. is.whole f bytes (got_removed m.frames r.frame f bytes h).1;
}

-- a memory is still a memory after a frame gets other bytes
pub memory_with_bytes : (m : FrameMemory) (f : ℕ) (bytes : List ℕ) → IsMemory m → memory_has_frame m f ≡ true →
    length bytes ≡ 4096 → IsMemory (record m { frames = insert m.frames f bytes })
memory_with_bytes m f bytes is has whole = record {
  reached = is.reached;
  there = λ v r h. is_some-inserted m.frames f bytes r.frame
      ∙ elim (nat_eq r.frame f) as (λ b. cond b true (memory_has_frame m r.frame) ≡ true)
      [ true ↦ refl | false ↦ is.there v r h ];
  apart = is.apart;
  numbered =
      λ g new h. elim (got_inserted m.frames f bytes g new h)
      [ inl t ↦ subst (λ n. n < 2 ^ 30) (sym t.0) (number (get m.frames f) refl has) | inr t ↦ is.numbered g new t ];
  whole =
      λ g new h. elim (got_inserted m.frames f bytes g new h)
      [ inl t ↦ sym (ap length t.1) ∙ whole | inr t ↦ is.whole g new t ];
}
  where
    number : (o : Option (List ℕ)) → get m.frames f ≡ o → is_some o ≡ true → f < 2 ^ 30
    number None e s = absurd (cc)
    number (Some old) e s = is.numbered f old e

-- what the invariant says of a row that was found
pub row_is : (m : FrameMemory) (v : ℕ) (o : Option Reach) → IsMemory m → get m.table v ≡ o → IfSome o (IsReachOf m)
row_is m v None is here = tt
row_is m v (Some r) is here = record {
  reached = is.reached v r here;
  there = is.there v r here;
  numbered = number (get m.frames r.frame) refl (is.there v r here);
}
  where
    number : (o : Option (List ℕ)) → get m.frames r.frame ≡ o → is_some o ≡ true → r.frame < 2 ^ 30
    number None e s = absurd (cc)
    number (Some old) e s = is.numbered r.frame old e
