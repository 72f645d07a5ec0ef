-- The byte at an address, seen with the pages of all maps and with the pages of one map only.
use Rattle.std.proofs.Common.{◌≡◌, ◌≢◌, ◌⊎◌, inl, inr, ℕ, ◌/◌, ◌==◌, cond, List, [], ◌∷◌, ◌++◌, Option}
use Rattle.std.proofs.Common.{Some, None, refl, sym, ap, ◌∙◌, subst}
use Rattle.std.specs.Prelude.{T}
use Rattle.std.specs.List.{flat_map}
use Rattle.std.specs.Ordering.{nat_cmp}
use Rattle.std.specs.FinMap.{FinMap, entries, entries_sorted, get-entries}
use Rattle.std.specs.FinMap.Entries.{find, is_sorted, below_all}
use Rattle.busdma_machine.specs.Machine.Page.{FrameBytes}
use Rattle.busdma_machine.specs.Machine.Wire.{Wire, page_byte, with_bytes_of}
use Rattle.phys_memory.proofs.PageBytes.{IsNone, no_page_at}
use Rattle.ideal_wire.proofs.Faithful.SyncedPositions.{decided}
use Rattle.lane_state.specs.declared.kept.KeptMap.{KeptMap}
use Rattle.lane_state.specs.Held.{devices_of}
use Rattle.lane_state.specs.Kept.{device_of}
use Rattle.lane_state.specs.Wire.{held_pages}
use Rattle.lane_state.proofs.Finding.{T_parts, none-below, find-first, find-later}

-- pages in two parts
both-parts : (ps qs : List FrameBytes) (w : Wire) (a : ℕ) →
    with_bytes_of (ps ++ qs) w a ≡ with_bytes_of ps (with_bytes_of qs w) a
both-parts [] qs w a = refl
both-parts (p ∷ ps) qs w a = ap (cond (a / 4096 == p.frame) (page_byte p a)) (both-parts ps qs w a)

-- the byte at an address is given by the pages and by the byte that is there without them
pub under-alike : (ps : List FrameBytes) (u w : Wire) (a : ℕ) → u a ≡ w a → with_bytes_of ps u a ≡ with_bytes_of ps w a
under-alike [] u w a h = h
under-alike (p ∷ ps) u w a h = ap (cond (a / 4096 == p.frame) (page_byte p a)) (under-alike ps u w a h)

-- the pages of the maps of these entries
abbrev pages_in : List (ℕ × KeptMap) → List FrameBytes
pages_in es = flat_map (λ e. (device_of (Some e.1)).pages) es

-- the pages of what is found at a place have none of the frame of an address
abbrev HasNone : Option KeptMap → ℕ → Type 0
HasNone o a = IsNone (device_of o).pages (a / 4096)

-- the byte that is there with the pages of what is found
abbrev seen_by : Option KeptMap → Wire → ℕ → ℕ
seen_by o w a = with_bytes_of (device_of o).pages w a

among : (es : List (ℕ × KeptMap)) (k : ℕ) (w : Wire) (a : ℕ) → T (is_sorted nat_cmp es) →
    ((n : ℕ) → n ≢ k → HasNone (find nat_cmp n es) a) →
    with_bytes_of (pages_in es) w a ≡ seen_by (find nat_cmp k es) w a
among [] k w a s h = refl
among (e ∷ es) k w a s h =
    let two = T_parts (below_all nat_cmp e.0 es) (is_sorted nat_cmp es) s in
    let gone : find nat_cmp e.0 es ≡ None = none-below e.0 es two.0 in
    let rest = among es k w a two.1 (λ n ne. later n ne gone (decided n e.0)) in
    both-parts (device_of (Some e.1)).pages (pages_in es) w a ∙ by gone rest (decided k e.0)
  where
    later : (n : ℕ) → n ≢ k → find nat_cmp e.0 es ≡ None → (n ≡ e.0) ⊎ (n ≢ e.0) → HasNone (find nat_cmp n es) a
    later n ne gone (inl t) =
        subst (λ o. HasNone o a) (sym (ap (λ q. find nat_cmp q es) t ∙ gone)) tt
    later n ne gone (inr t) = subst (λ o. HasNone o a) (find-later n e es t) (h n ne)

    by : find nat_cmp e.0 es ≡ None → with_bytes_of (pages_in es) w a ≡ seen_by (find nat_cmp k es) w a →
        (k ≡ e.0) ⊎ (k ≢ e.0) →
        with_bytes_of (device_of (Some e.1)).pages (with_bytes_of (pages_in es) w) a
        ≡ seen_by (find nat_cmp k (e ∷ es)) w a
    by gone rest (inl t) =
        let none : with_bytes_of (pages_in es) w a ≡ w a =
        rest ∙ ap (λ o. seen_by o w a) (ap (λ q. find nat_cmp q es) t ∙ gone) in
        under-alike (device_of (Some e.1)).pages (with_bytes_of (pages_in es) w) w a none
        ∙ sym (ap (λ o. seen_by o w a) (ap (λ q. find nat_cmp q (e ∷ es)) t ∙ find-first e es))
    by gone rest (inr t) =
        no_page_at (device_of (Some e.1)).pages (with_bytes_of (pages_in es) w) a
        (subst (λ o. HasNone o a) (find-first e es) (h e.0 (λ q. t (sym q))))
        ∙ rest ∙ sym (ap (λ o. seen_by o w a) (find-later k e es t))

module _ (maps : FinMap nat_cmp KeptMap) where
  -- no map but one has a page with the frame of an address
  abbrev pub IsMine : ℕ → ℕ → Type 0
  IsMine k a = (n : ℕ) → n ≢ k → IsNone (devices_of maps n).pages (a / 4096)

  -- the byte is then given by the pages of that map only
  pub view-alike : (k : ℕ) (w : Wire) (a : ℕ) → IsMine k a →
      with_bytes_of (held_pages maps) w a ≡ with_bytes_of (devices_of maps k).pages w a
  view-alike k w a h =
      among (entries maps) k w a (entries_sorted maps)
      (λ n ne. subst (λ o. HasNone o a) (get-entries maps n) (h n ne))
      ∙ sym (ap (λ o. seen_by o w a) (get-entries maps k))
