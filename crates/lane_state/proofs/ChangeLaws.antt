-- What is held after a change of bytes that are the driver's own or in the pages of one map.
use Rattle.std.proofs.Common.{◌≡◌, ◌≢◌, ◌⊎◌, inl, inr, ℕ, zero, suc, ◌/◌, ◌==◌, ◌&&◌, ◌||◌, not, Bool, true, false}
use Rattle.std.proofs.Common.{cond, List, [], ◌∷◌, Option, Some, None, slice_get, refl, sym, ap, ◌∙◌, subst, arith}
use Rattle.std.proofs.lemmas.Bool.{eq-eqb, ne_eqb, false≢true}
use Rattle.std.proofs.lemmas.Map.Views.{exact_unsigned_eq}
use Rattle.std.specs.List.{list_any}
use Rattle.std.specs.Ordering.{nat_cmp}
use Rattle.std.specs.FinMap.{FinMap, get, entries, entries_sorted, get-entries}
use Rattle.std.specs.FinMap.Entries.{find}
use Rattle.busdma_machine.specs.Machine.Page.{FrameBytes}
use Rattle.busdma_machine.specs.Machine.PageList.{page_address}
use Rattle.busdma_machine.specs.Machine.Wire.{Wire, page_byte, put, with_bytes_of}
use Rattle.phys_memory.specs.Memory.{FrameMemory, wire}
use Rattle.phys_memory.proofs.PageBytes.{IsNone}
use Rattle.ideal_lane.specs.State.{LaneState}
use Rattle.ideal_wire.specs.Apart.{IsApart}
use Rattle.ideal_wire.specs.Laid.{AreLaid}
use Rattle.ideal_wire.proofs.Faithful.Lent.{Passing, any_entry, any_found}
use Rattle.ideal_wire.proofs.Laid.Positions.{found_one}
use Rattle.ideal_wire.proofs.Faithful.SyncedPositions.{decided}
use Rattle.lane_state.specs.declared.kept.KeptMap.{KeptMap}
use Rattle.lane_state.specs.Covered.{lends_pages}
use Rattle.lane_state.specs.Held.{devices_of}
use Rattle.lane_state.specs.Kept.{Device, device_of, map_of}
use Rattle.lane_state.specs.MapValues.{map_values}
use Rattle.lane_state.specs.Wire.{held_pages}
use Rattle.lane_state.proofs.Finding.{find-first, find-later}
use Rattle.lane_state.proofs.Lying.{holds, page-mine}
use Rattle.lane_state.proofs.Views.{IsMine, view-alike}

-- ---- bytes that are put
pub put-alike : (keys vs : List ℕ) (u w : Wire) (a : ℕ) → u a ≡ w a → put keys vs u a ≡ put keys vs w a
put-alike [] vs u w a h = h
put-alike (k ∷ keys) [] u w a h = h
put-alike (k ∷ keys) (v ∷ vs) u w a h =
    put-alike keys vs (λ b. cond (b == k) v (u b)) (λ b. cond (b == k) v (w b)) a (ap (cond (a == k) v) h)

pub put-apart : (keys vs : List ℕ) (w : Wire) (a : ℕ) → ((i b : ℕ) → slice_get keys i ≡ Some b → a ≢ b) →
    put keys vs w a ≡ w a
put-apart [] vs w a h = refl
put-apart (k ∷ keys) [] w a h = refl
put-apart (k ∷ keys) (v ∷ vs) w a h =
    put-apart keys vs (λ b. cond (b == k) v (w b)) a (λ i b at. h (suc i) b at)
    ∙ ap (λ t. cond t v (w a)) (ne_eqb a k (h 0 k refl))

-- ---- pages of a frame
pub covered-alike : (ps : List FrameBytes) (j : ℕ) (p : FrameBytes) (u w : Wire) (a : ℕ) → slice_get ps j ≡ Some p →
    a / 4096 ≡ p.frame → with_bytes_of ps u a ≡ with_bytes_of ps w a
covered-alike [] j p u w a at e = absurd (cc)
covered-alike (q ∷ ps) zero p u w a at e =
    let same : q ≡ p = found_one (Some q) q p refl at in
    let here : (a / 4096 == q.frame) ≡ true = eq-eqb (a / 4096) q.frame (e ∙ ap (λ (x : FrameBytes). x.frame)
    (sym same)) in
    ap (λ b. cond b (page_byte q a) (with_bytes_of ps u a)) here
    ∙ sym (ap (λ b. cond b (page_byte q a) (with_bytes_of ps w a)) here)
covered-alike (q ∷ ps) (suc j) p u w a at e =
    ap (cond (a / 4096 == q.frame) (page_byte q a)) (covered-alike ps j p u w a at e)

none-at : (ps : List FrameBytes) (f j : ℕ) (p : FrameBytes) → IsNone ps f → slice_get ps j ≡ Some p → f ≢ p.frame
none-at [] f j p h at e = absurd (cc)
none-at (q ∷ ps) f zero p h at e =
    let same : q ≡ p = found_one (Some q) q p refl at in
    h.0 (e ∙ ap (λ (x : FrameBytes). x.frame) (sym same))
none-at (q ∷ ps) f (suc j) p h at e = none-at ps f j p h.1 at e

any-none : (ps : List FrameBytes) (f : ℕ) → list_any (λ p. f == p.frame) ps ≡ false → IsNone ps f
any-none [] f h = tt
any-none (p ∷ ps) f h = by (f == p.frame) refl h (any-none ps f)
  where
    by : (b : Bool) → (f == p.frame) ≡ b → (b || list_any (λ q. f == q.frame) ps) ≡ false →
        (list_any (λ q. f == q.frame) ps ≡ false → IsNone ps f) → IsNone (p ∷ ps) f
    by true e k rest = absurd (cc)
    by false e k rest = (λ q. false≢true (sym e ∙ eq-eqb f p.frame q), rest k)

pub none-pass : {X : Type 0} (test : ℕ × X → Bool) (es : List (ℕ × X)) (n : ℕ) (x : X) → list_any test es ≡ false →
    find nat_cmp n es ≡ Some x → test (n, x) ≡ false
none-pass test [] n x h k = absurd (cc)
none-pass {X} test (e ∷ es) n x h k = by (test e) refl h (none-pass test es n x) (decided n e.0)
  where
    by : (b : Bool) → test e ≡ b → (b || list_any test es) ≡ false →
        (list_any test es ≡ false → find nat_cmp n es ≡ Some x → test (n, x) ≡ false) → (n ≡ e.0) ⊎ (n ≢ e.0) →
        test (n, x) ≡ false
    by true t g rest d = absurd (cc)
    by false t g rest (inl d) =
        let value : x ≡ e.1 =
        found_one (find nat_cmp n (e ∷ es)) x e.1 k
        (ap (λ q. find nat_cmp q (e ∷ es)) d ∙ find-first e es) in
        (λ i. test (d i, value i)) ∙ t
    by false t g rest (inr d) = rest g (sym (find-later n e es d) ∙ k)

two_true : (a b : Bool) → (a && b) ≡ true → (a ≡ true) × (b ≡ true)
two_true true b h = (refl, h)
two_true false b h = absurd (cc)

not_false : (b : Bool) → not b ≡ true → b ≡ false
not_false true h = absurd (cc)
not_false false h = refl

-- a page of another map than k has the frame of an address
record Elsewhere (maps : FinMap nat_cmp KeptMap) (k a : ℕ) : Type 0 where
  key : ℕ
  other : key ≢ k
  place : ℕ
  page : FrameBytes
  at : slice_get (devices_of maps key).pages place ≡ Some page
  frame : a / 4096 ≡ page.frame

mine-or : (maps : FinMap nat_cmp KeptMap) (k a : ℕ) → IsMine maps k a ⊎ Elsewhere maps k a
mine-or maps k a = by (list_any test (entries maps)) refl
  where
    test : ℕ × KeptMap → Bool
    test e = not (e.0 == k) && list_any (λ p. a / 4096 == p.frame) (device_of (Some e.1)).pages

    each : list_any test (entries maps) ≡ false → (n : ℕ) → n ≢ k → (o : Option KeptMap) → get maps n ≡ o →
        IsNone (device_of o).pages (a / 4096)
    each h n ne None e = tt
    each h n ne (Some o) e =
        let fails : test (n, o) ≡ false = none-pass test (entries maps) n o h (sym (get-entries maps n) ∙ e) in
        any-none (device_of (Some o)).pages (a / 4096)
        (sym (ap (λ b. not b && list_any (λ p. a / 4096 == p.frame) (device_of (Some o)).pages) (ne_eqb n k ne))
        ∙ fails)

    by : (b : Bool) → list_any test (entries maps) ≡ b → IsMine maps k a ⊎ Elsewhere maps k a
    by false h = inl (λ n ne. each h n ne (get maps n) refl)
    by true h =
        let e = any_entry test (entries maps) (entries_sorted maps) h in
        let two = two_true (not (e.key == k)) _ e.passes in
        let q : Passing (λ (p : FrameBytes). a / 4096 == p.frame) (device_of (Some e.value)).pages =
        any_found (λ (p : FrameBytes). a / 4096 == p.frame) (device_of (Some e.value)).pages two.1 in
        let there : get maps e.key ≡ Some e.value = get-entries maps e.key ∙ e.found in
        inr (record {
          key = e.key;
          other = λ s. false≢true (sym (not_false (e.key == k) two.0) ∙ eq-eqb e.key k s);
          place = q.place;
          page = q.item;
          at = ap (λ o. slice_get (device_of o).pages q.place) there ∙ q.found;
          frame = exact_unsigned_eq (a / 4096) q.item.frame q.passes;
        })

-- ---- a change of the driver's own bytes and of those in the pages of one map
module _ (l : LaneState) (laid : AreLaid l) (apart : IsApart l) (maps : FinMap nat_cmp KeptMap)
    (same : map_values map_of maps ≡ l.maps) (unlent : (k : ℕ) → lends_pages (get maps k) ≡ false)
    (after : FinMap nat_cmp KeptMap) (m n : FrameMemory) (k : ℕ)
    (others : (q : ℕ) → q ≢ k → devices_of after q ≡ devices_of maps q)
    (frames : (f : ℕ) → IsNone (devices_of maps k).pages f → IsNone (devices_of after k).pages f) where
  none-after : (q f : ℕ) → IsNone (devices_of maps q).pages f → IsNone (devices_of after q).pages f
  none-after q f h = by (decided q k)
    where
      by : (q ≡ k) ⊎ (q ≢ k) → IsNone (devices_of after q).pages f
      by (inl e) =
          subst (λ j. IsNone (devices_of after j).pages f) (sym e)
          (frames f (subst (λ j. IsNone (devices_of maps j).pages f) e h))
      by (inr ne) = subst (λ (d : Device). IsNone d.pages f) (sym (others q ne)) h

  mine-after : (q a : ℕ) → IsMine maps q a → IsMine after q a
  mine-after q a h j ne = none-after j (a / 4096) (h j ne)

  module _ (keys vs : List ℕ) (mine : (i a : ℕ) → slice_get keys i ≡ Some a → IsMine maps k a)
      (view : with_bytes_of (devices_of after k).pages (wire n)
      ≡ put keys vs (with_bytes_of (devices_of maps k).pages (wire m))) where
    -- what is held changes as that map's device reaches it
    pub held-put : with_bytes_of (held_pages after) (wire n) ≡ put keys vs (with_bytes_of (held_pages maps) (wire m))
    held-put = λ i a. (at a (mine-or maps k a)) i
      where
        at : (a : ℕ) → IsMine maps k a ⊎ Elsewhere maps k a →
            with_bytes_of (held_pages after) (wire n) a ≡ put keys vs (with_bytes_of (held_pages maps) (wire m)) a
        at a (inl h) =
            view-alike after k (wire n) a (mine-after k a h) ∙ ap (λ (w : Wire). w a) view
            ∙ put-alike keys vs (with_bytes_of (devices_of maps k).pages (wire m))
            (with_bytes_of (held_pages maps) (wire m)) a (sym (view-alike maps k (wire m) a h))
        at a (inr e) =
            let f = e.frame in
            let only : IsMine maps e.key a =
            page-mine l laid apart maps same unlent e.key e.place (page_address e.page) a
            (holds l laid apart maps same unlent e.key e.place e.page e.at) (omega (arith, f)) in
            view-alike after e.key (wire n) a (mine-after e.key a only)
            ∙ ap (λ (d : Device). with_bytes_of d.pages (wire n) a) (others e.key e.other)
            ∙ covered-alike (devices_of maps e.key).pages e.place e.page (wire n) (wire m) a e.at e.frame
            ∙ sym (view-alike maps e.key (wire m) a only)
            ∙ sym (put-apart keys vs (with_bytes_of (held_pages maps) (wire m)) a (λ i b at q.
            none-at (devices_of maps e.key).pages (a / 4096) e.place e.page
            (subst (λ c. IsNone (devices_of maps e.key).pages (c / 4096)) (sym q) (mine i b at e.key e.other)) e.at
            e.frame))
