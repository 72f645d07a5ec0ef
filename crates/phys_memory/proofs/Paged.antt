-- Translations that keep pages: the bytes of a page lie in order in one frame.
use Rattle.std.proofs.Common.{◌≡◌, ℕ, zero, suc, ◌+◌, ◌-◌, ◌*◌, ◌/◌, ◌%◌, ◌^◌, ◌<◌, ◌≤◌, min, ◌∷◌, ◌++◌, refl, ap, sym}
use Rattle.std.proofs.Common.{◌∙◌, subst, inl, inr, arith}
use Rattle.std.specs.Prelude.{Option, Some, None}
use Rattle.std.proofs.lemmas.Bool.{cases_lt}
use Rattle.busdma_machine.specs.Runs.{run_of}
use Rattle.busdma_rules.specs.Memory.Translation.{Translation}
use Rattle.phys_memory.specs.Extents.{BeginsFrame, IsNext}
use Rattle.busdma_rules.specs.Memory.Extents.{reached_addresses, then_reached}
use Rattle.busdma_rules.proofs.Memory.Paged.{KeepsPlaces}

-- a page has a frame, and so many of its first bytes can be reached
pub record HasPage (t : Translation) (page frame reach : ℕ) : Type 0 where
  pub inside : (i : ℕ) → i < reach → i < 4096 → t (4096 * page + i) ≡ Some (4096 * frame + i)
  pub past : (i : ℕ) → reach ≤ i → i < 4096 → t (4096 * page + i) ≡ None

-- what is reached from a page's start on begins a frame
begins_at_page : (t : Translation) (va k : ℕ) → KeepsPlaces t → va % 4096 ≡ 0 → BeginsFrame (reached_addresses t va k)
begins_at_page t va zero keeps h = tt
begins_at_page t va (suc k) keeps h = begins (t va) (λ p e. keeps va p e)
  where
    begins : (o : Option ℕ) → ((p : ℕ) → o ≡ Some p → p % 4096 ≡ va % 4096) →
        BeginsFrame (then_reached o (reached_addresses t (va + 1) k))
    begins None e = tt
    begins (Some p) e = e p refl ∙ h

begins_unreached : (t : Translation) (va k : ℕ) → t va ≡ None → BeginsFrame (reached_addresses t va k)
begins_unreached t va zero h = tt
begins_unreached t va (suc k) h = subst (λ o. BeginsFrame (then_reached o (reached_addresses t (va + 1) k))) (sym h) tt

module _ (t : Translation) (page frame reach : ℕ) (is : HasPage t page frame reach) (short : reach ≤ 4096) where
  -- a run of bytes of the page, and then the others
  reached_run : (i n l k : ℕ) → i + n ≤ reach → l ≡ n + k → reached_addresses t (4096 * page + i) l
      ≡ run_of (4096 * frame + i) n
      ++ reached_addresses t (4096 * page + (i + n)) k
  reached_run i zero l k fits e =
      let same : i ≡ i + 0 = omega arith in
      let left : l ≡ k = omega arith in
      ap (reached_addresses t (4096 * page + i)) left ∙ ap (λ j. reached_addresses t (4096 * page + j) k) same
  reached_run i (suc n) zero k fits e = absurd (omega arith)
  reached_run i (suc n) (suc l) k fits e =
      let a = 4096 * page + i in
      let p = 4096 * frame + i in
      let next : 4096 * page + i + 1 ≡ 4096 * page + (i + 1) = omega arith in
      let next_frame : 4096 * frame + (i + 1) ≡ 4096 * frame + i + 1 = omega arith in
      let end : i + 1 + n ≡ i + suc n = omega arith in
      ap (λ o. then_reached o (reached_addresses t (a + 1) l)) (is.inside i (omega arith) (omega arith))
      ∙ ap (λ pas. p ∷ pas) (
      ap (λ b. reached_addresses t b l) next ∙ reached_run (i + 1) n l k (omega arith) (omega arith)
      ∙ ap (λ q. run_of q n ++ reached_addresses t (4096 * page + (i + 1 + n)) k) next_frame
      ∙ ap (λ j. run_of (p + 1) n ++ reached_addresses t (4096 * page + j) k) end)

  module _ (keeps : KeepsPlaces t) where
    -- the bytes after those that were taken of a page begin a frame
    begins_after : (i n left : ℕ) → n ≡ min (reach - i) left → i < reach →
        BeginsFrame (reached_addresses t (4096 * page + (i + n)) (left - n))
    begins_after i n left e inside = elim (cases_lt (reach - i) left) [
      | inl h ↦
          let end : i + n ≡ reach = omega arith in
          elim (cases_lt reach 4096) [
            | inl k ↦ subst (λ j. BeginsFrame (reached_addresses t (4096 * page + j) (left - n))) (sym end)
                (begins_unreached t (4096 * page + reach) (left - n) (is.past reach (omega arith) k))
            | inr k ↦ begins_at_page t (4096 * page + (i + n)) (left - n) keeps (omega arith)
          ]
      | inr h ↦
          let none : 0 ≡ left - n = omega arith in
          subst (λ k. BeginsFrame (reached_addresses t (4096 * page + (i + n)) k)) none tt
    ]

-- the extent of the bytes that a page gives
pub next_in_page : (t : Translation) (at n left frame reach : ℕ) → HasPage t (at / 4096) frame reach → KeepsPlaces t →
    reach ≤ 4096 → frame < 2 ^ 30 → at % 4096 < reach → 0 < left → n ≡ min (reach - at % 4096) left →
    IsNext t at left (record { pa = record { 0 = frame * 4096 + at % 4096 }; len = n })
next_in_page t at n left frame reach is keeps short below inside some e =
    let start : 4096 * (at / 4096) + at % 4096 ≡ at = omega arith in
    let end : 4096 * (at / 4096) + (at % 4096 + n) ≡ at + n = omega arith in
    let swap : 4096 * frame + at % 4096 ≡ frame * 4096 + at % 4096 = omega arith in
    record {
      extent = record { some = omega arith; in_frame = omega arith; numbered = omega arith };
      short = omega arith;
      others = ap (λ a. reached_addresses t a left) (sym start)
          ∙ reached_run t (at / 4096) frame reach is short (at % 4096) n left (left - n) (omega arith) (omega arith)
          ∙ ap (λ p. run_of p n ++ reached_addresses t (4096 * (at / 4096) + (at % 4096 + n)) (left - n)) swap
          ∙ ap (λ a. run_of (frame * 4096 + at % 4096) n ++ reached_addresses t a (left - n)) end;
      cut =
          subst (λ a. BeginsFrame (reached_addresses t a (left - n))) end
          (begins_after t (at / 4096) frame reach is short keeps (at % 4096) n left e inside);
    }
