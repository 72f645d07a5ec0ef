-- Bytes that begin a frame and of which none is excluded are cut alike, whatever the alignment: at the ends of frames.
use Rattle.std.proofs.Common.{◌≡◌, ℕ, zero, suc, ◌+◌, ◌-◌, ◌*◌, ◌/◌, ◌%◌, ◌<◌, ◌≤◌, ◌==◌, ◌&&◌, ◌||◌, not, Bool, true}
use Rattle.std.proofs.Common.{false, if◌then◌else◌, List, [], ◌∷◌, ◌++◌, length, take, drop, None, refl, ap, sym, ◌∙◌}
use Rattle.std.proofs.Common.{subst, arith, append-nil}
use Rattle.std.proofs.Math.Nat.{mul_assoc}
use Rattle.busdma_machine.specs.declared.machine.chunk.Entry.{Entry}
use Rattle.busdma_machine.specs.declared.tags.tag.TagLimits.{TagLimits}
use Rattle.busdma_machine.specs.Machine.Entry.{entries_addresses, entry_addresses}
use Rattle.busdma_machine.specs.Runs.{run_of}
use Rattle.busdma_machine.specs.Tags.Tag.{IsEffective, could_bounce, excluded, needs_bounce}
use Rattle.busdma_machine.specs.Tags.TagFlags.{keep_pg_offset}
use Rattle.busdma_rules.specs.Memory.Extents.{extents_of}
use Rattle.busdma_rules.specs.Memory.Vectors.{with_entry}
use Rattle.busdma_rules.specs.Segments.Chunks.{chunk_limit, chunk_of, chunks_of, chunks_of_bytes, chunks_within}
use Rattle.busdma_rules.specs.Segments.Chunks.{extent_from}
use Rattle.busdma_rules.specs.Segments.Chunks.{first_extent, rounded_up, to_frame_end}
use Rattle.busdma_rules.proofs.Segments.Aligned.{multiple}
use Rattle.busdma_rules.proofs.Segments.Sound.{divides_frame}

-- the first byte of a frame that is not excluded needs no bounce page
frame-aligned : (t : TagLimits) → IsEffective t → (a : ℕ) → a % 4096 ≡ 0 → a % t.alignment ≡ 0
frame-aligned t eff a whole =
    let d = divides_frame t eff in
    let is : a ≡ 4096 * (a / 4096) = omega (arith, whole) in
    multiple a t.alignment (d.0 * (a / 4096))
    (is ∙ ap (λ n. n * (a / 4096)) d.1 ∙ mul_assoc t.alignment d.0 (a / 4096))

pub needs-none : (t : TagLimits) → IsEffective t → (m a : ℕ) → excluded t a ≡ false → a % 4096 ≡ 0 →
    needs_bounce t m a ≡ false
needs-none t eff m a reached whole =
    let aligned = frame-aligned t eff a whole in
    (λ i. could_bounce t m && (reached i || not (aligned i == 0))) ∙ and-false (could_bounce t m)
  where
    and-false : (b : Bool) → (b && false) ≡ false
    and-false true = refl
    and-false false = refl

drop-run : (k a n : ℕ) → drop k (run_of a n) ≡ run_of (a + k) (n - k)
drop-run zero a n =
    let first : a ≡ a + 0 = omega arith in
    let many : n ≡ n - 0 = omega arith in
    λ i. run_of (first i) (many i)
drop-run (suc k) a zero =
    let none : 0 ≡ 0 - suc k = omega arith in
    ap (run_of (a + suc k)) none
drop-run (suc k) a (suc n) =
    let first : a + 1 + k ≡ a + suc k = omega arith in
    let many : n - k ≡ suc n - suc k = omega arith in
    drop-run k (a + 1) n ∙ (λ i. run_of (first i) (many i))

-- the chunks by two tags of which neither bounces a first byte of a frame of the run
module _ (t u : TagLimits) (m n : ℕ) where
  -- each first byte of a frame of a run
  abbrev pub IsUnbounced : ℕ → ℕ → Type 0
  IsUnbounced first len = (a : ℕ) → first ≤ a → a < first + len → a % 4096 ≡ 0 →
      (needs_bounce t m a ≡ false) × (needs_bounce u n a ≡ false)

  limit : (s : TagLimits) (k : ℕ) (r : Bool) (a : ℕ) → needs_bounce s k a ≡ false → a % 4096 ≡ 0 →
      chunk_limit s k r a ≡ 4096
  limit s k r a none whole =
      let end : to_frame_end a ≡ 4096 = omega (arith, whole) in
      ap (λ b. if b && r && not (keep_pg_offset s.flags) then rounded_up (to_frame_end a) s.alignment
      else to_frame_end a) none ∙ end

  same-chunk : (at a : ℕ) (bs : List ℕ) → needs_bounce t m a ≡ needs_bounce u n a →
      chunk_of t m at (a ∷ bs) ≡ chunk_of u n at (a ∷ bs)
  same-chunk at a bs e = λ i. record {
    at = at;
    first = first_extent (a ∷ bs);
    rest = extent_from (drop (first_extent (a ∷ bs)).len (a ∷ bs));
    bounced = e i;
    page = None;
  }

  one-chunk : (k at a j : ℕ) (r : Bool) (bs : List ℕ) → chunk_limit t m r a ≡ suc j → chunk_limit u n r a ≡ suc j →
      needs_bounce t m a ≡ needs_bounce u n a →
      chunks_within k t m r (at + suc j) (drop (suc j) (a ∷ bs))
      ≡ chunks_within k u n r (at + suc j) (drop (suc j) (a ∷ bs)) →
      chunks_within (suc k) t m r at (a ∷ bs) ≡ chunks_within (suc k) u n r at (a ∷ bs)
  one-chunk k at a j r bs one two same rest =
      ap (λ z. chunk_of t m at (take z (a ∷ bs)) ∷ chunks_within k t m r (at + z) (drop z (a ∷ bs))) one
      ∙ (λ i. same-chunk at a (take j bs) same i ∷ rest i)
      ∙ sym (ap (λ z. chunk_of u n at (take z (a ∷ bs)) ∷ chunks_within k u n r (at + z) (drop z (a ∷ bs))) two)

  within-alike : (k at first len : ℕ) (r : Bool) → first % 4096 ≡ 0 → IsUnbounced first len →
      chunks_within k t m r at (run_of first len) ≡ chunks_within k u n r at (run_of first len)
  within-alike zero at first len r whole none = refl
  within-alike (suc k) at first zero r whole none = refl
  within-alike (suc k) at first (suc len) r whole none =
      let here = none first (omega arith) (omega arith) whole in
      let next : (first + 4096) % 4096 ≡ 0 = omega (arith, whole) in
      let rest = within-alike k (at + 4096) (first + 4096) (suc len - 4096) r next
      (λ a low high w. none a (omega (arith, low)) (omega (arith, low, high)) w) in
      one-chunk k at first 4095 r (run_of (first + 1) len) (limit t m r first here.0 whole)
      (limit u n r first here.1 whole) (here.0 ∙ sym here.1)
      (subst (λ bs. chunks_within k t m r (at + 4096) bs ≡ chunks_within k u n r (at + 4096) bs)
      (sym (drop-run 4096 first (suc len))) rest)

  -- the chunks of one entry of such a run
  pub chunks-alike : (pas : List ℕ) (first len : ℕ) → entries_addresses (with_entry true pas []) ≡ run_of first len →
      first % 4096 ≡ 0 → IsUnbounced first len →
      chunks_of t m (with_entry true pas []) ≡ chunks_of u n (with_entry true pas [])
  chunks-alike [] first len is whole none = refl
  chunks-alike (pa ∷ pas) first len is whole none =
      ap (λ cs. cs ++ [])
      (subst (λ bs. chunks_of_bytes t m true 0 bs ≡ chunks_of_bytes u n true 0 bs) (sym bytes)
      (within-alike (length (run_of first len)) 0 first len true whole none))
    where
      e : Entry
      e = record { rounded = true; parts = extents_of (pa ∷ pas) }

      bytes : entry_addresses e ≡ run_of first len
      bytes = sym (append-nil (entry_addresses e)) ∙ is
