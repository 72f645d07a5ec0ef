-- Walks over vectors, and their streams, span by span.
use Rattle.std.proofs.Common.{◌≡◌, ℕ, ◌+◌, ◌<◌, Bool, true, false, List, [], ◌∷◌, ◌++◌, map, length, refl, ap, sym, ◌∙◌}
use Rattle.std.proofs.Common.{arith}
use Rattle.std.specs.Prelude.{nat_eq, if◌then◌else◌}
use Rattle.std.specs.List.{AllByRecursion}
use Rattle.std.proofs.lemmas.Bool.{eqb-true}
use Rattle.std.proofs.lemmas.List.{map-append}
use Rattle.busdma_machine.specs.declared.machine.address.Span.{Span}
use Rattle.busdma_machine.specs.declared.machine.chunk.Entry.{Entry}
use Rattle.busdma_machine.specs.declared.report.Judged.TheVariants.{Fine}
use Rattle.busdma_machine.specs.Machine.Entry.{HasPart, IsEntry, entries_addresses}
use Rattle.busdma_machine.specs.Runs.{addresses, run_of}
use Rattle.busdma_machine.specs.Machine.Spans.{span_addresses}
use Rattle.busdma_rules.specs.Memory.Translation.{Translation, physical_or_0}
use Rattle.busdma_rules.specs.Memory.Extents.{extents_of, reached_addresses}
use Rattle.busdma_rules.specs.Memory.Vectors.{entries_of, judged_spans, with_entry}
use Rattle.busdma_rules.proofs.Memory.Extents.{AreExtents, begins, reached_extents}
use Rattle.busdma_rules.proofs.Memory.Paged.{IsPaged}
use Rattle.busdma_rules.proofs.Memory.Walks.{judged-run, reached_all, refused_at}

module _ (t : Translation) (s : Span) (ss : List Span) (offset : ℕ) where
  abbrev bytes : List ℕ
  bytes = reached_addresses t s.va.0 s.len

  pub first_judged : (b : Bool) → nat_eq (length bytes) s.len ≡ b →
      judged_spans t offset (s ∷ ss) ≡ (if b then judged_spans t (offset + s.len) ss
      else refused_at (offset + length bytes))
  first_judged b h = judged-run t s.va.0 s.len offset (span_addresses ss)
      ∙ ap (λ c. if c then judged_spans t (offset + s.len) ss else refused_at (offset + length bytes)) h

  pub first_entry : (rounded b : Bool) → nat_eq (length bytes) s.len ≡ b →
      entries_of rounded t (s ∷ ss) ≡ with_entry rounded bytes (if b then entries_of rounded t ss else [])
  first_entry rounded b h = ap (λ c. with_entry rounded bytes (if c then entries_of rounded t ss else [])) h

entry_all : (P : Entry → Type 0) (rounded : Bool) (pas : List ℕ) (others : List Entry) →
    (0 < length pas → P (record { rounded = rounded; parts = extents_of pas })) → AllByRecursion P others →
    AllByRecursion P (with_entry rounded pas others)
entry_all P rounded [] others h all = all
entry_all P rounded (pa ∷ pas) others h all = (h (omega arith), all)

some_extents : (pas : List ℕ) → 0 < length pas → 0 < length (extents_of pas)
some_extents [] h = absurd (omega arith)
some_extents (pa ∷ pas) h = omega (arith, ap length (begins pa (extents_of pas)).are)

module _ (Has : ℕ → Type 0) (rounded : Bool) (t : Translation) (is : IsPaged Has t) where
  all_entries : (P : Entry → Type 0) → ((pas : List ℕ) → 0 < length pas → AreExtents Has pas (extents_of pas) →
      P (record { rounded = rounded; parts = extents_of pas })) → (spans : List Span) →
      AllByRecursion P (entries_of rounded t spans)
  all_entries P h [] = tt
  all_entries P h (s ∷ ss) =
      let pas = reached_addresses t s.va.0 s.len in
      let others = all_entries P h ss in
      entry_all P rounded pas (if nat_eq (length pas) s.len then entries_of rounded t ss else [])
      (λ some. h pas some (reached_extents Has t is s.va.0 s.len))
      (elim (nat_eq (length pas) s.len) as (λ b. AllByRecursion P (if b then entries_of rounded t ss else []))
      [ true ↦ others | false ↦ tt ])

  pub entries_are : (spans : List Span) → AllByRecursion IsEntry (entries_of rounded t spans)
  entries_are = all_entries IsEntry (λ pas some are. record { extents = are.extents; joined = are.joined })

  pub entries_touch : (spans : List Span) → AllByRecursion HasPart (entries_of rounded t spans)
  entries_touch = all_entries HasPart (λ pas some are. some_extents pas some)

  pub entries_have : (spans : List Span) →
      AllByRecursion (λ e. AllByRecursion (λ x. Has x.pa.0) e.parts) (entries_of rounded t spans)
  entries_have = all_entries (λ e. AllByRecursion (λ x. Has x.pa.0) e.parts) (λ pas some are. are.have)

  entry_bytes : (s : Span) (es : List Entry) →
      entries_addresses (with_entry rounded (reached_addresses t s.va.0 s.len) es)
      ≡ reached_addresses t s.va.0 s.len ++ entries_addresses es
  entry_bytes s es = by_bytes (reached_addresses t s.va.0 s.len) (reached_extents Has t is s.va.0 s.len).bytes
    where
      by_bytes : (pas : List ℕ) → addresses (extents_of pas) ≡ pas →
          entries_addresses (with_entry rounded pas es) ≡ pas ++ entries_addresses es
      by_bytes [] h = refl
      by_bytes (pa ∷ pas) h = ap (λ qs. qs ++ entries_addresses es) h

  -- if no byte is refused, the entries have the bytes of the spans
  pub entries_bytes : (offset : ℕ) (spans : List Span) → judged_spans t offset spans ≡ Fine →
      entries_addresses (entries_of rounded t spans) ≡ map (physical_or_0 t) (span_addresses spans)
  entries_bytes offset [] h = refl
  entries_bytes offset (s ∷ ss) h =
      by_count (nat_eq (length (reached_addresses t s.va.0 s.len)) s.len) refl (entries_bytes (offset + s.len) ss)
    where
      by_count : (b : Bool) → nat_eq (length (reached_addresses t s.va.0 s.len)) s.len ≡ b →
          (judged_spans t (offset + s.len) ss ≡ Fine →
          entries_addresses (entries_of rounded t ss) ≡ map (physical_or_0 t) (span_addresses ss)) →
          entries_addresses (entries_of rounded t (s ∷ ss)) ≡ map (physical_or_0 t) (span_addresses (s ∷ ss))
      by_count true e others =
          ap entries_addresses (first_entry t s ss offset rounded true e) ∙ entry_bytes s (entries_of rounded t ss)
          ∙ ap (λ pas. pas ++ entries_addresses (entries_of rounded t ss))
          (reached_all t s.va.0 s.len (eqb-true (length (reached_addresses t s.va.0 s.len)) s.len e))
          ∙ ap (λ qs. map (physical_or_0 t) (run_of s.va.0 s.len) ++ qs)
          (others (sym (first_judged t s ss offset true e) ∙ h))
          ∙ sym (map-append (physical_or_0 t) (run_of s.va.0 s.len) (span_addresses ss))
      by_count false e others = absurd (refused (sym (first_judged t s ss offset false e) ∙ h))
        where
          refused : refused_at (offset + length (reached_addresses t s.va.0 s.len)) ≡ Fine → ⊥
          refused r = cc
