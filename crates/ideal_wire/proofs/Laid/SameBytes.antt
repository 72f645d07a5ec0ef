-- Where the bytes of a load lie, and their judgement, of a driver that has the pages and memories of another.
use Rattle.std.proofs.Common.{◌≡◌, ℕ, if◌then◌else◌, Option, Some, None, map, refl, ap, ◌∙◌}
use Rattle.std.specs.FinMap.{entries, get}
use Rattle.std.specs.List.{enumerate_from, list_any}
use Rattle.busdma_machine.specs.Judging.{judged}
use Rattle.busdma_machine.specs.Machine.Spans.{bio_spans, span_addresses}
use Rattle.busdma_machine.specs.declared.machine.bio.Bio.{Bio}
use Rattle.busdma_machine.specs.declared.machine.bio.Bio.TheVariants.{Mapped, Vector, Unmapped}
use Rattle.busdma_base.specs.Scenarios.PageRuns.{physical_in}
use Rattle.busdma_rules.specs.Memory.Bios.{bio_translation, is_rounded}
use Rattle.busdma_rules.specs.Memory.Translation.{physical_or_0}
use Rattle.busdma_rules.specs.Memory.Vectors.{entries_of}
use Rattle.ideal_lane.specs.Loads.{is_foreign_in, is_foreign_to, load_addresses, load_entries, load_judged}
use Rattle.ideal_lane.specs.Loads.{load_refusal}
use Rattle.ideal_lane.specs.Loads.{load_translation}
use Rattle.ideal_lane.specs.Places.{is_in_memory, or_in_memory, physical, physical_of}
use Rattle.ideal_lane.specs.State.{LaneState, LaneMemory}

module _ (l k : LaneState) (mems : k.mems ≡ l.mems) (pages : k.pages ≡ l.pages) where
  pub physical-same : physical k ≡ physical l
  physical-same = λ i va. at va i
    where
      at : (va : ℕ) → or_in_memory k va (physical_in k.pages va) ≡ or_in_memory l va (physical_in l.pages va)
      at va = ap (λ runs. or_in_memory k va (physical_in runs va)) pages ∙ by (physical_in l.pages va)
        where
          by : (o : Option ℕ) → or_in_memory k va o ≡ or_in_memory l va o
          by (Some pa) = refl
          by None = λ i. if list_any (λ e. is_in_memory va e.1) (entries (mems i)) then Some (physical_of va) else None

  pub translation-same : (b : Bio) → load_translation k b ≡ load_translation l b
  translation-same b = λ i. bio_translation (physical-same i) b

  pub addresses-same : (b : Bio) → load_addresses k b ≡ load_addresses l b
  addresses-same b = λ i. map (physical_or_0 (translation-same b i)) (span_addresses (bio_spans b))

  pub entries-same : (b : Bio) → load_entries k b ≡ load_entries l b
  entries-same b = λ i. entries_of (is_rounded b) (translation-same b i) (bio_spans b)

  foreign-to : (o : Option LaneMemory) (at va : ℕ) → is_foreign_to o k at va ≡ is_foreign_to o l at va
  foreign-to None at va = λ i. list_any (λ e. is_in_memory va e.1) (entries (mems i))
  foreign-to (Some x) at va = refl

  foreign-in : (b : Bio) (o : Option LaneMemory) (at va : ℕ) → is_foreign_in b o k at va ≡ is_foreign_in b o l at va
  foreign-in (Mapped span) o at va = foreign-to o at va
  foreign-in (Vector spans) o at va = foreign-to o at va
  foreign-in (Unmapped frames off len) o at va = refl

  pub judged-same : (m : ℕ) (b : Bio) → load_judged k m b ≡ load_judged l m b
  judged-same m b =
      ap (λ q. judged (λ x. load_refusal (is_foreign_in b (get q m) k x.0 x.1) (load_translation k b x.1)) 0
      (enumerate_from 0 (span_addresses (bio_spans b)))) mems
      ∙ (λ i. judged (λ x. load_refusal (foreign-in b (get l.mems m) x.0 x.1 i) (translation-same b i x.1)) 0
      (enumerate_from 0 (span_addresses (bio_spans b))))
