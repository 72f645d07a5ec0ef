-- What a load asks can end with its pages, now and when it waited.
use Rattle.std.proofs.Common.{◌≡◌, ℕ, zero, suc, ◌+◌, ◌-◌, ◌==◌, Bool, true, false, cond}
use Rattle.std.proofs.Common.{if◌then◌else◌, List, [], ◌∷◌, ◌++◌, map, length, Option, Some, None, is_some}
use Rattle.std.proofs.Common.{refl, ap, sym, ◌∙◌, subst, unwrap_or}
use Rattle.std.proofs.lemmas.Bool.{false≢true}
use Rattle.std.specs.FinMap.{get}
use Rattle.std.specs.List.{AllByRecursion, enumerate_from}
use Rattle.busdma_machine.specs.declared.report.Judged.TheVariants.{Fine}
use Rattle.busdma_machine.specs.declared.report.ReportName.{ReportName}
use Rattle.busdma_machine.specs.declared.machine.address.Span.{Span}
use Rattle.busdma_machine.specs.declared.machine.bio.Bio.{Bio}
use Rattle.busdma_machine.specs.declared.machine.bio.Bio.TheVariants.{Mapped, Vector, Unmapped}
use Rattle.busdma_machine.specs.declared.tags.tag.TagLimits.{TagLimits}
use Rattle.busdma_machine.specs.Bounce.AccountStep.{as_pages}
use Rattle.busdma_machine.specs.Judging.{judged, refused_or}
use Rattle.busdma_machine.specs.Machine.Entry.{entries_addresses}
use Rattle.busdma_machine.specs.Machine.VirtualPages.{pages_end}
use Rattle.busdma_base.specs.Scenarios.PageRuns.{is_own, physical_in}
use Rattle.busdma_machine.specs.Machine.Spans.{bio_spans, span_addresses}
use Rattle.busdma_machine.specs.Runs.{run_of}
use Rattle.busdma_base.specs.Scenarios.Buffers.{IsBioOf}
use Rattle.busdma_machine.specs.Tags.Tag.{IsEffective}
use Rattle.busdma_rules.specs.Memory.Bios.{is_rounded}
use Rattle.busdma_rules.specs.Memory.Extents.{reached_addresses, then_reached}
use Rattle.busdma_rules.specs.Memory.Translation.{Translation, physical_or_0}
use Rattle.busdma_rules.specs.Memory.Vectors.{entries_of, with_entry}
use Rattle.busdma_rules.proofs.Memory.Paged.{IsPaged}
use Rattle.busdma_rules.proofs.Memory.Vectors.{entries_are}
use Rattle.busdma_rules.specs.Segments.Chunks.{chunks_of, need_of}
use Rattle.busdma_rules.specs.Segments.Trace.{IsPage}
use Rattle.ideal_lane.specs.Loads.{is_foreign_in, is_foreign_to, limits_of, load_entries, load_judged, load_refusal}
use Rattle.ideal_lane.specs.Loads.{load_translation}
use Rattle.ideal_lane.specs.Places.{is_memory_byte, or_in_memory, physical}
use Rattle.ideal_lane.specs.Standing.{Stands}
use Rattle.ideal_lane.specs.State.{LaneState, LaneMap}
use Rattle.ideal_wire.specs.Laid.{is_loadable, AreInPages, AreLaid}
use Rattle.ideal_wire.specs.Machine.{IsInMachine}
use Rattle.ideal_wire.proofs.Obeys.AcceptedLaws.{limits-effective}
use Rattle.ideal_wire.proofs.Loads.Bios.{AreOfPages, IsOfPages, bio-paged, bio_places, pages-own, pages_translation}
use Rattle.ideal_wire.proofs.Loads.Bios.{with-pages}
use Rattle.ideal_wire.proofs.Laid.LoadLaid.{IsReady, ready}
use Rattle.ideal_wire.proofs.Loads.Reaching.{AllReached, all-from, each-byte, entries-bytes}

-- ---- lists

-- what holds of each thing holds of it with its place
pub enumerated : {X : Type 0} (P : X → Type 0) (n : ℕ) (xs : List X) → AllByRecursion P xs →
    AllByRecursion (λ b. P b.1) (enumerate_from n xs)
enumerated P n [] h = tt
enumerated P n (x ∷ xs) h = (h.0, enumerated P (n + 1) xs h.1)

-- if nothing is refused, all is fine
pub all-fine : {X : Type 0} (refusal : X → Option ReportName) (at : ℕ) (xs : List X) →
    AllByRecursion (λ x. refusal x ≡ None) xs → judged refusal at xs ≡ Fine
all-fine refusal at [] h = refl
all-fine refusal at (x ∷ xs) h =
    ap (λ o. refused_or o at (judged refusal (at + 1) xs)) h.0 ∙ all-fine refusal (at + 1) xs h.1

pub all-map : {X Y : Type 0} (f : X → Y) (P : Y → Type 0) (xs : List X) → AllByRecursion (λ x. P (f x)) xs →
    AllByRecursion P (map f xs)
all-map f P [] h = tt
all-map f P (x ∷ xs) h = (h.0, all-map f P xs h.1)

pub all-of : {X : Type 0} (P Q : X → Type 0) → ((x : X) → P x → Q x) → (xs : List X) → AllByRecursion P xs →
    AllByRecursion Q xs
all-of P Q f [] h = tt
all-of P Q f (x ∷ xs) h = (f x h.0, all-of P Q f xs h.1)

all-front : {X : Type 0} (P : X → Type 0) (xs ys : List X) → AllByRecursion P (xs ++ ys) →
    AllByRecursion P xs × AllByRecursion P ys
all-front P [] ys h = (tt, h)
all-front P (x ∷ xs) ys h = let r = all-front P xs ys h.1 in ((h.0, r.0), r.1)

-- ---- translations that agree

module _ (t u : Translation) where
  abbrev pub AreSame : List ℕ → Type 0
  AreSame vas = AllByRecursion (λ va. t va ≡ u va) vas

  same-reached : (va n : ℕ) → AreSame (run_of va n) → reached_addresses t va n ≡ reached_addresses u va n
  same-reached va zero h = refl
  same-reached va (suc n) h = let rest = same-reached (va + 1) n h.1 in λ i. then_reached (h.0 i) (rest i)

  pub same-entries : (rounded : Bool) (spans : List Span) → AreSame (span_addresses spans) →
      entries_of rounded t spans ≡ entries_of rounded u spans
  same-entries rounded [] h = refl
  same-entries rounded (s ∷ ss) h =
      let parts = all-front (λ va. t va ≡ u va) (run_of s.va.0 s.len) (span_addresses ss) h in
      let one = same-reached s.va.0 s.len parts.0 in
      let rest = same-entries rounded ss parts.1 in
      λ i. with_entry rounded (one i) (if length (one i) == s.len then rest i else [])

-- ---- bytes of the driver's pages

-- the bytes of a load that is judged fine, of a map that is not a memory's, are of the driver's pages
pub direct-bytes : (l : LaneState) (m : ℕ) (b : Bio) → get l.mems m ≡ None → load_judged l m b ≡ Fine → AreOfPages l b
direct-bytes l m b none fine = all-from _ (bio_places b) (λ k va e. one b k va (each-byte l m b fine k va e))
  where
    mapped : (k va : ℕ) → (p : ℕ) × (physical l va ≡ Some p) × (is_foreign_to (get l.mems m) l k va ≡ false) →
        (p : ℕ) × (physical_in l.pages va ≡ Some p)
    mapped k va r = by (physical_in l.pages va) refl r.1
      where
        outside : is_memory_byte l va ≡ false
        outside = sym (ap (λ o. is_foreign_to o l k va) none) ∙ r.2

        by : (o : Option ℕ) → physical_in l.pages va ≡ o → or_in_memory l va o ≡ Some r.0 →
            (p : ℕ) × (physical_in l.pages va ≡ Some p)
        by None e g =
            let gone : None ≡ Some r.0 = sym (ap (λ c. cond c (Some (va - pages_end)) None) outside) ∙ g in absurd (cc)
        by (Some q) e g = (q, e)

    one : (x : Bio) (k va : ℕ) →
        (p : ℕ) × (load_translation l x va ≡ Some p) × (is_foreign_in x (get l.mems m) l k va ≡ false) →
        IsOfPages l x va
    one (Mapped span) k va r = mapped k va r
    one (Vector spans) k va r = mapped k va r
    one (Unmapped frames off len) k va r = (r.0, r.1)

-- such bytes are judged fine if no byte of pages is one of a memory
module _ (l : LaneState) (outside : (va p : ℕ) → physical_in l.pages va ≡ Some p → is_memory_byte l va ≡ false) where
  not-foreign : (b : Bio) (k va p : ℕ) → pages_translation l b va ≡ Some p → is_foreign_in b None l k va ≡ false
  not-foreign (Mapped span) k va p e = outside va p e
  not-foreign (Vector spans) k va p e = outside va p e
  not-foreign (Unmapped frames off len) k va p e = refl

  pub pages-fine : (m : ℕ) (b : Bio) → get l.mems m ≡ None → AreOfPages l b → load_judged l m b ≡ Fine
  pages-fine m b none own =
      ap (λ o. judged (λ x. load_refusal (is_foreign_in b o l x.0 x.1) (load_translation l b x.1)) 0
      (enumerate_from 0 (bio_places b))) none
      ∙ all-fine (λ x. load_refusal (is_foreign_in b None l x.0 x.1) (load_translation l b x.1)) 0
      (enumerate_from 0 (bio_places b))
      (all-of (λ x. IsOfPages l b x.1) _
      (λ x r i. load_refusal (not-foreign b x.0 x.1 r.0 r.1 i) (with-pages l b x.1 r.0 r.1 i))
      (enumerate_from 0 (bio_places b)) (enumerated (IsOfPages l b) 0 (bio_places b) own))

-- the entries of bytes of the driver's pages are the entries by these pages only
pub pages-entries : (l : LaneState) (b : Bio) → AreOfPages l b →
    entries_of (is_rounded b) (pages_translation l b) (bio_spans b) ≡ load_entries l b
pages-entries l b own =
    same-entries (pages_translation l b) (load_translation l b) (is_rounded b) (bio_spans b)
    (all-of (IsOfPages l b) _ (λ va r. r.1 ∙ sym (with-pages l b va r.0 r.1)) (bio_places b) own)

-- the bytes of a bio are of the driver's pages if they are translated by these pages, and the other way round
pub are-in-pages : (l : LaneState) (b : Bio) → AreOfPages l b → AreInPages l.pages b
are-in-pages l b own = all-of (IsOfPages l b) _ (λ va r. ap is_some r.1) (bio_places b) own

pub of-pages : (l : LaneState) (b : Bio) → AreInPages l.pages b → AreOfPages l b
of-pages l b own = all-of _ (IsOfPages l b) (λ va s. by va (pages_translation l b va) refl s) (bio_places b) own
  where
    by : (va : ℕ) (o : Option ℕ) → pages_translation l b va ≡ o → is_some (pages_translation l b va) ≡ true →
        IsOfPages l b va
    by va None e s = let gone : false ≡ true = sym (ap is_some e) ∙ s in absurd (false≢true gone)
    by va (Some p) e s = (p, e)

-- ---- loads that can end
module _ (l : LaneState) (laid : AreLaid l) (machine : IsInMachine l) (stands : Stands l) (m : ℕ) (o : LaneMap)
    (there : get l.maps m ≡ Some o) where
  abbrev t : TagLimits
  t = limits_of l o

  eff : IsEffective t
  eff = limits-effective l machine stands m o there

  -- a load of bytes of the driver's pages can end with its pages
  pub direct-ready : get l.mems m ≡ None → (b : Bio) → IsBioOf l.pages b → AreOfPages l b →
      (pages : List ℕ) → AllByRecursion IsPage (as_pages pages) →
      length pages ≡ need_of (chunks_of t l.maxmem (load_entries l b)) →
      IsReady l m t (load_entries l b) (chunks_of t l.maxmem (load_entries l b)) pages
  direct-ready none b named own pages whole count =
      ready l m t t l.maxmem (load_entries l b) pages eff.maxsegsz eff refl
      (entries_are (λ p. Unit {0}) (is_rounded b) u are-paged (bio_spans b)) whole count
      (λ some. let gone : false ≡ true = sym (ap is_some none) ∙ some in absurd (false≢true gone))
      (λ y memory. let gone : None ≡ Some y = sym none ∙ memory in absurd (cc)) loadable
    where
      u : Translation
      u = load_translation l b

      are-paged : IsPaged (λ p. Unit {0}) u
      are-paged = bio-paged l laid machine b named

      are-reached : AllReached u (bio_places b)
      are-reached = all-of (IsOfPages l b) _ (λ va r. (r.0, with-pages l b va r.0 r.1)) (bio_places b) own

      loads : (va : ℕ) → IsOfPages l b va → is_loadable (get l.mems m) l (physical_or_0 u va) ≡ true
      loads va r =
          ap (λ q. is_loadable q l (physical_or_0 u va)) none
          ∙ ap (λ q. is_own l.pages (unwrap_or q 0)) (with-pages l b va r.0 r.1)
          ∙ pages-own l b named va r.0 r.1

      loadable : AllByRecursion (λ a. is_loadable (get l.mems m) l a ≡ true) (entries_addresses (load_entries l b))
      loadable =
          subst (AllByRecursion (λ a. is_loadable (get l.mems m) l a ≡ true))
          (sym (entries-bytes u are-paged (is_rounded b) (bio_spans b) are-reached))
          (all-map (physical_or_0 u) (λ a. is_loadable (get l.mems m) l a ≡ true) (bio_places b)
          (all-of (IsOfPages l b) _ loads (bio_places b) own))
