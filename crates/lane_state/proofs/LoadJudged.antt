-- The judgement of a load's bytes: by the stream, and by the memories that they lie in.
use Rattle.std.proofs.Common.{◌≡◌, ℕ, Bool, List, Option, Some, None, is_some, refl, sym, ap, ◌∙◌, append-nil}
use Rattle.std.specs.FinMap.{get, entries}
use Rattle.std.specs.List.{enumerate_from, list_any}
use Rattle.std.specs.Option.{option_or}
use Rattle.busdma_machine.specs.declared.machine.address.Span.{Span}
use Rattle.busdma_machine.specs.declared.machine.bio.Bio.{Bio}
use Rattle.busdma_machine.specs.declared.machine.bio.Bio.TheVariants.{Mapped, Unmapped}
use Rattle.busdma_machine.specs.Judging.{judged}
use Rattle.busdma_machine.specs.Machine.Entry.{unmapped_of}
use Rattle.busdma_machine.specs.Machine.Spans.{bio_spans, span_addresses}
use Rattle.busdma_machine.specs.Runs.{run_of}
use Rattle.busdma_rules.specs.Memory.Bios.{is_rounded}
use Rattle.busdma_rules.specs.Memory.Translation.{missing, unreached}
use Rattle.ideal_lane.specs.Loads.{is_foreign_in, is_foreign_to, load_judged, load_refusal, load_translation}
use Rattle.ideal_lane.specs.Places.{is_in_memory, is_memory_byte}
use Rattle.ideal_lane.specs.State.{LaneState, LaneMemory}
use Rattle.lane_state.specs.declared.holdings.Holdings.{Holdings}
use Rattle.lane_state.specs.Ideal.{ideal_of}
use Rattle.lane_state.specs.Judging.{earlier, foreign_bytes, foreign_judged, foreign_refusal, own_judged}
use Rattle.lane_state.specs.Judging.{unmapped_judged}
use Rattle.lane_state.specs.Kept.{memory_of}
use Rattle.lane_state.specs.Loading.{load_stream}
use Rattle.lane_state.proofs.Earlier.{judged-alike, judged-either, judged-placed}
use Rattle.lane_state.proofs.LoadStreams.{stream-says}
use Rattle.lane_state.proofs.MapValues.{any-map_values}

-- a load's bytes, by what their stream and the driver's memories say
pub load-judged : (l : LaneState) (m : ℕ) (b : Bio) →
    earlier (unmapped_judged (unmapped_of (load_stream l b))) (foreign_judged l m b) ≡ load_judged l m b
load-judged l m b =
    let t = load_translation l b in
    let vas = span_addresses (bio_spans b) in
    let o = get l.mems m in
    ap (λ j. earlier j (foreign_judged l m b))
    (stream-says (is_rounded b) t (bio_spans b) ∙ sym (judged-placed (unreached t) 0 0 vas))
    ∙ judged-either {X = ℕ × ℕ} (λ x. unreached t x.1) (λ x. foreign_refusal (is_foreign_in b o l x.0 x.1)) 0
    (enumerate_from 0 vas)
    ∙ judged-alike {X = ℕ × ℕ}
    (λ x. option_or (missing (t x.1)) (foreign_refusal (is_foreign_in b o l x.0 x.1)))
    (λ x. load_refusal (is_foreign_in b o l x.0 x.1) (t x.1))
    (λ x. by (is_foreign_in b o l x.0 x.1) (t x.1)) 0 (enumerate_from 0 vas)
  where
    by : (foreign : Bool) (o : Option ℕ) → option_or (missing o) (foreign_refusal foreign) ≡ load_refusal foreign o
    by foreign None = refl
    by foreign (Some pa) = refl

-- mapped bytes, and those of frames
pub span-foreign : (l : LaneState) (m : ℕ) (s : Span) →
    foreign_bytes l m 0 (run_of s.va.0 s.len) ≡ foreign_judged l m (Mapped s)
span-foreign l m s = ap (foreign_bytes l m 0) (sym (append-nil (run_of s.va.0 s.len)))

pub frames-foreign : (l : LaneState) (m : ℕ) (fs : List ℕ) (off len : ℕ) →
    judged (λ (x : ℕ × ℕ). foreign_refusal (is_some (get l.mems m))) 0 (enumerate_from 0 (run_of off len))
    ≡ foreign_judged l m (Unmapped fs off len)
frames-foreign l m fs off len =
    ap (λ vas. judged (λ (x : ℕ × ℕ). foreign_refusal (is_some (get l.mems m))) 0 (enumerate_from 0 vas))
    (sym (append-nil (run_of off len)))

-- the judgement of bytes for a map that is not a memory's: by all memories
pub shared-judged : (l : LaneState) (m offset : ℕ) (vas : List ℕ) → get l.mems m ≡ None →
    judged (λ v. foreign_refusal (is_memory_byte l v)) offset vas ≡ foreign_bytes l m offset vas
shared-judged l m offset vas none =
    sym (ap (λ (x : Option LaneMemory). judged {X = ℕ × ℕ} (λ b. foreign_refusal (is_foreign_to x l b.0 b.1)) offset
    (enumerate_from offset vas)) none
    ∙ judged-placed (λ v. foreign_refusal (is_memory_byte l v)) offset offset vas)

-- the judgement of bytes for a memory's own map: by the memory's bytes at their places
pub own-judged : (l : LaneState) (m offset : ℕ) (x : LaneMemory) (vas : List ℕ) → get l.mems m ≡ Some x →
    own_judged x offset vas ≡ foreign_bytes l m offset vas
own-judged l m offset x vas there =
    sym (ap (λ (x : Option LaneMemory). judged {X = ℕ × ℕ} (λ b. foreign_refusal (is_foreign_to x l b.0 b.1)) offset
    (enumerate_from offset vas)) there)

-- the memories that a driver keeps
pub memory-bytes : (h : Holdings) (offset : ℕ) (vas : List ℕ) →
    judged (λ v. foreign_refusal (list_any (λ e. is_in_memory v (memory_of e.1)) (entries h.memories.map))) offset vas
    ≡ judged (λ v. foreign_refusal (is_memory_byte (ideal_of h) v)) offset vas
memory-bytes h offset vas =
    judged-alike (λ v. foreign_refusal (list_any (λ e. is_in_memory v (memory_of e.1)) (entries h.memories.map)))
    (λ v. foreign_refusal (is_memory_byte (ideal_of h) v))
    (λ v. ap foreign_refusal (sym (any-map_values memory_of (λ e. is_in_memory v e.1) h.memories.map))) offset vas
