-- The bytes of spans, and the spans of a bio.
use Rattle.std.specs.Prelude.{ℕ, List, [], ◌∷◌, ◌++◌, sum_by}
use Rattle.busdma_machine.specs.declared.machine.address.Span.{Span}
use Rattle.busdma_machine.specs.declared.machine.bio.Bio.{Bio}
use Rattle.busdma_machine.specs.declared.machine.bio.Bio.TheVariants.{Mapped, Vector, Unmapped}
use Rattle.busdma_machine.specs.Runs.{run_of}

-- how many bytes spans have together
abbrev pub span_bytes : List Span → ℕ
span_bytes spans = sum_by (λ s. s.len) spans

-- the virtual addresses of the bytes of spans, in order
abbrev pub span_addresses : List Span → List ℕ
span_addresses [] = []
span_addresses (s ∷ ss) = run_of s.va.0 s.len ++ span_addresses ss

-- the vector of one span
abbrev pub one_span : ℕ → ℕ → List Span
one_span va n = record { va = record { 0 = va }; len = n } ∷ []

-- the spans of a bio, in order; an unmapped bio has one span, which counts the bytes of its frames from `off` on
abbrev pub bio_spans : Bio → List Span
bio_spans (Mapped span) = span ∷ []
bio_spans (Vector spans) = spans
bio_spans (Unmapped frames off len) = one_span off len
