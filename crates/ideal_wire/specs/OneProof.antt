-- What a driver keeps of its wire has at most one proof, so that a lane can keep it.
use Rattle.std.proofs.Common.{◌≡◌, ◌<◌, ℕ, ◌+◌, ◌-◌, ◌^◌, List, [], ◌∷◌, ◌++◌, drop, inl, inr, sym, ◌∙◌, arith}
use Rattle.std.specs.Prelude.{IfSome, Option, Some, None}
use Rattle.std.proofs.lemmas.Bool.{cases_lt}
use Rattle.std.proofs.Math.Pow.{pow-lt}
use Rattle.std.specs.Int.{IsPowerOfTwo}
use Rattle.std.specs.Coded.{×_prop, Unit-prop}
use Rattle.std.specs.List.{AllByRecursion-prop, AllZip}
use mathlib.Core.HLevel.{Σ_prop_path}
use mathlib.Core.List.{is_set}
use base.Stored.{Coded-set}
use denote.Struct.Props.{props}
use Rattle.busdma_machine.specs.contracts.machine.bio.Bio as bios
use Rattle.busdma_machine.specs.declared.machine.bio.Bio.{Bio}
use Rattle.busdma_machine.specs.declared.machine.bio.Bio.TheVariants as bio
use Rattle.busdma_machine.specs.declared.machine.chunk.Chunk.{Chunk}
use Rattle.busdma_machine.specs.contracts.report.Judged as judged
use Rattle.busdma_machine.specs.declared.report.Judged.{Judged}
use Rattle.busdma_machine.specs.declared.machine.address.Segment.{Segment}
use Rattle.busdma_machine.specs.declared.machine.address.Span.{Span}
use Rattle.busdma_machine.specs.Each.{EachAfter}
use Rattle.busdma_base.specs.declared.scenarios.buffer.Buffer.{Buffer}
use Rattle.busdma_base.specs.declared.scenarios.buffer.Buffer.TheVariants as buffer
use Rattle.busdma_base.specs.declared.scenarios.scenario.PageRun.{PageRun}
use Rattle.busdma_base.specs.declared.scenarios.script.Op.{Op}
use Rattle.busdma_machine.specs.declared.tags.tag.TagLimits.{TagLimits}
use Rattle.busdma_machine.specs.Tags.Tag.{IsEffective}
use Rattle.busdma_machine.specs.Machine.Wire.{Placed, Wire}
use Rattle.busdma_base.specs.Scenarios.Buffers.{AreClustersFor, HasClusters, IsBioOf, IsBufferOf}
use Rattle.busdma_base.specs.Scenarios.Operations.{about}
use Rattle.busdma_base.specs.Scenarios.Valid.{LoadsFrom}
use Rattle.busdma_rules.specs.contracts.position.Position as position
use Rattle.busdma_rules.specs.Lending.Loans.{Loan}
use Rattle.busdma_rules.specs.Syncs.ChunkTraces.{HasChunk, HasChunks}
use Rattle.busdma_rules.specs.Segments.Trace.{chunk_len}
use Rattle.ideal_lane.specs.State.{LaneState, Stage, Idle, Waiting, Loaded, Returning}
use Rattle.ideal_wire.specs.Answered.{Load}
use Rattle.ideal_wire.specs.Apart.{IsApart}
use Rattle.ideal_wire.specs.Centre.{IsFaithful}
use Rattle.ideal_wire.specs.Laid.{AreLaid, IsLaid, LiesIn}
use Rattle.ideal_wire.specs.Machine.{IsInMachine}

Placed-set : IsSet Placed
Placed-set = hlevel (props, AllByRecursion-prop)

Loan-set : IsSet Loan
Loan-set = hlevel (props, is_set, Coded-set position.the_row.coded)

zip-prop : {A B : Type 0} (R : A → B → Type 0) → ((x : A) (y : B) → IsProp (R x y)) → (xs : List A) (ys : List B) →
    IsProp (AllZip R xs ys)
zip-prop R each [] [] = Unit-prop
zip-prop R each [] (y ∷ ys) = λ p q. absurd p
zip-prop R each (x ∷ xs) [] = λ p q. absurd p
zip-prop R each (x ∷ xs) (y ∷ ys) = ×_prop (each x y) (zip-prop R each xs ys)

HasChunk-prop : (place : ℕ) (ps : List Placed) (c : Chunk) → IsProp (HasChunk place ps c)
HasChunk-prop place ps c = hlevel (props, AllByRecursion-prop, is_set, Placed-set)

HasChunks-prop : (place : ℕ) (ps : List Placed) (cs : List Chunk) → IsProp (HasChunks place ps cs)
HasChunks-prop place ps [] = hlevel (props, AllByRecursion-prop)
HasChunks-prop place ps (c ∷ cs) =
    ×_prop (HasChunk-prop place ps c)
    (HasChunks-prop (c.at + chunk_len c) (drop (c.at + chunk_len c - place) ps) cs)

pub IsBioOf-prop : (pages : List PageRun) (b : Bio) → IsProp (IsBioOf pages b)
IsBioOf-prop pages (bio.Mapped span) = Unit-prop
IsBioOf-prop pages (bio.Vector spans) = Unit-prop
IsBioOf-prop pages (bio.Unmapped frames off len) = hlevel (props, AllByRecursion-prop)

Load-set : IsSet Load
Load-set = hlevel (props, Coded-set bios.the_row.coded)

IsLaid-prop : (l : LaneState) (m : ℕ) (cs : List Chunk) (ss : List Segment) (ps : List ℕ) → IsProp
    (IsLaid l m cs ss ps)
IsLaid-prop l m cs ss ps = hlevel (props, AllByRecursion-prop, zip-prop, HasChunks-prop, is_set)

LiesIn-prop : (l : LaneState) (m : ℕ) (s : Stage) → IsProp (LiesIn l m s)
LiesIn-prop l m Idle = Loan-set _ _
LiesIn-prop l m (Waiting w) =
    hlevel (props, Loan-set, IsBioOf-prop, Load-set, AllByRecursion-prop)
LiesIn-prop l m (Loaded bounced segments pages) = IsLaid-prop l m bounced segments pages
LiesIn-prop l m Returning = Loan-set _ _

pub AreLaid-prop : (l : LaneState) → IsProp (AreLaid l)
AreLaid-prop l = hlevel (props, LiesIn-prop)

pub IsApart-prop : (l : LaneState) → IsProp (IsApart l)
IsApart-prop l = hlevel (props, AllByRecursion-prop)

pub IsFaithful-prop : (l : LaneState) (w : Wire) → IsProp (IsFaithful l w)
IsFaithful-prop l w = hlevel (props, AllByRecursion-prop)

-- a number is a power of two by one exponent only
one-power : (i j : ℕ) → 2 ^ i ≡ 2 ^ j → i ≡ j
one-power i j same = elim (cases_lt i j) as (λ _. i ≡ j) [
  | inl less ↦ let off : 2 ^ i < 2 ^ j = pow-lt less in absurd (omega (arith, off, same))
  | inr most ↦ elim (cases_lt j i) as (λ _. i ≡ j) [
    | inl more ↦ let off : 2 ^ j < 2 ^ i = pow-lt more in absurd (omega (arith, off, same))
    | inr least ↦ omega (arith, most, least)
  ]
]

IsPowerOfTwo-prop : (n : ℕ) → IsProp (IsPowerOfTwo n)
IsPowerOfTwo-prop n x y =
    Σ_prop_path (λ (k : ℕ). let one : IsProp (n ≡ 2 ^ k) = hlevel (props) in one)
    (one-power x.0 y.0 (sym x.1 ∙ y.1))

IsEffective-prop : (t : TagLimits) → IsProp (IsEffective t)
IsEffective-prop t = hlevel (props, IsPowerOfTwo-prop)

IsBufferOf-prop : (pages : List PageRun) (x : Buffer) → IsProp (IsBufferOf pages x)
IsBufferOf-prop pages (buffer.Flat place len) = Unit-prop
IsBufferOf-prop pages (buffer.Vector spans) = Unit-prop
IsBufferOf-prop pages (buffer.Mbuf chain) = Unit-prop
IsBufferOf-prop pages (buffer.Bio b) = IsBioOf-prop pages b
IsBufferOf-prop pages (buffer.Send chain clusters) = Unit-prop

loads-prop : (pages : List PageRun) (x : Option Buffer) → IsProp (IfSome x (IsBufferOf pages))
loads-prop pages None = hlevel (props)
loads-prop pages (Some x) = IsBufferOf-prop pages x

LoadsFrom-prop : (pages : List PageRun) (o : Op) → IsProp (LoadsFrom pages o)
LoadsFrom-prop pages o = loads-prop pages (about o).loads

after-prop : {A : Type 0} (P : List A → A → Type 0) → ((before : List A) (x : A) → IsProp (P before x)) →
    (before xs : List A) → IsProp (EachAfter P before xs)
after-prop P each before [] = Unit-prop
after-prop P each before (x ∷ xs) = ×_prop (each before x) (after-prop P each (before ++ x ∷ []) xs)

AreClustersFor-prop : (chain spans : List Span) → IsProp (AreClustersFor chain spans)
AreClustersFor-prop chain spans = hlevel (props, AllByRecursion-prop, after-prop)

some-clusters-prop : (chain : List Span) (x : Option (List Span)) → IsProp (IfSome x (AreClustersFor chain))
some-clusters-prop chain None = hlevel (props)
some-clusters-prop chain (Some spans) = AreClustersFor-prop chain spans

HasClusters-prop : (x : Buffer) → IsProp (HasClusters x)
HasClusters-prop (buffer.Flat place len) = Unit-prop
HasClusters-prop (buffer.Vector spans) = Unit-prop
HasClusters-prop (buffer.Mbuf chain) = Unit-prop
HasClusters-prop (buffer.Bio b) = Unit-prop
HasClusters-prop (buffer.Send chain clusters) = some-clusters-prop chain clusters

of-buffer-prop : (x : Option Buffer) → IsProp (IfSome x HasClusters)
of-buffer-prop None = hlevel (props)
of-buffer-prop (Some x) = HasClusters-prop x

of-op-prop : (o : Op) → IsProp (IfSome (about o).loads HasClusters)
of-op-prop o = of-buffer-prop (about o).loads

Judged-set : IsSet Judged
Judged-set = Coded-set judged.the_row.coded

pub IsInMachine-prop : (l : LaneState) → IsProp (IsInMachine l)
IsInMachine-prop l =
    hlevel (props, AllByRecursion-prop, IsEffective-prop, LoadsFrom-prop, of-op-prop, Judged-set)
