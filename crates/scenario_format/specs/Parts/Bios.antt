-- Bios, of three kinds: one range of virtual bytes, spans, or frames of the driver's pages.
use Rattle.std.specs.Prelude.{ℕ, List, [], ◌∷◌, Option, Some, None, Ok, if◌then◌else◌, nat_lt, codes}
use Rattle.std.specs.Str.{bytes_eq}
use Rattle.busdma_machine.specs.declared.machine.bio.Bio.{Bio}
use Rattle.busdma_machine.specs.declared.machine.bio.Bio.TheVariants as bio
use Rattle.busdma_base.specs.declared.scenarios.scenario.PageRun.{PageRun}
use Rattle.busdma_base.specs.Scenarios.PageRuns.{has_frame}
use Rattle.scenario_format.specs.Json.DocumentPlaces.{DocumentPlace, key}
use Rattle.scenario_format.specs.Json.Read.{Read, ◌>>=◌, refuse}
use Rattle.scenario_format.specs.Json.Field.{Spot, members_of, required, only_keys, one_of}
use Rattle.scenario_format.specs.Json.Number.{read_number, number_field}
use Rattle.scenario_format.specs.Json.Text.{read_text}
use Rattle.scenario_format.specs.Json.Items.{each}
use Rattle.scenario_format.specs.declared.refusal.RefusalKind.TheVariants.{BadField, FrameAbsent}
use Rattle.scenario_format.specs.declared.bio_kind.BioKind.{BioKind}
use Rattle.scenario_format.specs.declared.bio_kind.BioKind.TheVariants as kind
use Rattle.scenario_format.specs.Parts.Spans.{read_entries, entries_field, read_span_fields}

-- a frame that is not of the driver's pages is refused
abbrev pub own_or : List PageRun → DocumentPlace → ℕ → Read ℕ
own_or pages place frame = if has_frame pages frame then Ok frame else refuse FrameAbsent place

-- a frame of the driver's pages
unfoldable pub read_bio_frame : List PageRun → Spot → Read ℕ
read_bio_frame pages here = read_number here >>= own_or pages here.place

-- the list of frames
unfoldable pub read_bio_frames : List PageRun → Spot → Read (List ℕ)
read_bio_frames pages here = read_entries here >>= each (λ _. read_bio_frame pages) here []

-- the list in `frames`; a missing one is refused
unfoldable pub read_bio_frames_field : List PageRun → Spot → Read (List ℕ)
read_bio_frames_field pages here = required (codes "frames") here >>= read_bio_frames pages

-- an offset below 4096, the bytes of a frame
abbrev pub off_or : DocumentPlace → ℕ → Read ℕ
off_or place n = if nat_lt n 4096 then Ok n else refuse BadField place

-- the offset in its first frame at which a bio begins
unfoldable pub read_off : Spot → Read ℕ
read_off here = number_field (codes "off") here >>= off_or (key here.place (codes "off"))

-- the kind of bio that a word names
abbrev pub kind_of : List ℕ → Option BioKind
kind_of word =
    if bytes_eq word (codes "mapped") then Some kind.Mapped
    else (if bytes_eq word (codes "vector") then Some kind.Vector
    else (if bytes_eq word (codes "unmapped") then Some kind.Unmapped
    else None))

-- a kind of bio; a word that names none is refused
abbrev pub known_kind : DocumentPlace → Option BioKind → Read BioKind
known_kind place None = refuse BadField place
known_kind place (Some k) = Ok k

-- the kind of a bio
unfoldable pub read_bio_kind : Spot → Read BioKind
read_bio_kind here =
    required (codes "kind") here >>= read_text >>= (λ word. known_kind (key here.place (codes "kind")) (kind_of word))

-- a bio of one range of virtual bytes
unfoldable pub read_mapped : Spot → Read Bio
read_mapped here =
    only_keys (one_of (codes "kind" ∷ codes "va" ∷ codes "len" ∷ [])) here >>= (λ _.
    read_span_fields here >>= (λ span.
    Ok (bio.Mapped span)))

-- a bio of spans
unfoldable pub read_vector : Spot → Read Bio
read_vector here =
    only_keys (one_of (codes "kind" ∷ codes "entries" ∷ [])) here >>= (λ _.
    entries_field here >>= (λ spans.
    Ok (bio.Vector spans)))

-- a bio of frames
unfoldable pub read_unmapped : List PageRun → Spot → Read Bio
read_unmapped pages here =
    only_keys (one_of (codes "kind" ∷ codes "frames" ∷ codes "off" ∷ codes "len" ∷ [])) here >>= (λ _.
    read_bio_frames_field pages here >>= (λ frames.
    read_off here >>= (λ off.
    number_field (codes "len") here >>= (λ n.
    Ok (bio.Unmapped frames off n)))))

-- the bio of this kind
abbrev pub bio_by : BioKind → List PageRun → Spot → Read Bio
bio_by kind.Mapped pages here = read_mapped here
bio_by kind.Vector pages here = read_vector here
bio_by kind.Unmapped pages here = read_unmapped pages here

-- a bio is an object, and its kind is read before its keys are tested
unfoldable pub read_bio : List PageRun → Spot → Read Bio
read_bio pages here = members_of here >>= (λ _. read_bio_kind here >>= (λ k. bio_by k pages here))

-- the bio in `bio`; a missing one is refused
unfoldable pub bio_field : List PageRun → Spot → Read Bio
bio_field pages here = required (codes "bio") here >>= read_bio pages
