-- Two digits for each byte, which are written from the front of a buffer on.
use Rattle.std.proofs.Common.{◌≡◌, ℕ, ◌+◌, ◌*◌, ◌/◌, ◌%◌, ◌<◌, false, List, [], ◌∷◌, ◌++◌, length, take, drop}
use Rattle.std.proofs.Common.{slice_index, slice_set, refl, arith}
use Rattle.std.proofs.lemmas.List.{append_assoc, append-nil, drop_all, drop_more, take_more_set, length-set}
use Rattle.std.specs.List.{flat_map}
use Rattle.std.specs.Fmt.{digit_glyph}
use Rattle.program_rules.specs.Reports.Answer.{byte_text}

-- two writes in a row, seen from the front
two_writes : (xs : List ℕ) (o x y : ℕ) → o + 1 < length xs
    → take (o + 2) (slice_set (slice_set xs o x) (o + 1) y) ≡ take o xs ++ (x ∷ y ∷ [])
two_writes xs o x y fits =
    let len : length (slice_set xs o x) ≡ length xs = length-set xs o x in
    let two : o + 2 ≡ o + 1 + 1 = omega arith in
    let second = take_more_set (slice_set xs o x) (o + 1) y (omega (arith, len)) in
    let first = take_more_set xs o x (omega arith) in
    rw (two, second, first) (append_assoc (take o xs) (x ∷ []) (y ∷ []))

-- one byte more is written
pub byte_step : (bytes buffer : List ℕ) (i x y : ℕ) → i < length bytes → 2 * i + 1 < length buffer
    → x ≡ digit_glyph false (slice_index bytes i / 16) → y ≡ digit_glyph false (slice_index bytes i % 16)
    → take (2 * i) buffer ++ flat_map byte_text (drop i bytes) ≡ flat_map byte_text bytes
    → take (2 * (i + 1)) (slice_set (slice_set buffer (2 * i) x) (2 * i + 1) y)
    ++ flat_map byte_text (drop (i + 1) bytes) ≡ flat_map byte_text bytes
byte_step bytes buffer i x y less fits first second so_far =
    let two : 2 * (i + 1) ≡ 2 * i + 2 = omega arith in
    let front = two_writes buffer (2 * i) x y fits in
    let rest : flat_map byte_text (drop i bytes)
    ≡ byte_text (slice_index bytes i) ++ flat_map byte_text (drop (i + 1) bytes) =
    rw (drop_more bytes i 0 less) refl in
    rw (two, front, append_assoc, first, second) (rw rest at so_far)

-- all bytes are written
pub bytes_done : (bytes buffer : List ℕ) (i : ℕ) → i ≡ length bytes
    → take (2 * i) buffer ++ flat_map byte_text (drop i bytes) ≡ flat_map byte_text bytes
    → take (2 * length bytes) buffer ≡ flat_map byte_text bytes
bytes_done bytes buffer i all so_far =
    let none = drop_all i bytes (omega (arith, all)) in
    rw (none, append-nil, all) at so_far
