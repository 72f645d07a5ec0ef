use Rattle.std.proofs.Common.{rules, ◌≡◌, ℕ, ◌<◌, [], ◌∷◌, ◌++◌, ◌∙◌, slice_index_or, w32, w64, refl}
use Rattle.std.specs.Int.{to_le_bytes}
use Rattle.std.proofs.lemmas.Nat.{le_bytes_4, le_bytes_8}
use Rattle.ring_device.proofs.Bytes.{sixteen, four_bytes, eight_bytes}
use Rattle.ring_device.proofs.descriptor.descriptor_of.Goals as goal

pub returns-clause-written_again : goal.returns-clause-written_again
returns-clause-written_again c =
    let b : ℕ → ℕ = λ i. slice_index_or c.args.bytes.now i 0 in
    let small : (i : ℕ) → b i < 256 = λ i. search (rules, c.fits-bytes) in
    let addr : to_le_bytes w64 c.from_le_bytes.result ≡ b 0 ∷ b 1 ∷ b 2 ∷ b 3 ∷ b 4 ∷ b 5 ∷ b 6 ∷ b 7 ∷ [] =
    le_bytes_8 _ _ refl
    (eight_bytes _ _ _ _ _ _ _ _ (small 0) (small 1) (small 2) (small 3) (small 4) (small 5) (small 6) (small 7))
    c.from_le_bytes.ensures in
    let len : to_le_bytes w32 c.from_le_bytes-2.result ≡ b 8 ∷ b 9 ∷ b 10 ∷ b 11 ∷ [] =
    le_bytes_4 _ _ refl (four_bytes _ _ _ _ (small 8) (small 9) (small 10) (small 11)) c.from_le_bytes-2.ensures in
    (λ i. addr i ++ len i ++ b 12 ∷ b 13 ∷ b 14 ∷ b 15 ∷ []) ∙ sixteen c.args.bytes.now (search rules)
