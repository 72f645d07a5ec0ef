-- Translations that keep pages: the bytes of a page lie in order in one frame.
use Rattle.std.proofs.Common.{◌≡◌, ℕ, ◌+◌, ◌%◌, ◌^◌, ◌<◌, ◌≢◌}
use Rattle.std.specs.Prelude.{Some}
use Rattle.busdma_rules.specs.Memory.Translation.{Translation}

-- a byte has the same place in its page and in its frame
abbrev pub KeepsPlaces : Translation → Type 0
KeepsPlaces t = (va p : ℕ) → t va ≡ Some p → p % 4096 ≡ va % 4096

-- each byte keeps its place, and lies below 2^42 at an address with this property; bytes of a page follow one another
pub record IsPaged (Has : ℕ → Type 0) (t : Translation) : Type 0 where
  pub places : KeepsPlaces t
  pub next : (va p q : ℕ) → t va ≡ Some p → t (va + 1) ≡ Some q → (va + 1) % 4096 ≢ 0 → q ≡ p + 1
  pub low : (va p : ℕ) → t va ≡ Some p → p < 2 ^ 42
  pub has : (va p : ℕ) → t va ≡ Some p → Has p
