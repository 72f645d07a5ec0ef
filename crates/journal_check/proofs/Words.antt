-- A number before a byte that is no digit.
use Rattle.std.proofs.Common.{◌≡◌, ℕ, ◌<◌, ◌≤◌, ◌==◌, List, ◌∷◌, ◌++◌, length, take, Some, true, false, refl, sym, ap}
use Rattle.std.proofs.Common.{◌∙◌, arith}
use Rattle.std.proofs.lemmas.List.{take_at}
use Rattle.std.proofs.lemmas.Option.{same_Some}
use Rattle.std.specs.Fmt.{decimal}
use Rattle.std.specs.List.{position}
use Rattle.journal_check.proofs.Digits.{digits-high, lower}
use Rattle.journal_check.proofs.FirstLine.{word-end}
use Rattle.journal_check.proofs.Lines.{over}

pub number-high : (end n : ℕ) → end < 48 → over end (decimal n) ≡ true
number-high end n low = lower end 47 (decimal n) (omega (arith, low)) (digits-high 10 false n)

-- the byte after a number is the first of its kind
pub number-there : (text rest : List ℕ) (end n : ℕ) → end < 48 → text ≡ decimal n ++ end ∷ rest →
    position (λ b. b == end) text ≡ Some (length (decimal n))
number-there text rest end n low is = word-end end text (decimal n) rest (number-high end n low) is

-- the bytes before it are the number
pub number-word : (text front rest : List ℕ) (end n at : ℕ) → end < 48 → front ≡ take at text →
    position (λ b. b == end) text ≡ Some at → text ≡ decimal n ++ end ∷ rest → front ≡ decimal n
number-word text front rest end n at low is found h =
    let same : at ≡ length (decimal n) =
    same_Some at (length (decimal n)) (sym found ∙ number-there text rest end n low h) in
    is ∙ (ap (take at) h ∙ take_at (decimal n) (end ∷ rest) at (sym same))
