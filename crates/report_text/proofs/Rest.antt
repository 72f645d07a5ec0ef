-- The rest of a list of things whose texts are written one after the other.
use Rattle.std.proofs.Common.{◌≡◌, ℕ, ◌+◌, suc, ◌<◌, ◌≤◌, List, [], ◌∷◌, ◌++◌, length, get_or, drop, codes, Bool, true}
use Rattle.std.proofs.Common.{false}
use Rattle.std.proofs.Common.{◌==◌, refl, sym, ap, ◌∙◌, add-one, drop-cons}
use Rattle.std.proofs.Math.Dec.{eqb-suc-zero}
use Rattle.std.proofs.Math.ListN.{drop_of_length-le}
use Rattle.std.specs.List.{flat_map}
use Rattle.scenario_format.specs.Json.RefusalText.{behind_space}
use Rattle.program_rules.specs.Reports.Text.{numbered}
use Rattle.program_rules.specs.Reports.Answer.{byte_text, bytes_text}

module _ {A : Type 0} where
  -- the text of the next thing, and the texts of the rest
  pub flat_next : (text : A → List ℕ) (xs : List A) (i : ℕ) (x d : A) → i < length xs → x ≡ get_or xs i d
      → text x ++ flat_map text (drop (i + 1) xs) ≡ flat_map text (drop i xs)
  flat_next text xs i x d less is =
      rw add-one (sym (ap (flat_map text) (drop-cons xs i d less)
      ∙ ap (λ y. text y ++ flat_map text (drop (suc i) xs)) (sym is)))

  pub numbered_next : (text : ℕ → A → List ℕ) (xs : List A) (i : ℕ) (x d : A) → i < length xs → x ≡ get_or xs i d
      → text i x ++ numbered text (i + 1) (drop (i + 1) xs) ≡ numbered text i (drop i xs)
  numbered_next text xs i x d less is =
      sym (ap (numbered text i) (drop-cons xs i d less)
      ∙ ap (λ y. text i y ++ numbered text (i + 1) (drop (suc i) xs)) (sym is)
      ∙ ap (λ j. text i x ++ numbered text (i + 1) (drop j xs)) (sym (add-one i)))

  -- at the end of the list, the rest has no text
  pub flat_end : (text : A → List ℕ) (xs : List A) (i : ℕ) → length xs ≤ i → [] ≡ flat_map text (drop i xs)
  flat_end text xs i over = rw (drop_of_length-le xs over) refl

  pub numbered_end : (text : ℕ → A → List ℕ) (xs : List A) (i : ℕ) → length xs ≤ i
      → [] ≡ numbered text i (drop i xs)
  numbered_end text xs i over = rw (drop_of_length-le xs over) refl

-- no byte has no text
pub no_bytes : (bytes : List ℕ) (none : Bool) → none ≡ (length bytes == 0) → none ≡ true → [] ≡ bytes_text bytes
no_bytes [] none is holds = refl
no_bytes (byte ∷ bytes) none is holds = absurd (cc (is, holds, eqb-suc-zero (length bytes)))

pub some_bytes : (bytes : List ℕ) (none : Bool) → none ≡ (length bytes == 0) → none ≡ false
    → codes " " ++ flat_map byte_text bytes ≡ bytes_text bytes
some_bytes [] none is fails = absurd (cc (is, fails))
some_bytes (byte ∷ bytes) none is fails = refl

-- an empty path has no text
pub no_path : (path : List ℕ) (none : Bool) → none ≡ (length path == 0) → none ≡ true → [] ≡ behind_space path
no_path [] none is holds = refl
no_path (byte ∷ bytes) none is holds = absurd (cc (is, holds, eqb-suc-zero (length bytes)))

pub some_path : (path : List ℕ) (none : Bool) → none ≡ (length path == 0) → none ≡ false
    → codes " " ++ path ≡ behind_space path
some_path [] none is fails = absurd (cc (is, fails))
some_path (byte ∷ bytes) none is fails = refl
