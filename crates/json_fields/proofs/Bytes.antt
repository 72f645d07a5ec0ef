-- Bytes that are read from two digits each.
use Rattle.std.proofs.Common.{◌≡◌, ℕ, suc, ◌<◌, ◌+◌, ◌*◌, List, [], ◌∷◌, ◌++◌, length, get_or, drop, Option, Some}
use Rattle.std.proofs.Common.{None, option_map, refl, arith, append_assoc, ap, ◌∙◌}
use Rattle.std.proofs.Math.Seq.{drop-cons}
use Rattle.scenario_format.specs.Json.Text.{hex_byte, hex_bytes}

more_behind : (out : List ℕ) (x : ℕ) (r : Option (List ℕ))
    → option_map (λ ys. (out ++ x ∷ []) ++ ys) r ≡ option_map (λ ys. out ++ ys) (option_map (λ ys. x ∷ ys) r)
more_behind out x None = refl
more_behind out x (Some ys) = ap Some (append_assoc out (x ∷ []) ys)

pair_at : (s : List ℕ) (i : ℕ) → 2 * i + 1 < length s →
    drop (2 * i) s ≡ get_or s (2 * i) 0 ∷ get_or s (2 * i + 1) 0 ∷ drop (2 * (i + 1)) s
pair_at s i h =
    let a : drop (2 * i) s ≡ get_or s (2 * i) 0 ∷ drop (suc (2 * i)) s = drop-cons s (2 * i) 0 (omega arith) in
    let b : drop (2 * i + 1) s ≡ get_or s (2 * i + 1) 0 ∷ drop (suc (2 * i + 1)) s =
    drop-cons s (2 * i + 1) 0 (omega arith) in
    let e : suc (2 * i) ≡ 2 * i + 1 = omega arith in
    let f : suc (2 * i + 1) ≡ 2 * (i + 1) = omega arith in
    a ∙ ap (λ n. get_or s (2 * i) 0 ∷ drop n s) e
    ∙ ap (λ d. get_or s (2 * i) 0 ∷ d) (b ∙ ap (λ n. get_or s (2 * i + 1) 0 ∷ drop n s) f)

pub hex_bytes-more : (out s : List ℕ) (i x : ℕ) → 2 * i + 1 < length s →
    hex_byte (get_or s (2 * i) 0) (get_or s (2 * i + 1) 0) ≡ Some x
    → option_map (λ ys. (out ++ x ∷ []) ++ ys) (hex_bytes (drop (2 * (i + 1)) s))
    ≡ option_map (λ ys. out ++ ys) (hex_bytes (drop (2 * i) s))
hex_bytes-more out s i x h e = rw (pair_at s i h, e) (more_behind out x (hex_bytes (drop (2 * (i + 1)) s)))

pub hex_bytes-one : (s : List ℕ) → length s ≡ 1 → hex_bytes s ≡ None
hex_bytes-one [] h = absurd (omega arith)
hex_bytes-one (a ∷ []) h = refl
hex_bytes-one (a ∷ b ∷ s) h = absurd (omega arith)
