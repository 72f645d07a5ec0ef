-- The keys of an object, one after another.
use Rattle.std.proofs.Common.{◌≡◌, List, ◌∷◌, ℕ, Bool, true, false, string_bytes, Some, refl}
use Rattle.serde_json.specs.View.{members_view}
use Rattle.serde_json.proofs.Views.{Entry}
use Rattle.scenario_format.specs.Json.Field.{unknown_key}

pub known_first : (known : List ℕ → Bool) (e : Entry) (es rest : List Entry)
    → es ≡ e ∷ rest → known (string_bytes e.0) ≡ true →
    unknown_key known (members_view rest) ≡ unknown_key known (members_view es)
known_first known e es rest is h = rw (is, h) refl

pub unknown_first : (known : List ℕ → Bool) (e : Entry) (es rest : List Entry)
    → es ≡ e ∷ rest → known (string_bytes e.0) ≡ false → Some (string_bytes e.0) ≡ unknown_key known (members_view es)
unknown_first known e es rest is h = rw (is, h) refl
