-- Which share is a zone's.
use Rattle.std.specs.Prelude.{ℕ, suc, ◌==◌, List, [], ◌∷◌, if◌then◌else◌}
use Rattle.lane_state.specs.declared.kept.KeptShare.{KeptShare}

-- the index of the first share of a zone, or the number of shares if the zone has none
abbrev pub share_place : ℕ → List KeptShare → ℕ
share_place z [] = 0
share_place z (s ∷ shares) = if z == s.zone.0 then 0 else suc (share_place z shares)
