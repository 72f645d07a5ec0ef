-- Clusters of a send, by the bounds of its chain.
use Rattle.std.specs.Prelude.{◌≡◌, ℕ, ◌+◌, ◌%◌, ◌≤◌, ◌||◌, Bool, false, List, nat_le}
use Rattle.std.specs.List.{list_any}
use Rattle.busdma_machine.specs.declared.machine.address.Span.{Span}
use Rattle.busdma_machine.specs.declared.machine.address.Va.{Va}
use Rattle.script_read.specs.declared.sends.Bounds.{Bounds}
use Rattle.scenario_format.specs.Scripts.Sends.{shares, is_cluster}

-- the bytes of a span lie between two addresses
pub record LiesBetween (bounds : Bounds) (s : Span) : Type 0 where
  pub from : bounds.first ≤ s.va.0
  pub to : s.va.0 + s.len ≤ bounds.end

-- a cluster at this address is outside the bounds of a chain
abbrev pub is_beside : ℕ → Bounds → Bool
is_beside va bounds = nat_le (va + 4096) bounds.first || nat_le bounds.end va

-- a cluster is at this address or below it
abbrev pub IsUpTo : ℕ → Va → Type 0
IsUpTo highest c = c.0 ≤ highest

-- a cluster of a send of this chain, after the clusters before it: it begins a virtual page, is none of
-- those, and has no byte of the chain
pub record IsClusterOf (chain : List Span) (before : List Va) (c : Va) : Type 0 where
  pub whole : c.0 % 4096 ≡ 0
  pub fresh : list_any (is_cluster c.0) before ≡ false
  pub apart : list_any (shares c.0) chain ≡ false
