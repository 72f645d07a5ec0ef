-- Extents of a driver's own bytes.
use Rattle.std.proofs.Common.{◌≡◌, ℕ, ◌+◌, ◌-◌, ◌<◌, List, [], ◌∷◌, ◌++◌, IsSome, sym, ap, ◌∙◌, ◌≤◌, arith}
use Rattle.std.specs.FinMap.{get}
use Rattle.std.specs.List.{AllByRecursion}
use Rattle.busdma_machine.specs.declared.machine.address.Extent.{Extent}
use Rattle.busdma_machine.specs.Machine.Wire.{stretch}
use Rattle.busdma_machine.specs.Runs.{IsExtent, addresses, run_of}
use Rattle.busdma_rules.specs.declared.position.Position.{Position}
use Rattle.busdma_rules.specs.Lending.Loans.{addresses_of}
use Rattle.loan_table.specs.Table.{AreIn}
use Rattle.loan_table.proofs.Addresses.{AreIn-append}
use Rattle.loan_table.proofs.Pieces.{addresses_of-append, two_parts}
use Rattle.phys_memory.specs.Extents.{LiesInFrames}
use Rattle.phys_memory.specs.Frames.{Lie}
use Rattle.lane_state.specs.declared.holdings.Holdings.{Holdings}
use Rattle.lane_access.specs.Raw.{IsInFrame}
use Rattle.lane_state.specs.Wire.{IsWired}
use Rattle.lane_state.proofs.Devices.{own-low}
use Rattle.lane_access.proofs.RawJudging.{run-some}
use Rattle.lane_state.proofs.OwnBytes.{table-own}
use Rattle.lane_state.proofs.WireBytes.{in_frame}

-- a range of a load, followed directly by another one
pub load-more : (ps : List Position) (off at n : ℕ) → off ≤ at →
    addresses_of (stretch off (at - off) ps) ++ addresses_of (stretch at n ps)
    ≡ addresses_of (stretch off (at + n - off) ps)
load-more ps off at n h =
    let e : off + (at - off) ≡ at = omega (arith, h) in
    let k : at + n - (off + (at - off)) ≡ n = omega (arith, h) in
    sym (ap addresses_of (two_parts off (at - off) (at + n) ps (omega (arith, h)))
    ∙ addresses_of-append (stretch off (at - off) ps) (stretch (off + (at - off)) (at + n - (off + (at - off))) ps)
    ∙ ap (λ m. addresses_of (stretch off (at - off) ps) ++ addresses_of (stretch (off + (at - off)) m ps)) k
    ∙ ap (λ a. addresses_of (stretch off (at - off) ps) ++ addresses_of (stretch a n ps)) e)

module _ (h : Holdings) (wired : IsWired h) where
  first-of : (a n : ℕ) (rest : List ℕ) → 0 < n → AreIn h.loans.bytes (run_of a n ++ rest) → IsSome (get h.loans.bytes a)
  first-of a n rest some are =
      (AreIn-append h.loans.bytes (a ∷ []) (run_of (a + 1) (n - 1) ++ rest)
      (rw (run-some a n some) at are)).0.0

  -- extents that do not reach past their frames are in the driver's frames if it has their bytes
  pub lie-inside : (es : List Extent) → AllByRecursion IsInFrame es → AreIn h.loans.bytes (addresses es) →
      Lie h.memory.memory es
  lie-inside es framed are = record { extents = extents es framed are; frames = frames es framed are }
    where
      there : (e : Extent) (es : List Extent) → IsInFrame e → AreIn h.loans.bytes (addresses (e ∷ es)) →
          IsSome (get h.loans.bytes e.pa.0)
      there e es f are = first-of e.pa.0 e.len (addresses es) f.some are

      rest : (e : Extent) (es : List Extent) → AreIn h.loans.bytes (addresses (e ∷ es)) →
          AreIn h.loans.bytes (addresses es)
      rest e es are = (AreIn-append h.loans.bytes (run_of e.pa.0 e.len) (addresses es) are).1

      extents : (es : List Extent) → AllByRecursion IsInFrame es → AreIn h.loans.bytes (addresses es) →
          AllByRecursion IsExtent es
      extents [] framed are = tt
      extents (e ∷ es) framed are = (
        record {
          some = framed.0.some;
          in_frame = framed.0.in_frame;
          numbered = own-low h wired e.pa.0 (sym (table-own h e.pa.0) ∙ there e es framed.0 are);
        },
        extents es framed.1 (rest e es are),
      )

      frames : (es : List Extent) → AllByRecursion IsInFrame es → AreIn h.loans.bytes (addresses es) →
          AllByRecursion (LiesInFrames h.memory.memory) es
      frames [] framed are = tt
      frames (e ∷ es) framed are = (
        in_frame h.memory.memory h.loans.bytes e.pa.0 h.covered (there e es framed.0 are),
        frames es framed.1 (rest e es are),
      )
