use Rattle.std.proofs.Common.{◌≡◌, ◌-◌, ◌++◌, [], ◌∷◌, sym, ap, ◌∙◌, subst, arith}
use Rattle.std.specs.List.{AllByRecursion}
use Rattle.busdma_machine.specs.declared.name.MapId.{MapId}
use Rattle.busdma_machine.specs.Runs.{addresses, run_of}
use Rattle.busdma_rules.specs.Lending.Loans.{load_bytes, loan_of}
use Rattle.loan_table.proofs.Extending.{addresses-push}
use Rattle.lane_access.specs.Raw.{IsInFrame}
use Rattle.lane_access.proofs.OwnExtents.{load-more}
use Rattle.lane_access.proofs.RawRuns.{all-push}
use Rattle.lane_access.proofs.accesses.load_extents.Goals as goal

pub loop-at-preserved : goal.loop-at-preserved
loop-at-preserved c =
    let loans = c.args.holdings.now.loans.loans in
    let k = c.args.map in
    let at = c.loop-at.at in
    let part = c.extent-part.result in
    let items : c.push.new.self.items ≡ c.loop-at.parts.items ++ part ∷ [] = c.in_ok-push.ensures.items in
    let here : load_bytes loans k at part.len ≡ run_of part.pa.0 part.len =
    ap (λ (m : MapId). load_bytes loans m.made_at at part.len) (sym c.map_id-id.ensures)
    ∙ c.extent-part.ensures.bytes in
    record {
      from = omega arith;
      to = c.extent-part.ensures.within;
      bytes = ap addresses items ∙ addresses-push c.loop-at.parts.items part
          ∙ ap (λ xs. xs ++ run_of part.pa.0 part.len) c.loop-at.invariant.bytes
          ∙ ap (λ xs. load_bytes loans k c.args.off (at - c.args.off) ++ xs) (sym here)
          ∙ load-more (loan_of loans k).positions c.args.off at part.len c.loop-at.invariant.from;
      in_frames = subst (AllByRecursion IsInFrame) (sym items)
          (all-push IsInFrame c.loop-at.parts.items part c.loop-at.invariant.in_frames
          (record { some = c.extent-part.ensures.extent.some; in_frame = c.extent-part.ensures.extent.in_frame }));
    }
