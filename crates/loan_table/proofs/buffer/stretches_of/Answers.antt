use Rattle.std.proofs.Common.{◌≡◌, ◌++◌, ◌∷◌, [], slice_index_or, subst, ap, sym, ◌∙◌}
use Rattle.std.specs.List.{All}
use Rattle.std.proofs.lemmas.List.{at_drop_more, at_drop_all}
use Rattle.std.proofs.lemmas.List.Elements.{All-append, All-cons, All-nil, All-get_or, All-head, All-rest}
use Rattle.busdma_machine.specs.Runs.{addresses, run_of}
use Rattle.loan_table.specs.Ends.{Ends}
use Rattle.loan_table.proofs.Addresses.{no_extent}
use Rattle.loan_table.proofs.Extending.{ends}
use Rattle.loan_table.proofs.Stretches.{stretch_begins, stretch_joins}
use Rattle.loan_table.proofs.buffer.stretches_of.Goals as goal
use Rattle.loan_table.proofs.buffer.stretches_of.Goals.{then-not-join+in_ok-push, else-not-join}

pub loop-extent-init : goal.loop-extent-init
loop-extent-init c =
    let first = c.in-Some.first.now in
    let rest = c.in-Some.rest.now in
    let cases = c.in-Some.ensures.cases in
    let all : c.args.extents.now ≡ first ∷ rest = cases.0 in
    record {
      bytes = ap (λ xs. addresses xs ++ (run_of first.pa.0 first.len ++ addresses rest)) c.clear.ensures.items
          ∙ sym (ap addresses all);
      ends = subst (All Ends) (sym c.clear.ensures.items) (All-nil Ends);
      here = All-head Ends first rest (subst (All Ends) all c.requires);
      later = All-rest Ends first rest c.args.extents.now all c.requires;
    }

pub loop-extent-preserved : goal.loop-extent-preserved
loop-extent-preserved c =
    let t = c.loop-extent in
    let rest = c.in-Some.rest.now in
    let i = t.extent-index in
    let e = slice_index_or rest i no_extent in
    let first = at_drop_more addresses rest i no_extent c.loop-extent-test.true in
    elim c.if-not-join.branch [
      | then-not-join+in_ok-push w ↦
          let same = c.join.ensures.apart w.if-not-join.true in
          let pushed : w.push.new.self.items ≡ t.stretches.items ++ t.run ∷ [] =
          w.in_ok-push.ensures.items ∙ ap (λ r. t.stretches.items ++ r ∷ []) same in
          record {
            bytes = rw (w.stretches-is, w.run-is)
                (stretch_begins t.stretches.items t.run e _ _ _ first t.invariant.bytes
                _ pushed);
            ends = rw w.stretches-is (subst (All Ends) (sym pushed) (All-append Ends t.stretches.items (t.run ∷ [])
                t.invariant.ends (All-cons Ends t.run [] t.invariant.here (All-nil Ends))));
            here = rw w.run-is (All-get_or Ends rest i no_extent c.loop-extent-test.true t.invariant.later);
            later = t.invariant.later;
          }
      | else-not-join w ↦ record {
        bytes = rw (w.stretches-is, w.run-is) (stretch_joins t.stretches.items t.run e _ _ _ first t.invariant.bytes
            c.join.new.run (c.join.ensures.joined w.if-not-join.false));
        ends = rw w.stretches-is t.invariant.ends;
        here = rw w.run-is c.join.ensures.ends;
        later = t.invariant.later;
      }
    ]

pub returns-clause-bytes : goal.returns-clause-bytes
returns-clause-bytes c =
    ends c.loop-extent.stretches.items _ c.loop-extent.run _ _ c.in_ok-push-2.ensures.items
    (at_drop_all addresses c.in-Some.rest.now c.loop-extent.extent-index c.loop-extent-test.false)
    c.loop-extent.invariant.bytes
