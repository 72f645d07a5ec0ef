use Rattle.std.proofs.Common.{ap, sym, ◌∙◌}
use Rattle.std.specs.FinMap.{get}
use Rattle.busdma_machine.specs.declared.name.MapId.{MapId}
use Rattle.busdma_rules.specs.Lending.Access.{dev_read_answer}
use Rattle.busdma_rules.specs.Lending.Loans.{loan_of}
use Rattle.loan_table.specs.Table.{is_marked_known}
use Rattle.lane_state.specs.Held.{devices_of}
use Rattle.lane_state.specs.Ideal.{ideal_of}
use Rattle.lane_state.specs.Kept.{map_of}
use Rattle.lane_state.proofs.MapValues.{image-some}
use Rattle.lane_state.proofs.Reading.{known-held}
use Rattle.lane_access.proofs.DeviceReads.{load-there}
use Rattle.lane_rings.proofs.RingSteps.{unread-past, unread-refused, unread-unloaded}
use Rattle.lane_rings.proofs.rings.unread.Goals as goal

pub returns-in-Some-clause-refused : goal.returns-in-Some-clause-refused
returns-in-Some-clause-refused c =
    unread-unloaded (ideal_of c.args.holdings.now) c.args.map c.args.off c.args.len c.in-Some.refusal
    c.in-Some.ensures.refused

pub returns-in-Some-past_end-clause-refused : goal.returns-in-Some-past_end-clause-refused
returns-in-Some-past_end-clause-refused c =
    let h = c.args.holdings.now in
    let x = load-there (get h.maps.map c.args.map) c.in_default.ensures.loaded in
    unread-past (ideal_of h) c.args.map c.args.off c.args.len (map_of x.0)
    (image-some map_of h.maps.map c.args.map x.0 x.1) x.2 c.in-Some-past_end.refusal c.in-Some-past_end.ensures.refused

pub returns-in-Refused-clause-refused : goal.returns-in-Refused-clause-refused
returns-in-Refused-clause-refused c =
    let h = c.args.holdings.now in
    let x = load-there (get h.maps.map c.args.map) c.in_default.ensures.loaded in
    unread-refused (ideal_of h) c.args.map c.args.off c.args.len (map_of x.0)
    (image-some map_of h.maps.map c.args.map x.0 x.1) x.2 c.in_default-past_end.ensures.range c.in-Refused.refusal
    (sym c.in-Refused.is ∙ c.may_dev_read.ensures
    ∙ ap (λ (m : MapId). dev_read_answer (is_marked_known h.loans) (loan_of h.loans.loans m.made_at) c.args.off
    c.args.len)
    c.map_id.ensures
    ∙ ap (λ f. dev_read_answer f (loan_of h.loans.loans c.args.map) c.args.off c.args.len)
    (sym (known-held h.loans.bytes h.loans.loans (devices_of h.maps.map) h.memory.memory)))

pub returns-in-Fine-clause-readable : goal.returns-in-Fine-clause-readable
returns-in-Fine-clause-readable c =
    let h = c.args.holdings.now in
    let x = load-there (get h.maps.map c.args.map) c.in_default.ensures.loaded in
    record {
      map = map_of x.0;
      there = image-some map_of h.maps.map c.args.map x.0 x.1;
      loaded = x.2;
      range = c.in_default-past_end.ensures.range;
      fine = sym (sym c.in-Fine.is ∙ c.may_dev_read.ensures
          ∙ ap (λ (m : MapId). dev_read_answer (is_marked_known h.loans) (loan_of h.loans.loans m.made_at) c.args.off
          c.args.len)
          c.map_id.ensures
          ∙ ap (λ f. dev_read_answer f (loan_of h.loans.loans c.args.map) c.args.off c.args.len)
          (sym (known-held h.loans.bytes h.loans.loans (devices_of h.maps.map) h.memory.memory)));
    }
