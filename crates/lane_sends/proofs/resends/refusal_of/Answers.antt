use Rattle.std.proofs.Common.{◌≡◌, ℕ, true, List, Some, sym, ap, ◌∙◌}
use Rattle.std.specs.FinMap.{get}
use Rattle.busdma_machine.specs.declared.machine.address.Extent.{Extent}
use Rattle.busdma_machine.specs.declared.machine.bio.Bio.TheVariants.{Vector}
use Rattle.busdma_machine.specs.declared.report.Judged.TheVariants.{Fine}
use Rattle.busdma_machine.specs.Runs.{addresses}
use Rattle.busdma_rules.specs.Lending.Access.{cpu_read_answer, cpu_write_answer}
use Rattle.loan_table.specs.Table.{is_marked}
use Rattle.ideal_lane.specs.IdealMemory.{is_known}
use Rattle.ideal_lane.specs.Loads.{load_judged}
use Rattle.ideal_lane.specs.Sends.{Send, chain_bytes}
use Rattle.ideal_wire.specs.WireStep.{is_free}
use Rattle.dma_map.specs.declared.state.MapState.TheVariants.{Idle}
use Rattle.dma_map.specs.MapView.{state_of}
use Rattle.lane_state.specs.declared.holdings.Holdings.{Holdings}
use Rattle.lane_state.specs.declared.kept.KeptMap.{KeptMap}
use Rattle.lane_state.specs.Held.{devices_of}
use Rattle.lane_state.specs.Ideal.{ideal_of}
use Rattle.lane_state.specs.Kept.{map_of}
use Rattle.lane_state.specs.Sends.{the_send}
use Rattle.lane_state.proofs.Keeping.{state-busy, state-idle}
use Rattle.lane_state.proofs.MapValues.{image-none, image-some}
use Rattle.lane_state.proofs.Reading.{known-held}
use Rattle.lane_sends.proofs.ResendSteps.{stopped-absent, stopped-busy, stopped-load, stopped-read, stopped-write}
use Rattle.lane_sends.proofs.resends.refusal_of.Goals as goal

-- the chain is judged as the driver's table has it
read-same : (h : Holdings) (from : List Extent) (s : Send) → addresses from ≡ chain_bytes s (ideal_of h) →
    cpu_read_answer (is_known (ideal_of h).memory) h.loans.loans (chain_bytes s (ideal_of h))
    ≡ cpu_read_answer (is_marked h.loans.bytes) h.loans.loans (addresses from)
read-same h from s e =
    (λ i. cpu_read_answer (known-held h.loans.bytes h.loans.loans (devices_of h.maps.map) h.memory.memory i)
    h.loans.loans (sym e i))

-- an idle map is free
free-there : (h : Holdings) (m : ℕ) (o : KeptMap) → get h.maps.map m ≡ Some o → state_of o.map.stage ≡ Idle →
    is_free (get (ideal_of h).maps m) ≡ true
free-there h m o there idle = ap is_free (image-some map_of h.maps.map m o there) ∙ state-idle o.map.stage idle

pub returns-in_default-clause-refused : goal.returns-in_default-clause-refused
returns-in_default-clause-refused c =
    let h = c.args.holdings.now in
    let s = the_send c.args.resend in
    stopped-absent (ideal_of h) s (image-none map_of h.maps.map s.map (sym c.in_default.ensures))

pub returns-in-Refused-clause-refused : goal.returns-in-Refused-clause-refused
returns-in-Refused-clause-refused c =
    let h = c.args.holdings.now in
    let l = ideal_of h in
    let s = the_send c.args.resend in
    let o = c.in-Some.kept.now in
    let free = free-there h s.map o (sym c.in-Some.ensures) (sym c.state.ensures ∙ c.in-Idle.is) in
    stopped-load l s free c.in-Refused.refusal (sym c.judge_load.ensures ∙ c.in-Refused.is)

pub returns-in-Refused-may_cpu_read-clause-refused : goal.returns-in-Refused-may_cpu_read-clause-refused
returns-in-Refused-may_cpu_read-clause-refused c =
    let h = c.args.holdings.now in
    let l = ideal_of h in
    let s = the_send c.args.resend in
    let o = c.in-Some.kept.now in
    let free = free-there h s.map o (sym c.in-Some.ensures) (sym c.state.ensures ∙ c.in-Idle.is) in
    let fine : load_judged l s.map (Vector s.clusters) ≡ Fine = sym c.judge_load.ensures ∙ c.in_default-judge_load.is in
    stopped-read l s free fine c.in-Refused-may_cpu_read.refusal
    (read-same h c.args.from.now s c.requires.bytes.chain ∙ sym c.may_cpu_read.ensures
    ∙ c.in-Refused-may_cpu_read.is)

pub returns-in-Refused-may_cpu_write-clause-refused : goal.returns-in-Refused-may_cpu_write-clause-refused
returns-in-Refused-may_cpu_write-clause-refused c =
    let h = c.args.holdings.now in
    let l = ideal_of h in
    let s = the_send c.args.resend in
    let o = c.in-Some.kept.now in
    let free = free-there h s.map o (sym c.in-Some.ensures) (sym c.state.ensures ∙ c.in-Idle.is) in
    let fine : load_judged l s.map (Vector s.clusters) ≡ Fine = sym c.judge_load.ensures ∙ c.in_default-judge_load.is in
    stopped-write l s free fine
    (read-same h c.args.from.now s c.requires.bytes.chain ∙ sym c.may_cpu_read.ensures ∙ c.in_default-may_cpu_read.is)
    c.in-Refused-may_cpu_write.refusal
    (ap (cpu_write_answer l.loans) (sym (c.requires.bytes.clusters fine)) ∙ sym c.may_cpu_write.ensures
    ∙ c.in-Refused-may_cpu_write.is)

pub returns-in_default-state-clause-refused : goal.returns-in_default-state-clause-refused
returns-in_default-state-clause-refused c =
    let h = c.args.holdings.now in
    let s = the_send c.args.resend in
    let o = c.in-Some.kept.now in
    stopped-busy (ideal_of h) s (map_of o) (image-some map_of h.maps.map s.map o (sym c.in-Some.ensures))
    (state-busy o.map.stage (λ e. c.in_default-state.not-Idle (c.state.ensures ∙ e)))

pub returns-clause-fine : goal.returns-clause-fine
returns-clause-fine c =
    let h = c.args.holdings.now in
    let l = ideal_of h in
    let s = the_send c.args.resend in
    let o = c.in-Some.kept.now in
    let free = free-there h s.map o (sym c.in-Some.ensures) (sym c.state.ensures ∙ c.in-Idle.is) in
    let fine : load_judged l s.map (Vector s.clusters) ≡ Fine = sym c.judge_load.ensures ∙ c.in_default-judge_load.is in
    record {
      free = free;
      loads = fine;
      reads = read-same h c.args.from.now s c.requires.bytes.chain ∙ sym c.may_cpu_read.ensures
          ∙ c.in_default-may_cpu_read.is;
      writes = ap (cpu_write_answer l.loans) (sym (c.requires.bytes.clusters fine)) ∙ sym c.may_cpu_write.ensures
          ∙ c.in_default-may_cpu_write.is;
    }
