use Rattle.std.proofs.Common.{refl, ap, sym, ◌∙◌, inl, arith}
use Rattle.std.specs.FinMap.{get}
use Rattle.ideal_lane.specs.Asking.{Gives}
use Rattle.ideal_lane.specs.Loads.{unpaged}
use Rattle.ideal_lane.specs.Outcomes.{gives}
use Rattle.ideal_lane.specs.State.{LaneState}
use Rattle.ideal_lane.specs.Unloads.{pages_of, loan_forgotten}
use Rattle.busdma_base.specs.declared.journals.answer.Answer.TheVariants.{Done}
use Rattle.lane_state.specs.Covered.{has_load}
use Rattle.lane_state.specs.Ideal.{given, ideal_of}
use Rattle.lane_state.specs.Kept.{map_of}
use Rattle.lane_loads.proofs.EndedRuns.{held-behind, promises-behind}
use Rattle.lane_state.proofs.Keeping.{state-loaded, state-unloaded}
use Rattle.lane_state.proofs.MapValues.{image-none, image-some}
use Rattle.lane_loads.proofs.UnloadSteps.{unload-absent, unload-unloaded, unload-done}
use Rattle.lane_loads.proofs.unloads.unload.Goals as goal

pub returns-in_default-clause-done : goal.returns-in_default-clause-done
returns-in_default-clause-done c =
    let h = c.args.holdings.now in
    ap (λ a. Gives (given h a)) c.report.ensures
    ∙ sym (unload-absent (ideal_of h) c.args.map (image-none map_of h.maps.map c.args.map (sym c.in_default.ensures)))

pub returns-in_default-state : goal.returns-in_default-state
returns-in_default-state c =
    let h = c.args.holdings.now in
    let o = c.in-Some.kept.now in
    record {
      done = ap (λ a. Gives (given h a)) c.report-in_default-state.ensures
          ∙ sym (unload-unloaded (ideal_of h) c.args.map (map_of o)
          (image-some map_of h.maps.map c.args.map o (sym c.in-Some.ensures))
          (state-unloaded o.map.stage (λ e. c.in_default-state.not-Loaded (c.state.ensures ∙ e))));
      bytes = record { own = refl; pages = λ m. inl refl };
      script = refl;
      memories = refl;
      promised = omega arith;
      due = refl;
      queue = refl;
      place = refl;
      length = refl;
      room = refl;
    }

pub end_run-requires-clause-loaded : goal.end_run-requires-clause-loaded
end_run-requires-clause-loaded c =
    ap has_load (sym c.in-Some.ensures) ∙ state-loaded c.in-Some.kept.now.map.stage
    (sym c.state.ensures ∙ c.in-Loaded.is)

pub end_load-requires : goal.end_load-requires
end_load-requires c =
    ap (λ t. has_load (get t.map c.args.map)) c.end_run.ensures.rest.maps ∙ ap has_load (sym c.in-Some.ensures)
    ∙ state-loaded c.in-Some.kept.now.map.stage (sym c.state.ensures ∙ c.in-Loaded.is)

pub returns-clause-done : goal.returns-clause-done
returns-clause-done c =
    let h = c.args.holdings.now in
    let l = ideal_of h in
    let o = c.in-Some.kept.now in
    let there = image-some map_of h.maps.map c.args.map o (sym c.in-Some.ensures) in
    let unrun = c.end_run.ensures.done (map_of o) there in
    ap (λ x. gives x Done)
    (c.end_load.ensures.done (map_of o) (ap (λ (x : LaneState). get x.maps c.args.map) unrun ∙ there)
    ∙ ap (λ x. unpaged c.args.map (map_of o) (pages_of (map_of o).stage) (loan_forgotten c.args.map x)) unrun)
    ∙ sym (unload-done l c.args.map (map_of o) there
    (state-loaded o.map.stage (sym c.state.ensures ∙ c.in-Loaded.is)))

pub returns-clause-bytes : goal.returns-clause-bytes
returns-clause-bytes c =
    held-behind c.args.holdings.now c.end_run.new.holdings c.end_load.new.holdings c.end_run.ensures.rest
    c.end_load.ensures.bytes

pub returns-clause-due : goal.returns-clause-due
returns-clause-due c =
    promises-behind c.args.holdings.now c.end_run.new.holdings c.end_load.new.holdings c.end_run.ensures.rest
    c.end_load.ensures.due

pub returns-clause-script : goal.returns-clause-script
returns-clause-script c = c.end_load.ensures.script ∙ c.end_run.ensures.rest.most.script

pub returns-clause-memories : goal.returns-clause-memories
returns-clause-memories c = c.end_load.ensures.memories ∙ c.end_run.ensures.rest.most.memories

pub returns-clause-promised : goal.returns-clause-promised
returns-clause-promised c =
    let less = c.end_load.ensures.promised in
    omega (arith, less, ap (λ a. a.promised) c.end_run.ensures.rest.agenda)

pub returns-clause-queue : goal.returns-clause-queue
returns-clause-queue c = c.end_load.ensures.queue ∙ ap (λ a. a.queue) c.end_run.ensures.rest.agenda

pub returns-clause-place : goal.returns-clause-place
returns-clause-place c = c.end_load.ensures.place ∙ ap (λ a. a.place) c.end_run.ensures.rest.agenda

pub returns-clause-length : goal.returns-clause-length
returns-clause-length c = c.end_load.ensures.length ∙ ap (λ a. a.length) c.end_run.ensures.rest.agenda

pub returns-clause-room : goal.returns-clause-room
returns-clause-room c = c.end_load.ensures.room ∙ ap (λ a. a.room) c.end_run.ensures.rest.agenda
