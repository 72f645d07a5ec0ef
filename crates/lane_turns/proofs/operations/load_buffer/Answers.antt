use Rattle.std.proofs.Common.{◌≡◌, ◌≤◌, ◌<◌, ◌+◌, ◌^◌, IfOk, ap, sym, ◌∙◌, subst}
use Rattle.busdma_base.specs.declared.scenarios.script.Op.TheVariants.{Load}
use Rattle.ideal_lane.specs.Asking.{Asking}
use Rattle.ideal_lane.specs.Outcomes.{Outcome, gives}
use Rattle.lane_state.specs.declared.holdings.Answered.{Answered}
use Rattle.lane_state.specs.Doing.{IsAllowedBy, IsDone, asks}
use Rattle.lane_state.specs.Ideal.{given, ideal_of}
use Rattle.lane_state.specs.Loading.{bio_of}
use Rattle.lane_state.proofs.Doors.{done-gives, unasked}
use Rattle.lane_state.proofs.IdlePages.{stays-same}
use Rattle.lane_turns.proofs.LoadsAt.{bytes-is, loadable-at}
use Rattle.lane_state.proofs.OperationSteps.{load-named, load-unnamed}
use Rattle.lane_turns.proofs.SmallLoads.{few-promised}
use Rattle.lane_turns.proofs.operations.load_buffer.Goals as goal

pub returns-in_default-clause-done : goal.returns-in_default-clause-done
returns-in_default-clause-done g c =
    let h = c.args.holdings.now in
    done-gives (g.D.HubDoor.seen c.args.door.now) h.id.0 _ (given h c.unheld.result.answer)
    (load-unnamed (ideal_of h) c.args.map c.args.buffer.now c.args.flags c.args.items.now c.in_default.ensures.none
    ∙ ap (gives (ideal_of h)) (sym (ap (λ (r : Answered). r.answer) c.unheld.ensures ∙ c.report.ensures)))

pub returns-in_default-clause-held : goal.returns-in_default-clause-held
returns-in_default-clause-held g c =
    let h = c.args.holdings.now in
    ap (λ (r : Answered). r.held) c.unheld.ensures
    ∙ unasked _ _ (load-unnamed (ideal_of h) c.args.map c.args.buffer.now c.args.flags c.args.items.now
    c.in_default.ensures.none)

pub returns-in_default-clause-bytes : goal.returns-in_default-clause-bytes
returns-in_default-clause-bytes g c = stays-same c.args.holdings.now

pub load-requires-clause-loadable : goal.load-requires-clause-loadable
load-requires-clause-loadable g c =
    let h = c.args.holdings.now in
    loadable-at h h.agenda.place c.args.map c.args.buffer.now c.args.flags c.args.items.now (bio_of c.in-Some.bytes)
    c.requires.here c.in-Some.ensures.some c.requires.wired.machine c.requires.small

pub load-requires-clause-few_pages : goal.load-requires-clause-few_pages
load-requires-clause-few_pages g c =
    let h = c.args.holdings.now in
    let bytes = bytes-is (ideal_of h) c.args.buffer.now (bio_of c.in-Some.bytes) c.in-Some.ensures.some in
    subst (λ n. h.agenda.promised + n < 2 ^ 32) (sym bytes)
    (few-promised h c.requires.small (Load c.args.map c.args.buffer.now c.args.flags c.args.items.now)
    c.requires.here)

pub load-requires-clause-allowed : goal.load-requires-clause-allowed
load-requires-clause-allowed g c =
    let h = c.args.holdings.now in
    subst (IsAllowedBy (g.D.HubDoor.seen c.args.door.now) h.id.0)
    (load-named (ideal_of h) c.args.map c.args.buffer.now c.args.flags c.args.items.now (bio_of c.in-Some.bytes)
    c.never_waits.result c.in-Some.ensures.some c.never_waits.ensures)
    c.requires.allowed

pub returns-clause-done : goal.returns-clause-done
returns-clause-done g c =
    let h = c.args.holdings.now in
    subst (λ (step : Asking Outcome). IfOk c.load.result (λ r. IsDone (g.D.HubDoor.seen c.args.door.now) h.id.0
    step (given c.load.new.holdings r.answer) (g.D.HubDoor.seen c.load.new.door)))
    (sym (load-named (ideal_of h) c.args.map c.args.buffer.now c.args.flags c.args.items.now (bio_of c.in-Some.bytes)
    c.never_waits.result c.in-Some.ensures.some c.never_waits.ensures)) c.load.ensures.done

pub returns-clause-held : goal.returns-clause-held
returns-clause-held g c =
    let h = c.args.holdings.now in
    subst (λ (step : Asking Outcome). IfOk c.load.result (λ r. r.held ≡ asks step))
    (sym (load-named (ideal_of h) c.args.map c.args.buffer.now c.args.flags c.args.items.now (bio_of c.in-Some.bytes)
    c.never_waits.result c.in-Some.ensures.some c.never_waits.ensures)) c.load.ensures.held

pub returns-clause-promised : goal.returns-clause-promised
returns-clause-promised g c =
    let h = c.args.holdings.now in
    let bytes = bytes-is (ideal_of h) c.args.buffer.now (bio_of c.in-Some.bytes) c.in-Some.ensures.some in
    subst (λ n. c.load.new.holdings.agenda.promised ≤ h.agenda.promised + n) bytes c.load.ensures.promised
