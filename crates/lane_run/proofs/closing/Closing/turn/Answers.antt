use Rattle.std.proofs.Common.{◌≡◌, ◌∙◌, ◌+◌, ◌++◌, ◌∷◌, [], ℕ, false, List, None, ap, arith, if◌then◌else◌, length, map}
use Rattle.std.proofs.Common.{subst, sym, ⊎_elim}
use Rattle.ideal_world.specs.World.{entry_of, step}
use Rattle.lane_turns.specs.declared.turn.Turn.{Turn}
use Rattle.lane_turns.specs.declared.turn.Turn.TheVariants.{Blocked, Ended}
use Rattle.lane_turns.specs.TakenTurns.{answered, is_held}
use Rattle.ideal_runs.specs.Merged.{logged}
use Rattle.ideal_runs.specs.Runs.{Log}
use Rattle.world_core.specs.Ideal.{world_holds, ideal_world}
use Rattle.ideal_runs.specs.FromLogs.{RunsTo}
use Rattle.lane_run.proofs.ClosingLaws.{rest-runs, rest-turned, step-logged, step-runs, step-turned}
use Rattle.lane_run.proofs.Logging.{pushed}
use Rattle.lane_run.proofs.closing.Closing.turn.Goals as goal

pub index_mut-requires : goal.index_mut-requires
index_mut-requires g c =
    let old = c.args.self.now in
    let w = c.step.new.self in
    let below =
    step-logged c.args.scenario.now (λ l. l.items) old.logs.items (world_holds old.world) (ideal_world old.world)
    (ideal_world w) c.args.actor c.in-Stepped.entry c.requires.come
    (subst (λ (t : Turn). record { world = ideal_world w; turn = answered t } ≡ step (ideal_world old.world)
    c.args.actor) c.in-Stepped.is c.in_ok-turn.ensures.done) in
    omega (arith, below, old.logs.ok.0)

pub returns-in_ok-push_back-in-Stepped-clause-come : goal.returns-in_ok-push_back-in-Stepped-clause-come
returns-in_ok-push_back-in-Stepped-clause-come g c =
    let s = c.args.scenario.now in
    let old = c.args.self.now in
    let w = c.step.new.self in
    let e = c.in-Stepped.entry in
    let held = c.in-Stepped.held in
    let i = c.args.actor.lane.0 in
    let logs : List Log = map (λ l. l.items) old.logs.items in
    let t = c.in_ok-turn.ensures in
    let done = subst (λ (t : Turn). record { world = ideal_world w; turn = answered t } ≡ step (ideal_world old.world)
    c.args.actor) c.in-Stepped.is t.done in
    let count = subst (λ (t : Turn). length (world_holds w) ≡ length (world_holds old.world)
    + (if is_held t then 1 else 0))
    c.in-Stepped.is t.held in
    let below = step-logged s (λ l. l.items) old.logs.items (world_holds old.world) (ideal_world old.world)
    (ideal_world w)
    c.args.actor e c.requires.come done in
    let q = c.index_mut.result.now in
    let joined : c.push_back.new.self.items ≡ q.items ++ logged e held ∷ [] =
    c.in_ok-push_back-in-Stepped.ensures.items ∙ ap (λ x. q.items ++ x ∷ []) c.new.ensures in
    subst (λ ls. RunsTo s ls (world_holds w) (ideal_world w))
    (sym (pushed (λ l. l.items) old.logs.items i q c.push_back.new.self (logged e held) below c.index_mut.ensures.value
    joined))
    (step-runs s c.requires.valid logs (world_holds old.world) (world_holds w) (ideal_world old.world) (ideal_world w)
    c.args.actor c.requires.come t.history e held done count)

pub returns-in_ok-push_back-in-Stepped-clause-goes : goal.returns-in_ok-push_back-in-Stepped-clause-goes
returns-in_ok-push_back-in-Stepped-clause-goes g c =
    let old = c.args.self.now in
    let w = c.step.new.self in
    let t = c.in_ok-turn.ensures in
    step-turned c.args.scenario.now c.requires.valid (map (λ l. l.items) old.logs.items) (world_holds old.world)
    (world_holds w)
    (ideal_world old.world) (ideal_world w) c.args.actor c.requires.come t.history c.in-Stepped.entry
    c.in-Stepped.held
    (subst (λ (t : Turn). record { world = ideal_world w; turn = answered t } ≡ step (ideal_world old.world)
    c.args.actor) c.in-Stepped.is t.done)
    (subst (λ (t : Turn). length (world_holds w) ≡ length (world_holds old.world) + (if is_held t then 1 else 0))
    c.in-Stepped.is t.held)

pub returns-in-Blocked : goal.returns-in-Blocked
returns-in-Blocked g c =
    let s = c.args.scenario.now in
    let old = c.args.self.now in
    let w = c.step.new.self in
    let logs : List Log = map (λ l. l.items) old.logs.items in
    let t = c.in_ok-turn.turn in
    let e = c.in_ok-turn.ensures in
    let none : entry_of (answered t) ≡ None =
    ⊎_elim (λ (is : t ≡ Blocked). ap (λ (x : Turn). entry_of (answered x)) is)
    (λ (is : t ≡ Ended). ap (λ (x : Turn). entry_of (answered x)) is) c.in-Blocked.is in
    let free : is_held t ≡ false =
    ⊎_elim (λ (is : t ≡ Blocked). ap is_held is) (λ (is : t ≡ Ended). ap is_held is) c.in-Blocked.is in
    let count : length (world_holds w) ≡ length (world_holds old.world) =
    e.held ∙ ap (λ b. length (world_holds old.world) + (if b then 1 else 0)) free
    ∙ plus-zero (length (world_holds old.world)) in
    record {
      come = rest-runs s c.requires.valid logs (world_holds old.world) (world_holds w) (ideal_world old.world)
          (ideal_world w)
          c.args.actor c.requires.come e.history (answered t) e.done none count;
      goes = rest-turned s c.requires.valid logs (world_holds old.world) (world_holds w) (ideal_world old.world)
          (ideal_world w)
          c.args.actor c.requires.come e.history (answered t) e.done none count;
    }
  where
    plus-zero : (n : ℕ) → n + 0 ≡ n
    plus-zero n = omega arith
