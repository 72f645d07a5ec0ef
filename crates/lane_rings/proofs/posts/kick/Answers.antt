use Rattle.std.proofs.Common.{◌≡◌, ◌≤◌, ◌++◌, List, length, map, refl, ap, sym, ◌∙◌, subst, arith}
use Rattle.std.proofs.Common.{length-append}
use Rattle.busdma_base.specs.declared.journals.answer.Answer.TheVariants as answer
use Rattle.busdma_base.specs.declared.scenarios.script.Item.{Item}
use Rattle.busdma_base.specs.Scenarios.Queues.{queued_items}
use Rattle.ideal_lane.proofs.Falling.{queued-from}
use Rattle.ideal_lane.specs.Outcomes.{gives, unless_absent}
use Rattle.ideal_lane.specs.State.{LaneRing}
use Rattle.lane_state.specs.Ideal.{ideal_of}
use Rattle.lane_state.specs.Kept.{kept_ring, return_of}
use Rattle.lane_state.proofs.MapValues.{image-none, image-some}
use Rattle.std.specs.List.{each_same}
use Rattle.lane_rings.proofs.posts.kick.Goals as goal

pub returns-in_default : goal.returns-in_default
returns-in_default c =
    let h = c.args.holdings.now in
    let l = ideal_of h in
    record {
      done = ap (gives l) c.report.ensures
          ∙ sym (ap (λ o. unless_absent o l (λ (r : LaneRing).
          gives (record l { queue = l.queue ++ queued_items l.place c.args.steps.now }) answer.Done))
          (image-none kept_ring h.rings.map c.args.ring (sym c.in_default.ensures)));
      bytes = record { own = refl; pages = λ m. refl };
      err = tt;
      unpromised = tt;
      agenda = record { place = refl; end = refl; capacity = refl };
      promised = refl;
      script = refl;
      memories = refl;
    }

pub push_items-requires : goal.push_items-requires
push_items-requires c =
    let same : c.in_ok-steps.steps ≡ c.args.steps.now = each_same _ _ c.in_ok-steps.ensures.cases in
    subst (λ (xs : List Item). length xs ≤ c.args.holdings.now.agenda.room) (sym same) c.requires.room

pub returns : goal.returns
returns c =
    let h = c.args.holdings.now in
    let l = ideal_of h in
    let steps = c.in_ok-steps.steps in
    let same : steps ≡ c.args.steps.now = each_same _ _ c.in_ok-steps.ensures.cases in
    let few : length steps ≤ h.agenda.room =
    subst (λ (xs : List Item). length xs ≤ h.agenda.room) (sym same) c.requires.room in
    let pushed = c.push_items.ensures in
    record {
      done = (λ i. gives (record l {
        place = (ap (λ a. a.place) pushed) i;
        queue = (ap (λ a. a.queue) pushed
            ∙ ap (λ p. l.queue ++ queued_items p steps) c.place-place.ensures
            ∙ ap (λ xs. l.queue ++ queued_items l.place xs) same) i;
        returns = (ap (λ a. map return_of a.returns) pushed) i;
      }) answer.Done)
          ∙ sym (ap (λ o. unless_absent o l (λ (r : LaneRing).
          gives (record l { queue = l.queue ++ queued_items l.place c.args.steps.now }) answer.Done))
          (image-some kept_ring h.rings.map c.args.ring c.in-Some.field-0.now (sym c.in-Some.ensures)));
      bytes = record { own = refl; pages = λ m. refl };
      err = tt;
      unpromised = tt;
      agenda = record {
        place = ap (λ a. a.place) pushed;
        end = ap (λ a. a.length) pushed;
        capacity = omega (
          arith,
          few,
          ap (λ a. a.room) pushed,
          ap (λ a. length a.queue) pushed,
          length-append h.agenda.queue (queued_items c.place-place.result steps),
          queued-from c.place-place.result 0 steps,
        );
      };
      promised = ap (λ a. a.promised) pushed;
      script = refl;
      memories = refl;
    }
