use Rattle.std.proofs.Common.{◌≡◌, ℕ, false, Some, None, ◌==◌, ◌≤◌, not, length, map, refl, ap, sym, ◌∙◌, subst, arith}
use Rattle.std.specs.List.{list_any}
use Rattle.std.specs.Ordering.{nat_cmp}
use Rattle.std.specs.FinMap.{get, get-empty}
use Rattle.lane_tables.specs.declared.queued.QueuedPage.{QueuedPage}
use Rattle.busdma_base.specs.Scenarios.Queues.{script_items}
use Rattle.ideal_lane.specs.Ahead.{awaited_items, maps_items}
use Rattle.ideal_lane.specs.State.{LaneMap}
use Rattle.ideal_lane.specs.Opening.{opening_lane}
use Rattle.ideal_lane.specs.Standing.{Stands}
use Rattle.ideal_lane.proofs.OpeningLaws.{opens-standing}
use Rattle.ideal_lane.proofs.Weights.{weigh-empty}
use Rattle.lane_state.specs.declared.kept.KeptMemory.{KeptMemory}
use Rattle.lane_state.specs.Covered.{items_left, pages_due}
use Rattle.lane_state.specs.Held.{devices_of}
use Rattle.lane_state.specs.Kept.{map_of, memory_of, return_of}
use Rattle.lane_state.specs.Kept.{kept_ring, kept_share, spaces_of, tag_of}
use Rattle.lane_state.specs.MapValues.{map_values}
use Rattle.lane_state.proofs.MapValues.{map_values-empty}
use Rattle.lane_state.proofs.OwnRuns.{AreKnown}
use Rattle.lane_core.proofs.OpensSmall.{opens-small}
use Rattle.lane_core.proofs.OpensWired.{opens-wired}
use Rattle.lane_state.proofs.Spaces.{spaces-empty}
use Rattle.lane_core.proofs.OpeningLane.{held-zeros, opens-covered, opens-framed, opens-mapless, opens-reaching}
use Rattle.lane_state.proofs.Awaiting.{awaiting-empty}
use Rattle.lane_state.specs.Awaiting.{AreAwaiting, AreOfMaps}
use Rattle.lane_state.proofs.OfMaps.{of-maps-empty}
use Rattle.lane_core.proofs.lane.Lane.new.Goals as goal

none-there : (k : ℕ) (x : KeptMemory) → None ≡ Some x → ⊥
none-there k x e = absurd (cc)

pub invariant_of-result-clause-covered : goal.invariant_of-result-clause-covered
invariant_of-result-clause-covered c =
    let known =
    subst (λ pages. AreKnown pages c.in_ok-opening_loans.field-0.bytes) c.as_slice-pages.ensures
    c.in_ok-opening_loans.ensures.bytes in
    opens-covered c.args.driver.now.pages c.in_ok-opening_loans.field-0.bytes c.args.memory.memory known
    c.requires.memory

pub invariant_of-result-clause-reaches : goal.invariant_of-result-clause-reaches
invariant_of-result-clause-reaches c =
    opens-reaching c.as_slice-pages.result.now c.in_ok-new-3.field-0.map c.args.memory.memory
    (ap (λ t. t.map) c.in_ok-new-3.ensures)
    (rw c.as_slice-pages.ensures c.requires.memory)

pub invariant_of-result-clause-framed : goal.invariant_of-result-clause-framed
invariant_of-result-clause-framed c =
    opens-framed c.as_slice-pages.result.now c.args.memory.memory (rw c.as_slice-pages.ensures c.requires.memory)

pub invariant_of-result-clause-placed : goal.invariant_of-result-clause-placed
invariant_of-result-clause-placed c = λ v r e high.
    let low = c.requires.memory.low v r e in absurd (omega arith)

pub invariant_of-result-clause-standing : goal.invariant_of-result-clause-standing
invariant_of-result-clause-standing c = λ k x e.
    absurd (none-there k x (sym (ap (λ t. get t.map k) c.in_ok-new-3.ensures ∙ get-empty nat_cmp k) ∙ e))

pub invariant_of-result-clause-loaded : goal.invariant_of-result-clause-loaded
invariant_of-result-clause-loaded c =
    (opens-mapless c.in_ok-new-2.field-0.map c.in_ok-opening_loans.field-0.loans c.in_ok-new-5.field-0.returns 0
    (ap (λ t. t.map) c.in_ok-new-2.ensures) c.in_ok-opening_loans.ensures.loans
    (ap (λ a. a.returns) c.in_ok-new-5.ensures)).loaded

pub invariant_of-result-clause-unlent : goal.invariant_of-result-clause-unlent
invariant_of-result-clause-unlent c =
    (opens-mapless c.in_ok-new-2.field-0.map c.in_ok-opening_loans.field-0.loans c.in_ok-new-5.field-0.returns 0
    (ap (λ t. t.map) c.in_ok-new-2.ensures) c.in_ok-opening_loans.ensures.loans
    (ap (λ a. a.returns) c.in_ok-new-5.ensures)).unlent

pub invariant_of-result-clause-promised : goal.invariant_of-result-clause-promised
invariant_of-result-clause-promised c =
    (opens-mapless c.in_ok-new-2.field-0.map c.in_ok-opening_loans.field-0.loans c.in_ok-new-5.field-0.returns
    c.in_ok-new-5.field-0.promised
    (ap (λ t. t.map) c.in_ok-new-2.ensures) c.in_ok-opening_loans.ensures.loans
    (ap (λ a. a.returns) c.in_ok-new-5.ensures)).promised

pub invariant_of-result-clause-own_returns : goal.invariant_of-result-clause-own_returns
invariant_of-result-clause-own_returns c =
    ap (λ rs. list_any (λ (q : QueuedPage). not (q.map.lane.0 == c.args.id.0)) rs)
    (ap (λ a. a.returns) c.in_ok-new-5.ensures)

pub invariant_of-result-clause-returning : goal.invariant_of-result-clause-returning
invariant_of-result-clause-returning c =
    (opens-mapless c.in_ok-new-2.field-0.map c.in_ok-opening_loans.field-0.loans c.in_ok-new-5.field-0.returns 0
    (ap (λ t. t.map) c.in_ok-new-2.ensures) c.in_ok-opening_loans.ensures.loans
    (ap (λ a. a.returns) c.in_ok-new-5.ensures)).returning

pub invariant_of-result-clause-tried : goal.invariant_of-result-clause-tried
invariant_of-result-clause-tried c =
    (opens-mapless c.in_ok-new-2.field-0.map c.in_ok-opening_loans.field-0.loans c.in_ok-new-5.field-0.returns 0
    (ap (λ t. t.map) c.in_ok-new-2.ensures) c.in_ok-opening_loans.ensures.loans
    (ap (λ a. a.returns) c.in_ok-new-5.ensures)).tried

pub invariant_of-result-2-clause-length : goal.invariant_of-result-2-clause-length
invariant_of-result-2-clause-length c =
    ap (λ a. a.length) c.in_ok-new-5.ensures ∙ sym (ap length (c.new-script.ensures ∙ c.as_slice.ensures))

pub invariant_of-result-2-clause-room : goal.invariant_of-result-2-clause-room
invariant_of-result-2-clause-room c =
    let agenda = c.in_ok-new-5.ensures in
    let script = (c.new-script.ensures ∙ c.as_slice.ensures) in
    let left : items_left c.in_ok-new-5.field-0.place c.new-script.result ≡ c.in_ok-new-5.field-0.room =
    ap (λ a. items_left a.place c.new-script.result) agenda
    ∙ ap script_items script ∙ sym (ap (λ a. a.room) agenda) in
    let maps = ap (λ t. map_values map_of t.map) c.in_ok-new-2.ensures ∙ map_values-empty map_of in
    let due : maps_items (map_values map_of c.in_ok-new-2.field-0.map) ≡ 0 =
    ap maps_items maps
    ∙ weigh-empty (λ (o : LaneMap). awaited_items o.stage) in
    omega (arith, left, due)

pub invariant_of-result-2-clause-wired : goal.invariant_of-result-2-clause-wired
invariant_of-result-2-clause-wired c =
    let agenda = c.in_ok-new-5.ensures in
    let loans = c.in_ok-opening_loans.ensures.loans in
    let known =
    subst (λ pages. AreKnown pages c.in_ok-opening_loans.field-0.bytes) c.as_slice-pages.ensures
    c.in_ok-opening_loans.ensures.bytes in
    let memory =
    held-zeros c.args.driver.now.pages c.in_ok-opening_loans.field-0.bytes c.args.memory.memory known
    c.requires.memory c.in_ok-opening_loans.field-0.loans (devices_of c.in_ok-new-2.field-0.map) loans in
    let tags = ap (λ t. map_values tag_of t.map) c.in_ok-new.ensures ∙ map_values-empty tag_of in
    let maps = ap (λ t. map_values map_of t.map) c.in_ok-new-2.ensures ∙ map_values-empty map_of in
    let mems = ap (λ t. map_values memory_of t.map) c.in_ok-new-3.ensures ∙ map_values-empty memory_of in
    let rings = ap (λ t. map_values kept_ring t.map) c.in_ok-new-4.ensures ∙ map_values-empty kept_ring in
    let spaces = ap (λ t. spaces_of t.map) c.in_ok-new.ensures ∙ spaces-empty in
    opens-wired c.args.id.0 c.args.maxmem c.args.driver.now _
    (λ i. record {
      id = c.args.id.0;
      maxmem = c.args.maxmem;
      script = (c.new-script.ensures ∙ c.as_slice.ensures) i;
      place = (agenda i).place;
      due = false;
      pages = c.as_slice-pages.ensures i;
      tags = tags i;
      maps = maps i;
      mems = mems i;
      rings = rings i;
      memory = memory i;
      loans = loans i;
      queue = (agenda i).queue;
      returns = map return_of (agenda i).returns;
      shares = kept_share (c.new-6.ensures.items i);
      spaces = spaces i;
    })
    (ap (λ t. t.map) c.in_ok-new-2.ensures) c.requires.memory.zero c.requires.script c.requires.pages
    c.requires.numbered c.requires.inside c.requires.bios

pub invariant_of-result-2-clause-stands : goal.invariant_of-result-2-clause-stands
invariant_of-result-2-clause-stands c =
    let agenda = c.in_ok-new-5.ensures in
    let loans = c.in_ok-opening_loans.ensures.loans in
    let known =
    subst (λ pages. AreKnown pages c.in_ok-opening_loans.field-0.bytes) c.as_slice-pages.ensures
    c.in_ok-opening_loans.ensures.bytes in
    let memory =
    held-zeros c.args.driver.now.pages c.in_ok-opening_loans.field-0.bytes c.args.memory.memory known
    c.requires.memory c.in_ok-opening_loans.field-0.loans (devices_of c.in_ok-new-2.field-0.map) loans in
    let tags = ap (λ t. map_values tag_of t.map) c.in_ok-new.ensures ∙ map_values-empty tag_of in
    let maps = ap (λ t. map_values map_of t.map) c.in_ok-new-2.ensures ∙ map_values-empty map_of in
    let mems = ap (λ t. map_values memory_of t.map) c.in_ok-new-3.ensures ∙ map_values-empty memory_of in
    let rings = ap (λ t. map_values kept_ring t.map) c.in_ok-new-4.ensures ∙ map_values-empty kept_ring in
    let spaces = ap (λ t. spaces_of t.map) c.in_ok-new.ensures ∙ spaces-empty in
    let is : _ ≡ opening_lane c.args.id.0 c.args.maxmem c.args.driver.now =
    (λ i. record {
      id = c.args.id.0;
      maxmem = c.args.maxmem;
      script = (c.new-script.ensures ∙ c.as_slice.ensures) i;
      place = (agenda i).place;
      due = false;
      pages = c.as_slice-pages.ensures i;
      tags = tags i;
      maps = maps i;
      mems = mems i;
      rings = rings i;
      memory = memory i;
      loans = loans i;
      queue = (agenda i).queue;
      returns = map return_of (agenda i).returns;
      shares = kept_share (c.new-6.ensures.items i);
      spaces = spaces i;
    }) in
    ∣ subst Stands (sym is) (opens-standing c.args.id.0 c.args.maxmem c.args.driver.now) ∣₁

pub invariant_of-result-2-clause-small : goal.invariant_of-result-2-clause-small
invariant_of-result-2-clause-small c =
    opens-small c.args.driver.now _ c.requires.script c.requires.small (c.new-script.ensures ∙ c.as_slice.ensures)
    (ap (λ a. a.place) c.in_ok-new-5.ensures) refl (ap (λ a. a.promised) c.in_ok-new-5.ensures)
    (let none : pages_due c.in_ok-new-2.field-0.map ≤ 0 =
    (opens-mapless c.in_ok-new-2.field-0.map c.in_ok-opening_loans.field-0.loans c.in_ok-new-5.field-0.returns 0
    (ap (λ t. t.map) c.in_ok-new-2.ensures) c.in_ok-opening_loans.ensures.loans
    (ap (λ a. a.returns) c.in_ok-new-5.ensures)).promised in
    omega (arith, none))

pub invariant_of-result-clause-awaiting : goal.invariant_of-result-clause-awaiting
invariant_of-result-clause-awaiting c =
    subst (λ ms. AreAwaiting c.as_slice-pages.result.now c.args.maxmem c.in_ok-new.field-0.map ms
    c.in_ok-opening_loans.field-0.prepared) (sym (ap (λ t. t.map) c.in_ok-new-2.ensures))
    (awaiting-empty c.as_slice-pages.result.now c.args.maxmem c.in_ok-new.field-0.map
    c.in_ok-opening_loans.field-0.prepared)

pub invariant_of-result-clause-ready : goal.invariant_of-result-clause-ready
invariant_of-result-clause-ready c =
    subst (AreOfMaps c.as_slice-pages.result.now c.in_ok-new-3.field-0.map)
    (sym c.in_ok-opening_loans.ensures.prepared)
    (of-maps-empty c.as_slice-pages.result.now c.in_ok-new-3.field-0.map)

pub returns : goal.returns
returns c =
    let agenda = c.in_ok-new-5.ensures in
    let loans = c.in_ok-opening_loans.ensures.loans in
    let known =
    subst (λ pages. AreKnown pages c.in_ok-opening_loans.field-0.bytes) c.as_slice-pages.ensures
    c.in_ok-opening_loans.ensures.bytes in
    let memory =
    held-zeros c.args.driver.now.pages c.in_ok-opening_loans.field-0.bytes c.args.memory.memory known
    c.requires.memory c.in_ok-opening_loans.field-0.loans (devices_of c.in_ok-new-2.field-0.map) loans in
    let tags = ap (λ t. map_values tag_of t.map) c.in_ok-new.ensures ∙ map_values-empty tag_of in
    let maps = ap (λ t. map_values map_of t.map) c.in_ok-new-2.ensures ∙ map_values-empty map_of in
    let mems = ap (λ t. map_values memory_of t.map) c.in_ok-new-3.ensures ∙ map_values-empty memory_of in
    let rings = ap (λ t. map_values kept_ring t.map) c.in_ok-new-4.ensures ∙ map_values-empty kept_ring in
    let spaces = ap (λ t. spaces_of t.map) c.in_ok-new.ensures ∙ spaces-empty in
    (λ i. record {
      id = c.args.id.0;
      maxmem = c.args.maxmem;
      script = (c.new-script.ensures ∙ c.as_slice.ensures) i;
      place = (agenda i).place;
      due = false;
      pages = c.as_slice-pages.ensures i;
      tags = tags i;
      maps = maps i;
      mems = mems i;
      rings = rings i;
      memory = memory i;
      loans = loans i;
      queue = (agenda i).queue;
      returns = map return_of (agenda i).returns;
      shares = kept_share (c.new-6.ensures.items i);
      spaces = spaces i;
    })
