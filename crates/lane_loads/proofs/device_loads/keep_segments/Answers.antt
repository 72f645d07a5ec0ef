use Rattle.std.proofs.Common.{◌≡◌, ℕ, ◌++◌, cond, [], length, map, Some, unwrap_or, refl, sym, ap, ◌∙◌}
use Rattle.std.proofs.Common.{arith, length-append}
use Rattle.std.proofs.lemmas.Bool.{eq-eqb}
use Rattle.std.specs.FinMap.{get, insert}
use Rattle.std.specs.List.{each_same}
use Rattle.busdma_base.specs.declared.journals.answer.Answer.TheVariants.{Segments}
use Rattle.busdma_machine.specs.Machine.Entry.{entries_addresses}
use Rattle.busdma_machine.specs.Machine.PageList.{RoomyPages, page_addresses}
use Rattle.busdma_base.specs.Scenarios.Queues.{queued_items}
use Rattle.busdma_rules.specs.Lending.Loans.{Loan, loan_of, new_loan, no_loan}
use Rattle.phys_memory.specs.Memory.{wire}
use Rattle.ideal_lane.proofs.Falling.{queued-from}
use Rattle.ideal_lane.proofs.Lookups.{get_put}
use Rattle.ideal_lane.specs.Loads.{is_coherent, load_entries, loaded, staged}
use Rattle.ideal_lane.specs.State.{LaneState, Loaded}
use Rattle.ideal_lane.specs.Tags.{with_space}
use Rattle.lane_state.specs.declared.holdings.Holdings.{Holdings}
use Rattle.lane_state.specs.Changes.{KeepsButTags, KeepsState}
use Rattle.lane_loads.specs.DevicePages.{with_frames}
use Rattle.lane_state.specs.Held.{devices_of}
use Rattle.lane_state.specs.Ideal.{ideal_of}
use Rattle.lane_state.specs.Kept.{return_of}
use Rattle.lane_state.specs.Loading.{bio_of, load_loan}
use Rattle.lane_state.proofs.Doors.{on-err}
use Rattle.lane_loads.proofs.device_loads.keep_segments.Goals as goal

-- a step that keeps all but the tags, and the ideal state, keeps the state
kept-behind : (h p r : Holdings) → KeepsState h p → ideal_of r ≡ ideal_of p → KeepsButTags p r → KeepsState h r
kept-behind h p r kept same rest = record {
  ideal = same ∙ kept.ideal;
  bytes = record {
    own = ap (λ x. wire x.memory) rest.most.memory ∙ kept.bytes.own;
    pages = λ m. ap (λ t. (devices_of t.map m).pages) rest.maps ∙ kept.bytes.pages m;
  };
}

pub returns-in_err-enter_run-clause-err : goal.returns-in_err-enter_run-clause-err
returns-in_err-enter_run-clause-err c =
    on-err c.from_residual-in_err-enter_run.result
    (kept-behind c.args.holdings.now c.prepare_load.new.holdings c.enter_run.new.holdings
    c.in_ok-prepare_load.ensures.same
    c.in_err-enter_run.ensures.err c.in_err-enter_run.ensures.rest)

-- the loan of the load is prepared
is-prepared : (h p r : Holdings) (k : ℕ) (loan : Loan) → p.loans.prepared ≡ insert h.loans.prepared k loan →
    r.loans ≡ p.loans → get r.loans.prepared k ≡ Some loan
is-prepared h p r k loan prepared same =
    ap (λ t. get t.prepared k) same ∙ ap (λ t. get t k) prepared ∙ get_put h.loans.prepared k loan k
    ∙ ap (λ b. cond b (Some loan) (get h.loans.prepared k)) (eq-eqb k k refl)

pub store_load-requires-clause-prepared : goal.store_load-requires-clause-prepared
store_load-requires-clause-prepared c =
    let l = ideal_of c.args.holdings.now in
    record {
      coherent = is_coherent (get l.mems c.args.map);
      bytes = entries_addresses (load_entries l (bio_of c.args.bytes));
      is =
          is-prepared c.args.holdings.now c.prepare_load.new.holdings c.enter_run.new.holdings c.args.map
          (load_loan l c.args.map (bio_of c.args.bytes)) c.in_ok-prepare_load.ensures.prepared
          c.enter_run.ensures.rest.most.loans;
    }

pub push_items-requires : goal.push_items-requires
push_items-requires c =
    let same : c.in_ok-items.items ≡ c.args.items.now = each_same _ _ c.in_ok-items.ensures.cases in
    omega (
      arith,
      c.requires.few_items,
      ap length same,
      ap (λ a. a.room) c.store_load.ensures.agenda,
      ap (λ a. a.room) c.enter_run.ensures.rest.agenda,
      ap (λ a. a.room) c.in_ok-prepare_load.ensures.agenda,
    )

pub returns-clause-done : goal.returns-clause-done
returns-clause-done c o x found entries items =
    let h = c.args.holdings.now in
    let l = ideal_of h in
    let m = c.args.map in
    let p = c.prepare_load.new.holdings in
    let r = c.enter_run.new.holdings in
    let s = c.store_load.new.holdings in
    let frames = c.args.frames.now in
    let before : ideal_of p ≡ l = c.in_ok-prepare_load.ensures.same.ideal in
    let tag : c.tag_of-tag.result ≡ o.tag = c.tag_of-tag.ensures o found in
    let then : LaneState =
    record l { spaces = with_space o.tag (with_frames frames (l.spaces o.tag)) l.spaces } in
    let entered : ideal_of r ≡ then =
    c.in_ok-enter_run.ensures.done
    ∙ (λ i. record (before i) {
      spaces = with_space (tag i) (with_frames frames ((before i).spaces (tag i))) (before i).spaces;
    }) in
    let there : get (ideal_of r).maps m ≡ Some o = ap (λ (k : LaneState). get k.maps m) entered ∙ found in
    let none : page_addresses c.from_vec-pages.result.items ≡ [] =
    ap (λ (k : RoomyPages). page_addresses k.items) c.from_vec-pages.ensures ∙ ap page_addresses c.new-2.ensures.items
    in
    let bounced : c.new-bounced.result ≡ [] = c.new-bounced.ensures ∙ c.new.ensures.items in
    let coherent = is_coherent (get l.mems m) in
    let prepared =
    is-prepared h p r m (load_loan l m (bio_of c.args.bytes)) c.in_ok-prepare_load.ensures.prepared
    c.enter_run.ensures.rest.most.loans in
    let loan : loan_of r.loans.prepared m ≡ new_loan coherent (entries_addresses x.entries) =
    ap (λ q. unwrap_or q no_loan) prepared ∙ ap (λ es. new_loan coherent (entries_addresses es)) (sym entries) in
    let shown : c.in_ok-shown.shown ≡ c.args.segments = each_same _ _ c.in_ok-shown.ensures.cases in
    let given : c.in_ok-items.items ≡ x.items = each_same _ _ c.in_ok-items.ensures.cases ∙ sym items in
    let push = c.push_items.ensures in
    let pushed : LaneState = record (ideal_of s) {
      place = c.push_items.new.self.place;
      queue = c.push_items.new.self.queue;
      returns = map return_of c.push_items.new.self.returns;
    } in
    let lane : pushed ≡ record (loaded m o l.place x [] c.args.segments [] l) { spaces = then.spaces } =
    (λ i. record (ideal_of s) {
      place = (push i).place;
      queue = (push i).queue;
      returns = map return_of (push i).returns;
    })
    ∙ ap (λ (k : LaneState). record k { queue = k.queue ++ queued_items c.place-load_at.result c.in_ok-items.items })
    (c.store_load.ensures.done o there)
    ∙ (λ i. record (staged m o (Loaded (bounced i) c.args.segments (none i)) (entered i)) {
      loans = insert (entered i).loans m (loan i);
      queue = (entered i).queue ++ queued_items (c.place-load_at.ensures i) (given i);
    }) in
    (λ i. record { lane = lane i; answer = Segments (shown i) })

pub returns-clause-agenda : goal.returns-clause-agenda
returns-clause-agenda c =
    let s = c.store_load.new.holdings in
    let items = queued_items c.place-load_at.result c.in_ok-items.items in
    let push = c.push_items.ensures in
    let stored = c.store_load.ensures.agenda ∙ c.enter_run.ensures.rest.agenda ∙ c.in_ok-prepare_load.ensures.agenda in
    let same : c.in_ok-items.items ≡ c.args.items.now = each_same _ _ c.in_ok-items.ensures.cases in
    record {
      place = ap (λ a. a.place) push ∙ ap (λ a. a.place) stored;
      end = ap (λ a. a.length) push ∙ ap (λ a. a.length) stored;
      capacity = omega (
        arith,
        c.requires.few_items,
        ap length same,
        ap (λ a. a.room) stored,
        ap (λ a. length a.queue) stored,
        ap (λ a. a.room) push,
        ap (λ a. length a.queue) push,
        length-append s.agenda.queue items,
        queued-from c.place-load_at.result 0 c.in_ok-items.items,
      );
    }
