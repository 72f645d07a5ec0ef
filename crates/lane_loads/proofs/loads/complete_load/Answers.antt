use Rattle.std.proofs.Common.{◌≡◌, ◌≤◌, ◌<◌, ◌++◌, List, length, map, Some, true, unwrap_or, refl, sym, ap}
use Rattle.std.proofs.Common.{◌∙◌, subst, cond, arith, length-append}
use Rattle.std.specs.FinMap.{get, insert}
use Rattle.busdma_base.specs.declared.journals.answer.Answer.TheVariants.{Refused, Segments}
use Rattle.busdma_machine.specs.declared.report.Errno.TheVariants.{EFBIG}
use Rattle.busdma_machine.specs.declared.machine.address.Pa.{Pa}
use Rattle.busdma_machine.specs.declared.machine.address.Segment.{Segment}
use Rattle.busdma_machine.specs.Bounce.AccountStep.{as_pages}
use Rattle.busdma_machine.specs.Machine.Page.{FrameBytes}
use Rattle.busdma_machine.specs.Room.{Roomy}
use Rattle.std.proofs.lemmas.Bool.{eq-eqb}
use Rattle.ideal_lane.proofs.Falling.{queued-from}
use Rattle.ideal_lane.proofs.Lookups.{get_put}
use Rattle.busdma_machine.specs.Machine.Entry.{entries_addresses}
use Rattle.busdma_machine.specs.Machine.PageList.{page_addresses}
use Rattle.busdma_base.specs.Scenarios.Queues.{queued_items}
use Rattle.busdma_rules.specs.Lending.Loans.{loan_of, new_loan, no_loan}
use Rattle.busdma_rules.specs.Segments.Building.{placed_pieces, tag_placed}
use Rattle.busdma_rules.specs.Segments.Chunks.{bounced_of}
use Rattle.busdma_rules.specs.Segments.Segmentation.{segmentation}
use Rattle.ideal_lane.specs.Loads.{is_coherent, limits_of, load_entries, loaded, staged, unpaged}
use Rattle.ideal_lane.specs.State.{LaneState, Loaded}
use Rattle.ideal_lane.specs.Unloads.{loan_forgotten}
use Rattle.lane_state.specs.Ideal.{ideal_of}
use Rattle.lane_state.specs.Kept.{map_of, return_of}
use Rattle.lane_state.specs.Loading.{bio_of, map_chunks}
use Rattle.lane_loads.proofs.Chunked.{copy-fits}
use Rattle.lane_state.proofs.Keeping.{idle-there}
use Rattle.lane_loads.proofs.Loaded.{none-loaned}
use Rattle.lane_loads.proofs.LoadSteps.{finished-few, finished-many, stored-ended}
use Rattle.lane_state.proofs.MapTables.{maps-of}
use Rattle.lane_state.proofs.MapValues.{image-some}
use Rattle.lane_state.proofs.Preparing.{pages-count}
use Rattle.lane_loads.proofs.loads.complete_load.Goals as goal

pages-at : {ps qs : List FrameBytes} → ps ≡ qs → as_pages (page_addresses ps) ≡ as_pages (page_addresses qs)
pages-at e = ap (λ ps. as_pages (page_addresses ps)) e

many-pages : {ps qs : List FrameBytes} → ps ≡ qs → length (as_pages (page_addresses ps)) ≡ length qs
many-pages {ps} {qs} e = pages-count ps ∙ ap length e

pub copy_segments-requires : goal.copy_segments-requires
copy_segments-requires c =
    let h = c.args.holdings.now in
    let l = ideal_of h in
    let idle = idle-there (get h.maps.map c.args.map) c.requires.idle in
    let o = map_of idle.0 in
    let is = image-some map_of h.maps.map c.args.map idle.0 idle.1 in
    subst (λ (ss : List Segment). length ss ≤ c.build_load-few.new.room.shown.spare) (sym c.as_slice-2.ensures)
    (copy-fits (limits_of l o) (map_chunks l c.args.map o (bio_of c.args.bytes))
    (as_pages (page_addresses c.as_slice.result.now)) c.args.room
    c.build_load-few.new.room c.build_load-few.result (λ e. c.build_load-few.ensures.few e o is)
    (λ e. c.build_load-few.ensures.many e o is)
    ((c.requires.room o is).any _ c.build_load-few.ensures.at_frames (many-pages c.as_slice.ensures))
    c.build_load-few.ensures.shown)

pub store_load-requires-clause-prepared : goal.store_load-requires-clause-prepared
store_load-requires-clause-prepared c = record {
  coherent = is_coherent (get (ideal_of c.args.holdings.now).mems c.args.map);
  bytes = entries_addresses (load_entries (ideal_of c.args.holdings.now) (bio_of c.args.bytes));
  is = c.requires.prepared;
}

pub returns-then-not-few-clause-done : goal.returns-then-not-few-clause-done
returns-then-not-few-clause-done c o x found entries items =
    let h = c.args.holdings.now in
    let l = ideal_of h in
    let m = c.args.map in
    let t = limits_of l o in
    let pas = page_addresses c.args.pages.items in
    let chunks = map_chunks l m o (bio_of c.args.bytes) in
    let many = c.build_load-few.ensures.many c.if-not-few.true o found in
    let over : t.nsegments < length (segmentation t (placed_pieces t chunks (as_pages pas))) =
    subst (λ (ps : List Pa). t.nsegments < length (segmentation t (placed_pieces t chunks ps)))
    (pages-at c.as_slice.ensures)
    many.many in
    let coherent = is_coherent (get l.mems m) in
    let bytes = entries_addresses (load_entries l (bio_of c.args.bytes)) in
    let stage = Loaded c.into_list.result c.into_list-2.result pas in
    let after : LaneState = record (staged m o stage l) { loans = insert l.loans m (new_loan coherent bytes) } in
    let stored : ideal_of c.store_load.new.holdings ≡ after =
    c.store_load.ensures.done o found
    ∙ ap (λ loan. record (staged m o stage l) { loans = insert l.loans m loan })
    (ap (λ p. unwrap_or p no_loan) c.requires.prepared) in
    let there : get (ideal_of c.store_load.new.holdings).maps m ≡ Some (record o { tried = true; stage = stage }) =
    ap (λ (k : LaneState). get k.maps m) stored ∙ get_put l.maps m (record o { tried = true; stage = stage }) m
    ∙ ap (λ b. cond b (Some (record o { tried = true; stage = stage })) (get l.maps m)) (eq-eqb m m refl) in
    let idle = idle-there (get h.maps.map m) c.requires.idle in
    let none =
    none-loaned h.maps.map h.loans.loans h.agenda.returns h.agenda.promised (maps-of h) m idle.0 idle.0 idle.1
    idle.2 in
    ap (λ k. record { lane = k; answer = Refused EFBIG })
    (c.end_load.ensures.done (record o { tried = true; stage = stage }) there
    ∙ ap (λ k. unpaged m (record o { tried = true; stage = stage }) pas (loan_forgotten m k)) stored
    ∙ stored-ended m o c.into_list.result c.into_list-2.result pas coherent bytes l none)
    ∙ sym (finished-many m o c.args.load_at x chunks pas l over)

pub returns-clause-done : goal.returns-clause-done
returns-clause-done c o x found entries items =
    let h = c.args.holdings.now in
    let l = ideal_of h in
    let m = c.args.map in
    let t = limits_of l o in
    let pas = page_addresses c.args.pages.items in
    let chunks = map_chunks l m o (bio_of c.args.bytes) in
    let filled = c.build_load-few.ensures.few c.if-not-few.false o found in
    let built = segmentation t (placed_pieces t chunks (as_pages pas)) in
    let segments : c.build_load-few.new.room.list.items ≡ built =
    filled.segments ∙ ap (λ ps. segmentation t (placed_pieces t chunks ps)) (pages-at c.as_slice.ensures) in
    let bounced : c.into_list.result ≡ bounced_of (tag_placed t chunks (as_pages pas)) =
    c.into_list.ensures ∙ filled.bounced ∙ ap (λ ps. bounced_of (tag_placed t chunks ps))
    (pages-at c.as_slice.ensures) in
    let few : length built ≤ t.nsegments = subst (λ (ss : List Segment). length ss ≤ t.nsegments) segments
    filled.few in
    let coherent = is_coherent (get l.mems m) in
    let loan : loan_of h.loans.prepared m ≡ new_loan coherent (entries_addresses x.entries) =
    ap (λ p. unwrap_or p no_loan) c.requires.prepared
    ∙ ap (λ es. new_loan coherent (entries_addresses es)) (sym entries) in
    let shown : c.into_list-3.result ≡ built =
    c.into_list-3.ensures ∙ c.copy_segments.ensures
    ∙ ap (λ (r : Roomy Segment). r.items ++ c.as_slice-2.result.now) c.build_load-few.ensures.shown
    ∙ ap (λ ss. ss ++ c.as_slice-2.result.now) ((c.requires.room o found).any _ c.build_load-few.ensures.at_frames
    (many-pages c.as_slice.ensures)).empty_copy
    ∙ c.as_slice-2.ensures ∙ segments in
    let s = c.store_load.new.holdings in
    let push = c.push_items.ensures in
    let pushed : LaneState = record (ideal_of s) {
      place = c.push_items.new.self.place;
      queue = c.push_items.new.self.queue;
      returns = map return_of c.push_items.new.self.returns;
    } in
    let lane : pushed ≡ loaded m o c.args.load_at x (tag_placed t chunks (as_pages pas)) built pas l =
    (λ i. record (ideal_of s) {
      place = (push i).place;
      queue = (push i).queue;
      returns = map return_of (push i).returns;
    })
    ∙ ap (λ (k : LaneState). record k { queue = k.queue ++ queued_items c.args.load_at c.args.items })
    (c.store_load.ensures.done o found)
    ∙ (λ i. record (staged m o (Loaded (bounced i) ((c.into_list-2.ensures ∙ segments) i) pas) l) {
      loans = insert l.loans m (loan i);
      queue = l.queue ++ queued_items c.args.load_at (sym items i);
    }) in
    (λ i. record { lane = lane i; answer = Segments (shown i) })
    ∙ sym (finished-few m o c.args.load_at x chunks pas l few)

pub returns-clause-agenda : goal.returns-clause-agenda
returns-clause-agenda c =
    let s = c.store_load.new.holdings in
    let items = queued_items c.args.load_at c.args.items in
    let push = c.push_items.ensures in
    record {
      place = ap (λ a. a.place) push ∙ ap (λ a. a.place) c.store_load.ensures.agenda;
      end = ap (λ a. a.length) push ∙ ap (λ a. a.length) c.store_load.ensures.agenda;
      capacity = omega (
        arith,
        c.requires.few_items,
        ap (λ a. a.room) c.store_load.ensures.agenda,
        ap (λ a. length a.queue) c.store_load.ensures.agenda,
        ap (λ a. a.room) push,
        ap (λ a. length a.queue) push,
        length-append s.agenda.queue items,
        queued-from c.args.load_at 0 c.args.items,
      );
    }

pub returns-then-not-few-clause-due : goal.returns-then-not-few-clause-due
returns-then-not-few-clause-due c =
    let stored = c.store_load.ensures in
    omega (arith, stored.due, ap (λ a. a.promised) stored.agenda, c.end_load.ensures.due)

pub returns-clause-due : goal.returns-clause-due
returns-clause-due c =
    let stored = c.store_load.ensures in
    omega (arith, stored.due, ap (λ a. a.promised) stored.agenda, ap (λ a. a.promised) c.push_items.ensures)
