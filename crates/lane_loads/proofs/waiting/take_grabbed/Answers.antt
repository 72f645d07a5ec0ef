use Rattle.std.proofs.Common.{◌≡◌, ℕ, List, [], ◌∷◌, length, refl, sym, ap, ◌∙◌, subst, arith}
use Rattle.std.specs.FinMap.{get}
use Rattle.busdma_machine.specs.declared.bounce.door.Grabbed.{Grabbed}
use Rattle.busdma_machine.specs.declared.bounce.door.Grabbed.TheVariants.{Granted}
use Rattle.busdma_base.specs.declared.journals.answer.Answer.TheVariants.{InProgress, Refused}
use Rattle.busdma_machine.specs.declared.report.Errno.TheVariants.{ENOMEM}
use Rattle.busdma_machine.specs.declared.machine.chunk.Chunk.{Chunk}
use Rattle.busdma_machine.specs.Bounce.AccountStep.{as_pages}
use Rattle.busdma_machine.specs.Bounce.Door.{grab_reply}
use Rattle.busdma_machine.specs.Machine.PageList.{page_addresses}
use Rattle.lane_agreement.specs.After.{addresses_of_pages}
use Rattle.busdma_rules.specs.Segments.Chunks.{need_of}
use Rattle.ideal_lane.specs.Loads.{finished, granted, limits_of, staged}
use Rattle.ideal_lane.specs.State.{LaneState, Idle, Waiting}
use Rattle.lane_state.specs.Covered.{pages_due}
use Rattle.lane_state.specs.Ideal.{ideal_of}
use Rattle.lane_state.specs.Kept.{memory_of}
use Rattle.lane_state.specs.Loading.{HasNeed, HasRoomForAny, bio_chunks, bio_of}
use Rattle.lane_loads.proofs.Asked.{plain-chunks}
use Rattle.lane_state.proofs.MapValues.{image-none}
use Rattle.lane_loads.proofs.AwaitedLoads.{begins-waiting, paged-reached}
use Rattle.lane_loads.proofs.waiting.take_grabbed.Goals as goal

same-pages : (pas : List ℕ) → addresses_of_pages (as_pages pas) ≡ pas
same-pages [] = refl
same-pages (p ∷ pas) = ap (λ ps. p ∷ ps) (same-pages pas)

pub complete_load-requires-clause-room : goal.complete_load-requires-clause-room
complete_load-requires-clause-room c o found =
    let l = ideal_of c.args.holdings.now in
    let chunks = bio_chunks l o (bio_of c.args.bytes) in
    let all : HasNeed c.args.need (Granted c.in-Granted.pages) =
    subst (λ (g : Grabbed). HasNeed c.args.need g) c.in-Granted.is c.requires.granted in
    subst (λ (cs : List Chunk). HasRoomForAny (limits_of l o) cs (length c.in-Granted.pages.items) c.args.room)
    (sym (plain-chunks l c.args.map o (bio_of c.args.bytes)
    (image-none memory_of c.args.holdings.now.memories.map c.args.map c.requires.own)))
    (subst (λ n. HasRoomForAny (limits_of l o) chunks n c.args.room) (sym all) (c.requires.room o found))

pub complete_load-requires-clause-first : goal.complete_load-requires-clause-first
complete_load-requires-clause-first c x found =
    let none = image-none memory_of c.args.holdings.now.memories.map c.args.map c.requires.own in
    let no = sym none ∙ found in
    absurd (cc)

pub returns-in-Granted-clause-done : goal.returns-in-Granted-clause-done
returns-in-Granted-clause-done c o x found bios entries items =
    let l = ideal_of c.args.holdings.now in
    let chunks = bio_chunks l o (bio_of c.args.bytes) in
    let pas = page_addresses c.in-Granted.pages.items in
    let none = image-none memory_of c.args.holdings.now.memories.map c.args.map c.requires.own in
    c.complete_load.ensures.done o x found entries items
    ∙ ap (λ cs. finished c.args.map o c.place-load_at.result x cs pas l)
    (plain-chunks l c.args.map o (bio_of c.args.bytes) none)
    ∙ (λ i. finished c.args.map o (c.place-load_at.ensures i) x chunks (sym (same-pages pas) i) l)
    ∙ sym (ap (λ g. granted c.args.map o x chunks l (grab_reply g)) c.in-Granted.is)

pub returns-in-Queued-clause-done : goal.returns-in-Queued-clause-done
returns-in-Queued-clause-done c o x found bios entries items =
    let l = ideal_of c.args.holdings.now in
    let chunks = bio_chunks l o (bio_of c.args.bytes) in
    let need : c.args.need ≡ need_of chunks = (c.requires.room o found).need in
    (λ i. record {
      lane = (c.wait_load.ensures.done o found
          ∙ (λ j. staged c.args.map o (Waiting (record {
            load_at = c.place-load_at.ensures j;
            bio = sym bios j;
            items = sym items j;
            need = need j;
          })) l)) i;
      answer = InProgress c.in-Queued.have (need i);
    })
    ∙ sym (ap (λ g. granted c.args.map o x chunks l (grab_reply g)) c.in-Queued.is)

pub returns-in-NoPages-clause-done : goal.returns-in-NoPages-clause-done
returns-in-NoPages-clause-done c o x found bios entries items =
    let l = ideal_of c.args.holdings.now in
    let chunks = bio_chunks l o (bio_of c.args.bytes) in
    let e : ideal_of c.undo_load.new.holdings ≡ l = c.undo_load.ensures.same.ideal in
    (λ i. record {
      lane = (c.note_tried.ensures.done o (ap (λ (y : LaneState). get y.maps c.args.map) e ∙ found)
          ∙ ap (staged c.args.map o Idle) e) i;
      answer = Refused ENOMEM;
    })
    ∙ sym (ap (λ g. granted c.args.map o x chunks l (grab_reply g)) c.in-NoPages.is)

pub complete_load-requires-clause-reached : goal.complete_load-requires-clause-reached
complete_load-requires-clause-reached c =
    paged-reached (ideal_of c.args.holdings.now) (bio_of c.args.bytes) c.requires.paged

pub wait_load-requires-clause-awaiting : goal.wait_load-requires-clause-awaiting
wait_load-requires-clause-awaiting c o there =
    begins-waiting c.args.holdings.now c.requires.stands c.args.map
    (record { bytes = c.args.bytes; items = c.args.items; need = c.args.need }) c.args.room o there c.requires.own
    c.requires.paged c.requires.loadable c.requires.room c.requires.prepared

pub returns-in-Granted-clause-due : goal.returns-in-Granted-clause-due
returns-in-Granted-clause-due c =
    let all : HasNeed c.args.need (Granted c.in-Granted.pages) =
    subst (λ (g : Grabbed). HasNeed c.args.need g) c.in-Granted.is c.requires.granted in
    omega (arith, all, c.complete_load.ensures.due)

pub returns-in-Queued-clause-due : goal.returns-in-Queued-clause-due
returns-in-Queued-clause-due c =
    omega (arith, c.wait_load.ensures.due, ap (λ a. a.promised) c.wait_load.ensures.agenda)

pub returns-in-NoPages-clause-due : goal.returns-in-NoPages-clause-due
returns-in-NoPages-clause-due c =
    omega (
      arith,
      c.requires.promised,
      ap (λ a. a.promised) c.undo_load.ensures.agenda,
      ap (λ t. pages_due t.map) c.undo_load.ensures.maps,
      ap (λ a. a.promised) c.note_tried.ensures.agenda,
      c.note_tried.ensures.due,
    )
