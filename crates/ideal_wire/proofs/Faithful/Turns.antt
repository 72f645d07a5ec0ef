-- Any turn leaves the wire faithful, whatever pages come and go.
use Rattle.std.proofs.Common.{◌≡◌, ℕ, Bool, true, false, cond, if◌then◌else◌, List, [], ◌∷◌, Option, Some, None}
use Rattle.std.proofs.Common.{refl, ap, sym, ◌∙◌, slice_get, subst, arith, is_some, ◌⊎◌, inl, inr}
use Rattle.std.proofs.lemmas.Bool.{false≢true}
use Rattle.std.specs.FinMap.{get}
use Rattle.busdma_machine.specs.declared.bounce.hold.HubReply.{HubReply}
use Rattle.busdma_machine.specs.declared.bounce.hold.HubReply.TheVariants as reply
use Rattle.busdma_base.specs.declared.journals.answer.Answer.TheVariants as answer
use Rattle.busdma_base.specs.declared.journals.journal.Side.{Side}
use Rattle.busdma_base.specs.declared.journals.journal.Side.TheVariants as side
use Rattle.busdma_machine.specs.declared.machine.address.Pa.{Pa}
use Rattle.busdma_base.specs.declared.scenarios.script.Item.{Item}
use Rattle.busdma_base.specs.declared.scenarios.script.Item.TheVariants as item
use Rattle.busdma_base.specs.declared.scenarios.script.Op.{Op}
use Rattle.busdma_base.specs.declared.scenarios.script.Op.TheVariants as op
use Rattle.busdma_machine.specs.declared.tags.tag.TagLimits.{TagLimits}
use Rattle.busdma_machine.specs.Bounce.Account.{Account}
use Rattle.busdma_machine.specs.Bounce.MemoryRuns.{in_run}
use Rattle.busdma_machine.specs.Machine.Entry.{entries_addresses}
use Rattle.busdma_machine.specs.Machine.Wire.{Wire}
use Rattle.busdma_rules.specs.Tags.MemFlags.{zero_filled}
use Rattle.lane_agreement.specs.View.{Return}
use Rattle.busdma_base.specs.declared.scenarios.queued.QueuedItem.{QueuedItem}
use Rattle.busdma_rules.specs.declared.position.Position.{Position}
use Rattle.busdma_rules.specs.Lending.Loans.{loan_of, no_loan}
use Rattle.ideal_lane.specs.State.{LaneState, LaneMap, LaneMemory, Stage, Idle, Waiting, Loaded, Returning}
use Rattle.ideal_lane.specs.IdealMemory.{Content, Known, Unknown, is_known}
use Rattle.ideal_lane.specs.Agreement.{AgreesWith}
use Rattle.ideal_lane.specs.Asking.{Asking, Gives, Asks, by_reply, goes_on}
use Rattle.ideal_lane.specs.Loads.{is_coherent, load_judged}
use Rattle.ideal_lane.specs.Memories.{memory_by_reply, without_memory}
use Rattle.ideal_lane.specs.Outcomes.{Outcome, gives, is_idle, is_loaded, refused, unless_absent, unless_refused}
use Rattle.ideal_lane.specs.Rings.{ring_of, ring_step}
use Rattle.ideal_lane.specs.Sends.{Send, chain_bytes, cluster_bytes, copied, due_send, is_kept, load_again, send_of}
use Rattle.ideal_lane.specs.Standing.{Stands}
use Rattle.ideal_lane.specs.Turns.{Turned, operation, transfer, waits, lane_step}
use Rattle.ideal_lane.specs.Turns as turns
use Rattle.ideal_lane.specs.Unloads.{restaged, given_back, after_return}
use Rattle.ideal_lane.proofs.Effects.{AtOnce, Called, Creates, Device, Ends, Frees, Granted, IsUndone, Loads, Makes}
use Rattle.ideal_lane.proofs.Stepping.{Made}
use Rattle.ideal_lane.proofs.Effects.{Maps, Operation, Overflows, Places, Refuses, Touched, Transfer, Unloads}
use Rattle.ideal_lane.proofs.Stepping.{Only}
use Rattle.ideal_lane.proofs.Effects.{Unmaps, Waits, Work, again, asked_in, end_call, map_in}
use Rattle.ideal_lane.proofs.Stepping.{called-makes, operation-makes}
use Rattle.ideal_lane.proofs.Stepping.{transfer-touches}
use Rattle.ideal_wire.specs.Apart.{IsApart}
use Rattle.ideal_wire.specs.Centre.{IsAt, IsFaithful}
use Rattle.ideal_wire.specs.Laid.{LiesIn, AreLaid}
use Rattle.ideal_wire.specs.Mapped.{AreMapped}
use Rattle.ideal_wire.specs.NewRuns.{BringsNew, IsNewRun}
use Rattle.ideal_wire.specs.Spaced.{AreSpaced}
use Rattle.ideal_wire.specs.Traces.{stage_in, stage_at}
use Rattle.ideal_wire.specs.WireStep as wire
use Rattle.ideal_wire.specs.WireStep.{Follows}
use Rattle.ideal_wire.proofs.Faithful.Carried.{Carries, are-bused, but-one, carried, fewer-carries, like-carries}
use Rattle.ideal_wire.proofs.Faithful.Carried.{same-carries}
use Rattle.ideal_wire.proofs.Faithful.Carried.{idle-carries, load-carries, unload-carries, put-stage, cut-stage}
use Rattle.ideal_wire.proofs.Faithful.FaithfulRings.{RingStays, ring-stays}
use Rattle.ideal_wire.proofs.Apart.Frames.{agreeing-apart}
use Rattle.ideal_wire.proofs.Faithful.PlacedLoads.{load-of, loadable-own}
use Rattle.ideal_wire.proofs.Apart.Returning.{returning-unloaded}
use Rattle.busdma_machine.specs.declared.bounce.hold.HubCall.{HubCall}
use Rattle.busdma_base.specs.declared.journals.answer.Answer.{Answer}
use Rattle.busdma_machine.specs.declared.report.Errno.TheVariants.{EFBIG}
use Rattle.busdma_machine.specs.declared.machine.bio.Bio.TheVariants.{Vector}
use Rattle.busdma_machine.specs.declared.report.Judged.{Judged}
use Rattle.busdma_machine.specs.declared.report.Judged.TheVariants.{Fine, Refused}
use Rattle.busdma_machine.specs.declared.report.Report.{Report}
use Rattle.busdma_machine.specs.declared.report.ReportName.TheVariants.{Absent, MapBusy}
use Rattle.busdma_rules.specs.Lending.Access.{cpu_read_answer, cpu_write_answer}
use Rattle.ideal_wire.proofs.Faithful.CopiedClusters.{copied-faithful, copied-follows, copied-laid, copied-mapped}
use Rattle.ideal_wire.proofs.Faithful.CopiedClusters.{copied-new, copied-spaced}
use Rattle.ideal_wire.proofs.Faithful.Wiring.{Needs, now, touches-stay, undone}

module _ (l : LaneState) (a : Account) (w : Wire) (stands : Stands l) (agrees : AgreesWith l a) (laid : AreLaid l)
    (spaced : AreSpaced l) (mapped : AreMapped l) (f : IsFaithful l w) where
  apart : IsApart l
  apart = agreeing-apart l a agrees stands laid

  -- ---- steps that change no byte

  same : Carries l l
  same = same-carries l l f.exclusive refl refl (λ n i p at. refl)

  -- a map with no load has another stage, or comes, or goes
  no-loan-in : (m : ℕ) (s : Stage) → stage_at l m ≡ s → is_loaded s ≡ false → loan_of l.loans m ≡ no_loan
  no-loan-in m s e none = by s none (subst (LiesIn l m) e (laid.each m))
    where
      by : (s : Stage) → is_loaded s ≡ false → LiesIn l m s → loan_of l.loans m ≡ no_loan
      by Idle none h = h
      by (Waiting w) none h = h.unlent
      by (Loaded cs ss ps) none h = absurd (cc)
      by Returning none h = h

  no-loan : (m : ℕ) (o : LaneMap) → get l.maps m ≡ Some o → is_loaded o.stage ≡ false → loan_of l.loans m ≡ no_loan
  no-loan m o e none = no-loan-in m o.stage (ap stage_in e) none

  idle-unloaded : (s : Stage) → is_idle s ≡ true → is_loaded s ≡ false
  idle-unloaded Idle e = refl
  idle-unloaded (Waiting w) e = absurd (cc)
  idle-unloaded (Loaded cs ss ps) e = absurd (cc)
  idle-unloaded Returning e = absurd (cc)

  put : (m : ℕ) (x : LaneMap) (l' : LaneState) → loan_of l.loans m ≡ no_loan → l'.loans ≡ l.loans →
      l'.memory ≡ l.memory → l'.maps ≡ Rattle.std.specs.FinMap.insert l.maps m x → Carries l l'
  put m x l' none loans memory maps =
      idle-carries l l' m f.exclusive loans memory none
      (λ n off. (λ i. stage_in (get (maps i) n)) ∙ put-stage l m n x off)

  cut : (m : ℕ) (l' : LaneState) → loan_of l.loans m ≡ no_loan → l'.loans ≡ l.loans →
      l'.memory ≡ l.memory → l'.maps ≡ Rattle.std.specs.FinMap.remove l.maps m → Carries l l'
  cut m l' none loans memory maps =
      idle-carries l l' m f.exclusive loans memory none
      (λ n off. (λ i. stage_in (get (maps i) n)) ∙ cut-stage l m n off)

  kept : (l' : LaneState) → l'.loans ≡ l.loans → l'.memory ≡ l.memory → l'.maps ≡ l.maps → Carries l l'
  kept l' loans memory maps =
      same-carries l l' f.exclusive loans memory (λ n i p at. (λ x. stage_in (get (maps x) n)))

  -- nothing was made yet at the place of the script
  none-here : loan_of l.loans l.place ≡ no_loan
  none-here = no-loan-in l.place Idle (ap stage_in (stands.no_map l.place (omega arith))) refl

  -- a page goes back, of a map that has no load
  given-carries : (x : Return) (rest : List Return) → l.returns ≡ x ∷ rest → Carries l (given_back x rest l)
  given-carries x rest e = by (get l.maps x.map) refl
    where
      by : (y : Option LaneMap) → get l.maps x.map ≡ y →
          Carries l (record (restaged x.map y (after_return x.map rest) l) { returns = rest })
      by None g = kept _ refl refl refl
      by (Some o) g =
          put x.map _ _ (no-loan x.map o g (returning-unloaded l a agrees x rest e o g)) refl refl refl

  -- ---- memories

  -- the bytes of new frames are none that a map lends
  placed-carries : (t : ℕ) (limits : TagLimits) (flags : ℕ) (first : Pa) (count : ℕ) → IsNewRun l first.0 count →
      Carries l (memory_by_reply t limits flags l (reply.Run first count)).lane
  placed-carries t limits flags first count new =
      like-carries l after f.exclusive refl (λ a v is. known a v (inside a) refl is)
      (λ n i v p at is. held p.pa v (lent-own n i p at) (inside p.pa) refl is)
      (but-one l after l.place none-here (λ n off. put-stage l l.place n _ off))
    where
      after : LaneState
      after = (memory_by_reply t limits flags l (reply.Run first count)).lane

      inside : ℕ → Bool
      inside a = in_run first.0 count a

      content : Content
      content = if zero_filled flags then Known 0 else Unknown

      lent-own : (n i : ℕ) (p : Position) → IsAt l.loans n i p → is_some (l.memory p.pa) ≡ true
      lent-own n i p at =
          laid.owned p.pa (loadable-own l laid n p.pa ((load-of l laid n i p at).load.bytes i p at))

      none-of : (o : Option Content) → is_some o ≡ false → o ≡ None
      none-of None e = refl
      none-of (Some c) e = absurd (cc)

      known : (a v : ℕ) (b : Bool) → inside a ≡ b → (if b then Some content else l.memory a) ≡ Some (Known v) →
          (l.memory a ≡ Some (Known v)) ⊎ (l.memory a ≡ None)
      known a v true e is = inr (none-of (l.memory a) (new.fresh a e))
      known a v false e is = inl is

      held : (a v : ℕ) → is_some (l.memory a) ≡ true → (b : Bool) → inside a ≡ b →
          (if b then Some content else l.memory a) ≡ Some (Known v) → l.memory a ≡ Some (Known v)
      held a v own true e is = absurd (false≢true (sym (new.fresh a e) ∙ own))
      held a v own false e is = is

  without-carries : (m : ℕ) (x : LaneMemory) → loan_of l.loans m ≡ no_loan → Carries l (without_memory m x l)
  without-carries m x none =
      fewer-carries l (without_memory m x l) f.exclusive refl
      (λ a v is. had a v (in_run x.first x.count a) is)
      (but-one l (without_memory m x l) m none (λ n off. cut-stage l m n off))
    where
      had : (a v : ℕ) (b : Bool) → (if b then None else l.memory a) ≡ Some (Known v) → l.memory a ≡ Some (Known v)
      had a v true is = absurd (cc)
      had a v false is = is

  -- a load that ends lent nothing
  unlent : {d : Work} {c : Option HubCall} {r : HubReply} (k : Ends l d c r) →
      loan_of l.loans (map_in k) ≡ no_loan
  unlent (AtOnce b plain none) = no-loan b.m b.o b.there (idle-unloaded b.o.stage b.idle)
  unlent (Granted b plain some pages) = no-loan b.m b.o b.there (idle-unloaded b.o.stage b.idle)
  unlent (Device b device first spaces taken) = no-loan b.m b.o b.there (idle-unloaded b.o.stage b.idle)
  unlent (Called m pages o v there waits) = no-loan m.made_at o there (ap is_loaded waits)

  -- ---- each effect

  -- the wire after a step, by its call and its answer
  abbrev wired : Option HubCall → Answer → Wire → Wire
  wired None x after = wire.if_answered x after w
  wired (Some c) x after = w

  undone-wired : (c : Option HubCall) (x : Answer) (after : Wire) → IsUndone x → wired c x after ≡ w
  undone-wired None x after u = undone l w apart laid f x after u
  undone-wired (Some c) x after u = refl

  same-answered : (x : Answer) → wire.if_answered x w w ≡ w
  same-answered answer.Done = refl
  same-answered _ = refl

  same-wired : (c : Option HubCall) (x : Answer) → wired c x w ≡ w
  same-wired None x = same-answered x
  same-wired (Some c) x = refl

  -- pages come and go after a step, and new frames; most change no byte
  record Outcomes (c : Option HubCall) (x : Outcome) (after : Wire) : Type 0 where
    stays : (w' : Wire) → Follows l x.lane (wired c x.answer after) w' → IsFaithful x.lane w'

  idle : {c : Option HubCall} {x : Outcome} {after : Wire} → wired c x.answer after ≡ w → Carries l x.lane →
      Outcomes c x after
  idle {x = x} e carries = record {
    stays = λ w' h. carried l x.lane w w' (are-bused l laid) f carries (subst (λ v. Follows l x.lane v w') e h);
  }

  makes-stay : {d : Work} {c : Option HubCall} {r : HubReply} {x : Outcome} → Needs l d → BringsNew l r →
      Makes l d c r x → Outcomes c x (now l w apart laid f d)
  makes-stay needs new (Touched t) = record {
    stays = λ w' h. touches-stay l w apart laid f t needs w' h.own h.pages;
  }
  makes-stay needs new (Maps name t g there b) = idle refl (put l.place _ _ none-here refl refl refl)
  makes-stay needs new (Creates name t g there b n m) = idle refl (put l.place _ _ none-here refl refl refl)
  makes-stay needs new (Unmaps m o there i) =
      idle (same-wired (end_call l m o.zone) answer.Done)
      (cut m _ (no-loan m o there (idle-unloaded o.stage i)) refl refl refl)
  makes-stay needs new (Places name t flags g there first count) =
      idle refl (placed-carries t g.limits flags first count new)
  makes-stay needs new (Frees m x there o found i) =
      idle refl (without-carries m x (no-loan m o found (idle-unloaded o.stage i)))
  makes-stay {c = c} needs new (Refuses b over e) =
      idle (undone-wired c (answer.Refused e) _ tt)
      (put b.m _ _ (no-loan b.m b.o b.there (idle-unloaded b.o.stage b.idle)) refl refl refl)
  makes-stay needs new (Waits b plain some have) =
      idle refl (put b.m _ _ (no-loan b.m b.o b.there (idle-unloaded b.o.stage b.idle)) refl refl refl)
  makes-stay {c = c} needs new (Loads k e) =
      idle (undone-wired c (answer.Segments _) _ tt)
      (load-carries l _ (map_in k) (is_coherent (get l.mems (map_in k))) (entries_addresses (asked_in k).entries)
      f.exclusive (unlent k) refl refl (λ n off. put-stage l (map_in k) n _ off))
  makes-stay {c = c} needs new (Overflows k e) =
      idle (undone-wired c (answer.Refused EFBIG) _ tt) (put (map_in k) _ _ (unlent k) refl refl refl)
  makes-stay needs new (Unloads m o there i) =
      idle refl (unload-carries l _ m f.exclusive refl refl (λ n off. put-stage l m n _ off))
  makes-stay needs new _ = idle refl (kept _ refl refl refl)

-- ---- the turn
module _ (l : LaneState) (a : Account) (w : Wire) (stands : Stands l) (agrees : AgreesWith l a) (laid : AreLaid l)
    (spaced : AreSpaced l) (mapped : AreMapped l) (f : IsFaithful l w) where
  abbrev apart-here : IsApart l
  apart-here = agreeing-apart l a agrees stands laid

  abbrev Stays : Wire → Asking Turned → Type 0
  Stays after t = (r : HubReply) (w' : Wire) → BringsNew l r → Follows l (by_reply t r).lane after w' →
      IsFaithful (by_reply t r).lane w'

  -- `Follows` is about the driver's memory and its maps only
  went : (b : Bool) (k : Outcome) (after w' : Wire) →
      Follows l (if b then turns.kept l.place k else turns.advanced l.place k).lane after w' → Follows l k.lane after w'
  went true k after w' g = record { own = g.own; pages = g.pages; known = g.known }
  went false k after w' g = record { own = g.own; pages = g.pages; known = g.known }

  went-faithful : (b : Bool) (k : Outcome) (w' : Wire) → IsFaithful k.lane w' →
      IsFaithful (if b then turns.kept l.place k else turns.advanced l.place k).lane w'
  went-faithful true k w' g = g
  went-faithful false k w' g = g

  left : (k : LaneState) (queue : List QueuedItem) (after w' : Wire) → Follows l (record k { queue = queue }) after w' →
      Follows l k after w'
  left k queue after w' g = record { own = g.own; pages = g.pages; known = g.known }

  -- the wire of an operation
  same-done : (x : Asking Outcome) → wire.if_done x w w ≡ w
  same-done (Gives x) = same-answered l a w stands agrees laid spaced mapped f x.answer
  same-done (Asks c k) = refl

  wire-operation : (o : Op) →
      wire.wire_operation o l w ≡ wire.if_done (operation o l) (now l w apart-here laid f (Operation o)) w
  wire-operation (op.Sync m ops) = refl
  wire-operation (op.SyncRange m off len ops) = refl
  wire-operation (op.CpuWrite place bs) = refl
  wire-operation (op.RingPost k slot m off len kind fill) = refl
  wire-operation o = sym (same-done (operation o l))

  advances : (o : Op) → Stays (wire.wire_operation o l w) (goes_on (turns.went_on o l.place) (operation o l))
  advances o =
      subst (λ v. Stays v (goes_on (turns.went_on o l.place) (operation o l))) (sym (wire-operation o))
      (by (operation o l) (operation-makes l o))
    where
      ends : {c : Option HubCall} {r : HubReply} {x : Outcome} → BringsNew l r → Makes l (Operation o) c r x →
          (w' : Wire) → Follows l (turns.went_on o l.place x).lane
          (wired l a w stands agrees laid spaced mapped f c x.answer (now l w apart-here laid f (Operation o))) w' →
          IsFaithful (turns.went_on o l.place x).lane w'
      ends {x = x} new m w' g =
          went-faithful (is_kept (send_of o) x.answer) x w'
          ((makes-stay l a w stands agrees laid spaced mapped f tt new m).stays w'
          (went (is_kept (send_of o) x.answer) x _ w' g))

      by : (x : Asking Outcome) → Made l (Operation o) x →
          Stays (wire.if_done x (now l w apart-here laid f (Operation o)) w) (goes_on (turns.went_on o l.place) x)
      by (Gives y) h r w' new g = ends new (h r) w' g
      by (Asks c k) h r w' new g = ends new (h r) w' g

  leaves : (q : QueuedItem) (rest : List QueuedItem) →
      Stays (wire.wire_transfer q.item l w) (goes_on (turns.left_queue q rest) (transfer q.item l))
  leaves q rest = each q.item
    where
      by : (i : Item) → Needs l (Transfer i) → (x : Asking Outcome) → Only l (Transfer i) x →
          Stays (wire.if_done x (now l w apart-here laid f (Transfer i)) w) (goes_on (turns.left_queue q rest) x)
      by i needs (Gives y) h r w' new g =
          let g' = left y.lane rest _ w' g in touches-stay l w apart-here laid f h needs w' g'.own g'.pages
      by i needs (Asks c k) h r w' new g = absurd h

      -- an item whose wire is that of its work
      plain : (i : Item) → Needs l (Transfer i) →
          wire.wire_transfer i l w ≡ wire.if_done (transfer i l) (now l w apart-here laid f (Transfer i)) w →
          Stays (wire.wire_transfer i l w) (goes_on (turns.left_queue q rest) (transfer i l))
      plain i needs e =
          subst (λ v. Stays v (goes_on (turns.left_queue q rest) (transfer i l))) (sym e)
          (by i needs (transfer i l) (transfer-touches l i))

      by-ring : (k : ℕ) (x : Asking Outcome) → RingStays l w apart-here laid f stands k x →
          Stays (wire.if_step_done x (wire.fetched_wire (ring_of l k) l w) w) (goes_on (turns.left_queue q rest) x)
      by-ring k (Gives y) h r w' new g = let g' = left y.lane rest _ w' g in h w' g'.own g'.pages
      by-ring k (Asks c e) h r w' new g = absurd h

      each : (i : Item) → Stays (wire.wire_transfer i l w) (goes_on (turns.left_queue q rest) (transfer i l))
      each (item.Sync m ops) = plain (item.Sync m ops) tt refl
      each (item.SyncRange m off len ops) = plain (item.SyncRange m off len ops) tt refl
      each (item.DevRead m off len) =
          plain (item.DevRead m off len) tt (sym (same-done (transfer (item.DevRead m off len) l)))
      each (item.DevWrite m off bs) = plain (item.DevWrite m off bs) tt refl
      each (item.DevReadAt t addr len) =
          plain (item.DevReadAt t addr len) tt (sym (same-done (transfer (item.DevReadAt t addr len) l)))
      each (item.DevWriteAt t addr bs) =
          plain (item.DevWriteAt t addr bs)
          (record { stands = stands; laid = laid; spaced = spaced; mapped = mapped }) refl
      each (item.RingStep k) = by-ring k (ring_step k l) (ring-stays l w apart-here laid f stands k)

  still : (w' : Wire) → Follows l l w w' → IsFaithful l w'
  still w' h = carried l l w w' (are-bused l laid) f (same l a w stands agrees laid spaced mapped f) h

  next-stays : (o : Option Op) → Stays (wire.wire_next_operation o l w) (turns.next_operation o l)
  next-stays None r w' new h = still w' h
  next-stays (Some o) r w' new h = by (waits o l) r w' new h
    where
      by : (b : Bool) → Stays (cond b w (wire.wire_operation o l w))
          (if b then Gives (turns.stays turns.Blocked l) else goes_on (turns.went_on o l.place) (operation o l))
      by true r w' new h = still w' h
      by false r w' new h = advances o r w' new h

  -- ---- a resend

  -- a refused resend changes nothing
  refused-stays : (x : Report) → Stays w (goes_on (turns.resent l.place) (gives l (answer.Report x)))
  refused-stays x r w' new h = still w' (record { own = h.own; pages = h.pages; known = h.known })

  module _ (s : Send) where
    abbrev resent-by : Asking Outcome → Asking Turned
    resent-by = goes_on (turns.resent l.place)

    -- a resend that has copied ends like the load of its clusters
    module _ (fine : load_judged l s.map (Vector s.clusters) ≡ Fine)
        (reads : cpu_read_answer (is_known l.memory) l.loans (chain_bytes s l) ≡ Fine)
        (writes : cpu_write_answer l.loans (cluster_bytes s l) ≡ Fine) where
      abbrev filled : LaneState
      filled = copied s l

      abbrev filled-wire : Wire
      filled-wire = wire.wire_copied s l w

      filled-faithful : IsFaithful filled filled-wire
      filled-faithful = copied-faithful l s w apart-here laid f fine reads writes

      load-ends : {c : Option HubCall} {r : HubReply} {x : Outcome} → BringsNew l r →
          Makes filled (Operation (again s)) c r x → (w' : Wire) →
          Follows l (turns.resent l.place x).lane filled-wire w' → IsFaithful (turns.resent l.place x).lane w'
      load-ends {c = c} {r = r} {x = x} new m w' g =
          (makes-stay filled a filled-wire stands agrees (copied-laid l s laid) (copied-spaced l s spaced)
          (copied-mapped l s mapped) filled-faithful tt (copied-new l s r new) m).stays w'
          (subst (λ v. Follows filled x.lane v w')
          (sym (same-wired filled a filled-wire stands agrees (copied-laid l s laid) (copied-spaced l s spaced)
          (copied-mapped l s mapped) filled-faithful c x.answer))
          (copied-follows l s x.lane filled-wire w' (record { own = g.own; pages = g.pages; known = g.known })))

      copied-stays : Stays filled-wire (resent-by (load_again s filled))
      copied-stays = by (load_again s filled) (operation-makes filled (again s))
        where
          by : (x : Asking Outcome) → Made filled (Operation (again s)) x → Stays filled-wire (resent-by x)
          by (Gives y) h r w' new g = load-ends new (h r) w' g
          by (Asks c k) h r w' new g = load-ends new (h r) w' g

    -- the walk over what may refuse it
    abbrev written-next : Asking Outcome
    written-next = unless_refused (cpu_write_answer l.loans (cluster_bytes s l)) l (load_again s (copied s l))

    abbrev read-next : Asking Outcome
    read-next = unless_refused (cpu_read_answer (is_known l.memory) l.loans (chain_bytes s l)) l written-next

    abbrev judged-next : Asking Outcome
    judged-next = unless_refused (load_judged l s.map (Vector s.clusters)) l read-next

    abbrev written-wire : Wire
    written-wire = wire.if_fine (cpu_write_answer l.loans (cluster_bytes s l)) (wire.wire_copied s l w) w

    abbrev read-wire : Wire
    read-wire = wire.if_fine (cpu_read_answer (is_known l.memory) l.loans (chain_bytes s l)) written-wire w

    abbrev judged-wire : Wire
    judged-wire = wire.if_fine (load_judged l s.map (Vector s.clusters)) read-wire w

    by-write : load_judged l s.map (Vector s.clusters) ≡ Fine →
        cpu_read_answer (is_known l.memory) l.loans (chain_bytes s l) ≡ Fine → (j : Judged) →
        cpu_write_answer l.loans (cluster_bytes s l) ≡ j →
        Stays (wire.if_fine j (wire.wire_copied s l w) w) (resent-by (unless_refused j l (load_again s (copied s l))))
    by-write fine reads Fine e r w' new h = copied-stays fine reads e r w' new h
    by-write fine reads (Refused x) e r w' new h = refused-stays x r w' new h

    by-read : load_judged l s.map (Vector s.clusters) ≡ Fine → (j : Judged) →
        cpu_read_answer (is_known l.memory) l.loans (chain_bytes s l) ≡ j →
        Stays (wire.if_fine j written-wire w) (resent-by (unless_refused j l written-next))
    by-read fine Fine e r w' new h = by-write fine e (cpu_write_answer l.loans (cluster_bytes s l)) refl r w' new h
    by-read fine (Refused x) e r w' new h = refused-stays x r w' new h

    by-load : (j : Judged) → load_judged l s.map (Vector s.clusters) ≡ j →
        Stays (wire.if_fine j read-wire w) (resent-by (unless_refused j l read-next))
    by-load Fine e r w' new h =
        by-read e (cpu_read_answer (is_known l.memory) l.loans (chain_bytes s l)) refl r w' new h
    by-load (Refused x) e r w' new h = refused-stays x r w' new h

    in-stage : (b : Bool) → Stays (if b then judged-wire else w)
        (resent-by (if b then judged-next else refused MapBusy 0 l))
    in-stage true r w' new h = by-load (load_judged l s.map (Vector s.clusters)) refl r w' new h
    in-stage false r w' new h = refused-stays (record { name = MapBusy; at = 0 }) r w' new h

    by-map : (q : Option LaneMap) → Stays (if wire.is_free q then judged-wire else w)
        (resent-by (unless_absent q l (λ o. if is_idle o.stage then judged-next else refused MapBusy 0 l)))
    by-map None r w' new h = refused-stays (record { name = Absent; at = 0 }) r w' new h
    by-map (Some o) r w' new h = in-stage (is_idle o.stage) r w' new h

  due-stays : (q : Option Send) → Stays (wire.wire_due_turn q l w) (turns.due_turn q l)
  due-stays None r w' new h = next-stays (slice_get l.script l.place) r w' new h
  due-stays (Some s) r w' new h = by-map s (get l.maps s.map) r w' new h

  script-stays : (rs : List Return) → l.returns ≡ rs → Stays (wire.wire_script_turn rs l w) (turns.script_turn rs l)
  script-stays [] e r w' new h = due-stays (due_send l) r w' new h
  script-stays (x ∷ rest) e r w' new h =
      carried l (given_back x rest l) w w' (are-bused l laid) f
      (given-carries l a w stands agrees laid spaced mapped f x rest e) h

  queue-stays : (q : List QueuedItem) → Stays (wire.wire_transfer_turn q l w) (turns.transfer_turn q l)
  queue-stays [] r w' new h = still w' h
  queue-stays (q ∷ rest) r w' new h = leaves q rest r w' new h

  callback-stays : Stays w (turns.callback_turn l)
  callback-stays (reply.Called m pages) w' new h =
      (makes-stay l a w stands agrees laid spaced mapped f tt new (called-makes l m pages)).stays w' h
  callback-stays _ w' new h = still w' h

  pub turn-stays : (s : Side) → Stays (wire.wire_lane_step l s w) (lane_step l s)
  turn-stays side.Script = script-stays l.returns refl
  turn-stays side.Transfer = queue-stays l.queue
  turn-stays side.Callback = callback-stays
