-- Bytes that are written are Known: the bytes of the clusters of a resend, and two bytes of a ring's descriptor.
use Rattle.std.proofs.Common.{◌≡◌, ℕ, zero, suc, ◌+◌, ◌≤◌, ◌==◌, Bool, true, false, cond, if◌then◌else◌, List, [], ◌∷◌}
use Rattle.std.proofs.Common.{length, map}
use Rattle.std.proofs.Common.{take, drop, slice_get, Option, Some, None, is_some, refl, sym, ap, ◌∙◌, subst, arith}
use Rattle.std.proofs.Common.{eq-eqb}
use Rattle.std.proofs.Common.{length-take}
use Rattle.std.proofs.lemmas.List.{length-map}
use Rattle.std.proofs.lemmas.Option.{slice_get-map}
use Rattle.std.specs.Option.{option_map}
use Rattle.std.specs.Prelude.{replicate}
use Rattle.busdma_machine.specs.declared.bounce.hold.HubCall.{HubCall}
use Rattle.busdma_machine.specs.declared.bounce.hold.HubReply.{HubReply}
use Rattle.busdma_machine.specs.declared.report.ReportName.TheVariants.{CpuReadLent, StaleByte}
use Rattle.busdma_machine.specs.Bounce.Account.{Account}
use Rattle.busdma_base.specs.declared.journals.answer.Answer.{Answer}
use Rattle.busdma_base.specs.declared.journals.answer.Answer.TheVariants as answer
use Rattle.busdma_base.specs.declared.journals.journal.Did.{Did}
use Rattle.busdma_base.specs.declared.journals.journal.Did.TheVariants as did
use Rattle.busdma_base.specs.declared.journals.journal.JournalEntry.{JournalEntry}
use Rattle.busdma_base.specs.declared.journals.journal.Side.{Side}
use Rattle.busdma_base.specs.declared.scenarios.scenario.Scenario.{Scenario}
use Rattle.busdma_base.specs.Journals.Reports.{is_report}
use Rattle.busdma_rules.specs.declared.position.Position.{Position}
use Rattle.busdma_rules.specs.Lending.Access.{cpu_read_refusal}
use Rattle.busdma_rules.specs.Lending.Loans.{load_bytes, loan_of, lent, to_write}
use Rattle.ideal_lane.specs.Accesses.{values}
use Rattle.ideal_lane.specs.Agreement.{AgreesWith}
use Rattle.ideal_lane.specs.Asking.{Asking, Gives, by_reply}
use Rattle.ideal_lane.specs.IdealMemory.{Content, IdealMemory, Known, is_known, known, value, written, written_at}
use Rattle.ideal_lane.specs.Outcomes.{Outcome}
use Rattle.ideal_lane.specs.Rings.{head_at, head_of, retired, ring_of, ring_step, stored, told}
use Rattle.ideal_lane.specs.Sends.{Send, chain_bytes, cluster_bytes, copied, due_send, send_at}
use Rattle.ideal_lane.specs.Standing.{Stands}
use Rattle.ideal_lane.specs.State.{LaneState}
use Rattle.ideal_lane.specs.Turns.{Turn, Turned, Stepped, Blocked, Ended, at_next, lane_step}
use Rattle.ideal_lane.proofs.Effects.{Advances, Calls, Copies, Declines, Fetching, IsAgain, Keeps, Leaves, Makes}
use Rattle.ideal_lane.proofs.Effects.{Operation, Releases}
use Rattle.ideal_lane.proofs.Effects.{NoneCalled, NothingLeft, NothingNow, Resends, Same, Stays, Steps, Syncs, Touched}
use Rattle.ideal_lane.proofs.Effects.{Vain, Refuses, Waits, Loads, Overflows, after_fetch, again}
use Rattle.ideal_lane.proofs.Sent.{due-clusters}
use Rattle.ideal_lane.proofs.Stepping.{turn-steps}
use Rattle.ideal_wire.specs.Apart.{IsApart}
use Rattle.ideal_wire.specs.Laid.{AreLaid}
use Rattle.ideal_wire.specs.Machine.{IsInMachine}
use Rattle.ideal_wire.specs.RingSteps.{HandsBack, HandsBackIn, IfFetched}
use Rattle.ideal_wire.proofs.Loads.Clusters.{bytes-own, copied-values, same-count}
use Rattle.ideal_wire.proofs.Faithful.BytesPut.{known_value}
use Rattle.ideal_wire.proofs.Apart.Frames.{agreeing-apart}
use Rattle.ideal_wire.proofs.Faithful.PlacedLoads.{Load, load-of, loadable-own}
use Rattle.ideal_wire.proofs.Laid.Positions.{fine_at, found_one, of_range}
use Rattle.ideal_wire.proofs.Faithful.RingBytes.{ring-hands-back}
use Rattle.ideal_wire.proofs.Faithful.RingCases.{IsUnfetched, by-fetch, ring-is}
use Rattle.ideal_wire.proofs.Faithful.Wiring.{own-written}
use Rattle.ideal_world.specs.WellFormed.{IsWellFormed}
use Rattle.ideal_world.specs.World.{WorldState, entry_of, step, step_entry}
use Rattle.ideal_world.proofs.Turns.{own-step}
use Rattle.ideal_laws.specs.KnownBytes.{AreKnown, IsCopied, LeavesDone}

-- ---- what is written is Known

one-known : (a k v : ℕ) (c : Option Content) → known c ≡ true → known (cond (a == k) (option_map (λ x. Known v) c) c)
    ≡ true
one-known a k v c h = by (a == k) c h
  where
    by : (b : Bool) (c : Option Content) → known c ≡ true → known (cond b (option_map (λ x. Known v) c) c) ≡ true
    by true None h = absurd (cc)
    by true (Some c) h = refl
    by false c h = h

stays-known : (keys vs : List ℕ) (memory : IdealMemory) (a : ℕ) → is_known memory a ≡ true →
    is_known (written keys vs memory) a ≡ true
stays-known [] vs memory a h = h
stays-known (k ∷ keys) [] memory a h = h
stays-known (k ∷ keys) (v ∷ vs) memory a h =
    stays-known keys vs (written_at k v memory) a (one-known a k v (memory a) h)

pub written-knows : (keys vs : List ℕ) (memory : IdealMemory) → length keys ≤ length vs → (i a : ℕ) →
    slice_get keys i ≡ Some a → is_some (memory a) ≡ true → is_known (written keys vs memory) a ≡ true
written-knows [] vs memory few i a at own = absurd (cc)
written-knows (k ∷ keys) [] memory few i a at own = absurd (omega (arith, few))
written-knows (k ∷ keys) (v ∷ vs) memory few zero a at own =
    stays-known keys vs (written_at k v memory) a
    (ap (λ b. known (cond b (option_map (λ x. Known v) (memory a)) (memory a)))
    (eq-eqb a k (sym (found_one (Some k) k a refl at))) ∙ by (memory a) own)
  where
    by : (c : Option Content) → is_some c ≡ true → known (option_map (λ (x : Content). Known v) c) ≡ true
    by None h = absurd (cc)
    by (Some c) h = refl
written-knows (k ∷ keys) (v ∷ vs) memory few (suc i) a at own =
    written-knows keys vs (written_at k v memory) (omega (arith, few)) i a at
    (own-written (k ∷ []) (v ∷ []) memory a ∙ own)

-- bytes that are all Known are Known with their values
pub all-known : (memory : IdealMemory) (keys vs : List ℕ) →
    ((i a : ℕ) → slice_get keys i ≡ Some a → is_known memory a ≡ true) → map (λ a. value (memory a)) keys ≡ vs →
    AreKnown memory keys vs
all-known memory keys vs h e = by keys h ∙ ap (map (λ v. Some (Known v))) e
  where
    by : (xs : List ℕ) → ((i a : ℕ) → slice_get xs i ≡ Some a → is_known memory a ≡ true) →
        map memory xs ≡ map (λ v. Some (Known v)) (map (λ a. value (memory a)) xs)
    by [] h = refl
    by (x ∷ xs) h =
        let first = known_value (memory x) (h 0 x refl) in
        let rest = by xs (λ i a at. h (suc i) a at) in
        λ j. first j ∷ rest j

-- ---- rings

module _ (l : LaneState) (laid : AreLaid l) (m off len : ℕ) where
  -- a byte of a range of a load is the driver's own
  range-own : (i a : ℕ) → slice_get (load_bytes l.loans m off len) i ≡ Some a → is_some (l.memory a) ≡ true
  range-own i a at =
      by (slice_get (take len (drop off (loan_of l.loans m).positions)) i) refl
      (sym (slice_get-map (λ (p : Position). p.pa) (take len (drop off (loan_of l.loans m).positions)) i) ∙ at)
    where
      by : (o : Option Position) → slice_get (take len (drop off (loan_of l.loans m).positions)) i ≡ o →
          option_map (λ (p : Position). p.pa) o ≡ Some a → is_some (l.memory a) ≡ true
      by None e g = absurd (cc)
      by (Some p) e g =
          let r = of_range (loan_of l.loans m).positions off len i p e in
          let h : Load l laid m = load-of l laid m (off + i) p r.whole in
          let same : p.pa ≡ a = found_one (Some p.pa) p.pa a refl g in
          subst (λ b. is_some (l.memory b) ≡ true) same
          (laid.owned p.pa (loadable-own l laid m p.pa (h.load.bytes (off + i) p r.whole)))

  range-few : length (load_bytes l.loans m off len) ≤ len
  range-few =
      omega (
        arith,
        length-map (take len (drop off (loan_of l.loans m).positions)) (λ (p : Position). p.pa),
        length-take len (drop off (loan_of l.loans m).positions),
      )

module _ (l : LaneState) (laid : AreLaid l) (k : ℕ) where
  -- a step that hands its descriptor back leaves that Known
  abbrev Known-by : Asking Outcome → Type 0
  Known-by x = HandsBackIn (ring_of l k) l x → LeavesDone (ring_of l k) x

  unfetched-known : (a : Answer) → IsUnfetched a → Known-by (Gives (record { lane = l; answer = a }))
  unfetched-known answer.Done u = absurd u
  unfetched-known (answer.Bytes vs) u = absurd u
  unfetched-known _ u = λ h. tt

  module _ (g : Fetching l k) where
    abbrev keys : List ℕ
    keys = load_bytes l.loans g.r.mem (head_at g.r + 14) 2

    abbrev after : LaneState
    after = after_fetch l k g.r (head_of g.r l) g.c

    two-known : (i a : ℕ) → slice_get keys i ≡ Some a → is_known after.memory a ≡ true
    two-known i a at = by ((head_of g.r l).kind == 1)
      where
        own : is_some (l.memory a) ≡ true
        own = range-own l laid g.r.mem (head_at g.r + 14) 2 i a at

        by : (b : Bool) → is_known (retired g.r (if b then l
            else stored g.c.map g.c.off (head_of g.r l).len (replicate (head_of g.r l).len (head_of g.r l).fill)
            l)).memory a
            ≡ true
        by true = written-knows keys (0 ∷ 1 ∷ []) l.memory (range-few l laid g.r.mem (head_at g.r + 14) 2) i a at own
        by false =
            written-knows keys (0 ∷ 1 ∷ [])
            (written (load_bytes l.loans g.c.map g.c.off (head_of g.r l).len)
            (replicate (head_of g.r l).len (head_of g.r l).fill) l.memory)
            (range-few l laid g.r.mem (head_at g.r + 14) 2) i a at
            (own-written (load_bytes l.loans g.c.map g.c.off (head_of g.r l).len)
            (replicate (head_of g.r l).len (head_of g.r l).fill) l.memory a
            ∙ own)

    hands-known : HandsBack g.r l after → AreKnown after.memory keys (0 ∷ 1 ∷ [])
    hands-known h = all-known after.memory keys (0 ∷ 1 ∷ []) two-known h.done

    fetched-known : Known-by (Gives (record { lane = after; answer = told (head_of g.r l) g.c l }))
    fetched-known =
        subst (λ q. IfFetched (told (head_of g.r l) g.c l) (HandsBack q l after) →
        IfFetched (told (head_of g.r l) g.c l) (AreKnown after.memory (load_bytes after.loans q.mem (head_at q + 14) 2)
        (0 ∷ 1 ∷ [])))
        (sym (ring-is l k g)) (by ((head_of g.r l).kind == 1))
      where
        by : (b : Bool) → let a : Answer = if b
            then answer.Bytes (values l (load_bytes l.loans g.c.map g.c.off (head_of g.r l).len)) else answer.Done in
            IfFetched a (HandsBack g.r l after) → IfFetched a (AreKnown after.memory keys (0 ∷ 1 ∷ []))
        by true h = hands-known h
        by false h = hands-known h

  pub ring-leaves : Stands l → LeavesDone (ring_of l k) (ring_step k l)
  ring-leaves stands = by-fetch l k Known-by unfetched-known fetched-known (ring-hands-back l stands laid k)

-- ---- resends

module _ (l : LaneState) (a : Account) (stands : Stands l) (agrees : AgreesWith l a) (laid : AreLaid l)
    (machine : IsInMachine l) (s : Send) where
  apart : IsApart l
  apart = agreeing-apart l a agrees stands laid

  -- the load of the clusters changes no byte
  pub same-bytes : {c : Option HubCall} {r : HubReply} {x : Outcome} → Makes (copied s l) (Operation (again s)) c r x →
      x.lane.memory ≡ (copied s l).memory
  same-bytes (Touched (Same a q u)) = refl
  same-bytes (Touched (Syncs m off len ops is o there i alone fine)) = elim is [ ]
  same-bytes (Vain v a u) = refl
  same-bytes (Refuses b over e) = refl
  same-bytes (Waits b plain some have) = refl
  same-bytes (Loads k e) = refl
  same-bytes (Overflows k e) = refl

  module _ (now : IsAgain l s) (k : Copies l s) where
    pub read-known : (b t : Bool) → (if b then Some CpuReadLent else if t then None else Some StaleByte) ≡ None → t
        ≡ true
    read-known true t e = absurd (cc)
    read-known false true e = refl
    read-known false false e = absurd (cc)

    pub chain-known : (i b : ℕ) → slice_get (chain_bytes s l) i ≡ Some b → is_known l.memory b ≡ true
    chain-known i b at =
        read-known (lent to_write b l.loans) (is_known l.memory b)
        (fine_at (cpu_read_refusal (is_known l.memory) l.loans) 0 (chain_bytes s l) k.readable i b at)

    clusters-known : (i b : ℕ) → slice_get (cluster_bytes s l) i ≡ Some b → is_known (copied s l).memory b ≡ true
    clusters-known i b at =
        written-knows (cluster_bytes s l) (values l (chain_bytes s l)) l.memory
        (let same = same-count l laid s apart machine (due-clusters l s now.due machine.clusters) k.fine in
        omega (arith, same))
        i b at (bytes-own l laid s s.clusters k.fine i b at)

    is-copied : (m : LaneState) → m.memory ≡ (copied s l).memory → IsCopied s l m
    is-copied m e = record {
      chain = all-known l.memory (chain_bytes s l) (values l (chain_bytes s l)) chain-known refl;
      clusters =
          ap (λ memory. map memory (cluster_bytes s l)) e
          ∙ all-known (copied s l).memory (cluster_bytes s l) (values l (chain_bytes s l)) clusters-known
          (copied-values l laid s apart machine (due-clusters l s now.due machine.clusters) k.fine);
    }

module _ (l : LaneState) (a : Account) (stands : Stands l) (agrees : AgreesWith l a) (laid : AreLaid l)
    (machine : IsInMachine l) where
  -- a resend that is no report copies
  abbrev CopiesBy : Did → Answer → LaneState → Type 0
  CopiesBy (did.Again place) r end =
      is_report r ≡ false → (d : Send) → send_at l.script place ≡ Some d → IsCopied d l end
  CopiesBy _ r end = Unit {0}

  abbrev CopiesIn : Turn → LaneState → Type 0
  CopiesIn (Stepped e) end = CopiesBy e.did e.answer end
  CopiesIn Blocked end = Unit {0}
  CopiesIn Ended end = Unit {0}

  pub due-is : (s : Send) → due_send l ≡ Some s → send_at l.script l.place ≡ Some s
  due-is s e = by l.due e
    where
      by : (b : Bool) → (if b then send_at l.script l.place else None) ≡ Some s → send_at l.script l.place ≡ Some s
      by true e = e
      by false e = absurd (cc)

  steps-copy : {s : Side} {c : Option HubCall} {r : HubReply} {t : Turned} → Steps l s c r t → CopiesIn t.turn t.lane
  steps-copy (Stays t NothingNow) = tt
  steps-copy (Stays t NothingLeft) = tt
  steps-copy (Stays t (NoneCalled u)) = tt
  steps-copy (Advances o at free k) = tt
  steps-copy (Keeps o at free s is big h k) = tt
  steps-copy (Declines s now x declined) = λ told. absurd (cc)
  steps-copy (Resends {x = x} s now k untold m) = λ told d at.
      let same : s ≡ d = found_one (send_at l.script l.place) s d (due-is s now.due) at in
      subst (λ z. IsCopied z l (at_next l.place x.lane)) same
      (let c = is-copied l a stands agrees laid machine s now k x.lane
      (same-bytes l a stands agrees laid machine s m) in
      record { chain = c.chain; clusters = c.clusters })
  steps-copy (Leaves q rest is k) = tt
  steps-copy (Releases q rest is y there) = tt
  steps-copy (Calls m pages k) = tt

  entry-copies : (t : Turn) (end : LaneState) (e : JournalEntry) → entry_of t ≡ Some e → CopiesIn t end →
      CopiesBy e.did e.answer end
  entry-copies (Stepped f) end e is h =
      let same : f ≡ e = cc in subst (λ (z : JournalEntry). CopiesBy z.did z.answer end) same h
  entry-copies Blocked end e is h = absurd (cc)
  entry-copies Ended end e is h = absurd (cc)

pub resend-copies : (s : Scenario) (w : WorldState) (e : JournalEntry) (l m : LaneState) (place : ℕ) (d : Send) →
    IsWellFormed s w → step_entry w e.actor ≡ Some e → e.did ≡ did.Again place → is_report e.answer ≡ false →
    slice_get w.lanes e.actor.lane.0 ≡ Some l → slice_get (step w e.actor).world.lanes e.actor.lane.0 ≡ Some m →
    send_at l.script place ≡ Some d → IsCopied d l m
resend-copies s w e l m place d well is again told there after at =
    let own = well.each e.actor.lane.0 l there in
    let o = own-step w e.actor l there in
    let t : Turned = by_reply (lane_step l e.actor.side) o.reply in
    let same : t.lane ≡ m = found_one (slice_get (step w e.actor).world.lanes e.actor.lane.0) t.lane m o.there after in
    let copies : CopiesBy l w.account own.stands own.agrees own.laid own.machine e.did e.answer t.lane =
    entry-copies l w.account own.stands own.agrees own.laid own.machine t.turn t.lane e (sym (ap entry_of o.turn) ∙ is)
    (steps-copy l w.account own.stands own.agrees own.laid own.machine (turn-steps l e.actor.side o.reply)) in
    subst (λ n. IsCopied d l n) same
    (subst (λ z. CopiesBy l w.account own.stands own.agrees own.laid own.machine z e.answer t.lane) again copies told d
    at)
