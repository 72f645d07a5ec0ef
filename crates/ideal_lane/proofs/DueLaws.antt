-- What holds of a send while its resend is due is kept by each step, and no resend ends unfit.
use Rattle.std.proofs.Common.{◌≡◌, ℕ, ◌+◌, ◌≤◌, ◌==◌, ◌++◌, Bool, true, false, cond, if◌then◌else◌, List, [], ◌∷◌}
use Rattle.std.proofs.Common.{Option, Some, None, refl, ap, sym, ◌∙◌, subst, arith, nat_lt, unwrap_or, zero, suc}
use Rattle.std.proofs.lemmas.List.Sums.{sum_by-cons}
use Rattle.std.proofs.lemmas.Bool.{eq-eqb}
use Rattle.std.proofs.lemmas.Bool.Decides.{nat_tests}
use Rattle.std.proofs.lemmas.Map.Views.{exact_unsigned_eq}
use Rattle.std.specs.Prelude.{IfSome}
use Rattle.std.specs.FinMap.{FinMap, get, insert}
use Rattle.std.specs.List.{enumerate_from}
use Rattle.std.specs.Option.{option_and_then, option_map}
use Rattle.std.specs.Ordering.{nat_cmp}
use Rattle.busdma_machine.specs.declared.bounce.hold.HubCall.{HubCall}
use Rattle.busdma_machine.specs.declared.bounce.hold.HubCall.TheVariants as call
use Rattle.busdma_machine.specs.declared.bounce.hold.HubReply.{HubReply}
use Rattle.busdma_machine.specs.declared.bounce.hold.HubReply.TheVariants as reply
use Rattle.busdma_machine.specs.declared.machine.address.Pa.{Pa}
use Rattle.busdma_machine.specs.declared.machine.bio.Bio.{Bio}
use Rattle.busdma_machine.specs.declared.machine.bio.Bio.TheVariants.{Vector}
use Rattle.busdma_machine.specs.declared.name.MapId.{MapId}
use Rattle.busdma_machine.specs.declared.report.Judged.{Judged}
use Rattle.busdma_machine.specs.declared.report.Judged.TheVariants.{Fine, Refused}
use Rattle.busdma_machine.specs.declared.report.Report.{Report}
use Rattle.busdma_machine.specs.declared.report.ReportName.{ReportName}
use Rattle.busdma_machine.specs.declared.report.ReportName.TheVariants as name
use Rattle.busdma_machine.specs.Judging.{judged, refused_or}
use Rattle.busdma_machine.proofs.Accounts.EditedSums.{count_by-append}
use Rattle.busdma_base.specs.declared.journals.journal.Side.{Side}
use Rattle.busdma_base.specs.declared.journals.journal.Side.TheVariants as side
use Rattle.busdma_base.specs.declared.journals.answer.Answer.{Answer}
use Rattle.busdma_base.specs.declared.scenarios.scenario.Driver.{Driver}
use Rattle.busdma_machine.specs.Machine.Spans.{bio_spans, span_addresses, span_bytes}
use Rattle.busdma_rules.specs.Lending.Access.{cpu_read_answer, cpu_read_refusal, cpu_write_answer, cpu_write_refusal}
use Rattle.busdma_rules.specs.Lending.Loans.{Loans, in_any_way, lent, to_write}
use Rattle.lane_agreement.specs.View.{Return, queued_back, returning}
use Rattle.ideal_lane.specs.Asking.{Asking, Gives, Asks, by_reply, goes_on}
use Rattle.ideal_lane.specs.Due.{DueStands, IsBare, IsDue, is_of_map, is_unfit, is_unfit_turn}
use Rattle.ideal_lane.specs.IdealMemory.{is_known}
use Rattle.ideal_lane.specs.Loads.{emptied, limits_of, is_foreign_in, load_judged}
use Rattle.ideal_lane.specs.Loads.{load_refusal, load_translation, no_limits, zone_of_map}
use Rattle.ideal_lane.specs.Opening.{opening_lane}
use Rattle.ideal_lane.specs.Outcomes.{Outcome, is_idle, unless_refused}
use Rattle.ideal_lane.specs.Sends.{HaveClusters, Send, chain_bytes, cluster_bytes, copied, due_send, is_too_big}
use Rattle.ideal_lane.specs.Sends.{load_again}
use Rattle.ideal_lane.specs.Sends.{resend, send_at, send_of}
use Rattle.ideal_lane.specs.State.{LaneState, LaneTag, LaneMap, Stage, Idle, Waiting, Loaded, Returning}
use Rattle.ideal_lane.specs.Turns.{Turned, due_turn, lane_step, resent, script_turn}
use Rattle.ideal_lane.specs.Unloads.{after_return}
use Rattle.ideal_lane.proofs.Effects.{Advances, Callback, Called, Calls, Declines, Held, Keeps, Leaves, Loads, Makes}
use Rattle.ideal_lane.proofs.Effects.{Overflows, Refuses, Releases, Resends, Same, Stays, Steps, Touched, Touches, Vain}
use Rattle.ideal_lane.proofs.Effects.{Work}
use Rattle.ideal_lane.proofs.Effects.{Copies, IsAgain, map_in, pages_in, there_in, was_in}
use Rattle.ideal_lane.proofs.Lookups.{get_put}
use Rattle.ideal_lane.proofs.Stepping.{Answers-by, begins, begun-answers, found, passed, turn-steps}
use Rattle.ideal_lane.proofs.Sent.{due-clusters}

-- a map of this tag has no load
pub record Bare (maps : FinMap nat_cmp LaneMap) (returns : List Return) (k tag : ℕ) : Type 0 where
  pub o : LaneMap
  pub there : get maps k ≡ Some o
  pub bare : IsBare o.stage (returning k returns)
  pub same : o.tag ≡ tag

more-bare : (s : Stage) (n m : ℕ) → n ≤ m → IsBare s n → IsBare s m
more-bare Idle n m h b = tt
more-bare (Waiting w) n m h b = absurd b
more-bare (Loaded bounced segments pages) n m h b = absurd b
more-bare Returning n m h b = omega (arith, h, b)

idle-bare : (s : Stage) (n : ℕ) → is_idle s ≡ true → IsBare s n
idle-bare Idle n e = tt
idle-bare (Waiting w) n e = absurd (cc)
idle-bare (Loaded bounced segments pages) n e = absurd (cc)
idle-bare Returning n e = absurd (cc)

-- pages that join the return queue
returning-more : (k : ℕ) (rs more : List Return) → returning k rs ≤ returning k (rs ++ more)
returning-more k rs more = omega (arith, count_by-append (λ (r : Return). r.map == k) rs more)

abbrev one : Bool → ℕ
one b = cond b 1 0

counts : (k : ℕ) (r : Return) (rs : List Return) → returning k (r ∷ rs) ≡ one (r.map == k) + returning k rs
counts k r rs = sum_by-cons (λ (q : Return). one (q.map == k)) r rs

empty-bare : (k z : ℕ) (rs : List Return) (pages : List ℕ) →
    IsBare (emptied pages) (returning k (rs ++ queued_back k z pages))
empty-bare k z rs [] = tt
empty-bare k z rs (p ∷ ps) =
    omega (
      arith,
      count_by-append (λ (r : Return). r.map == k) rs (queued_back k z (p ∷ ps)),
      counts k (record { map = k; zone = z; page = p }) (queued_back k z ps),
      ap one (eq-eqb k k refl),
    )

same-map : {a b : LaneMap} → Some a ≡ Some b → a ≡ b
same-map e = cc

module _ (l : LaneState) where
  -- a driver at the same place of the same script, each of whose maps has no load if it had none before
  pub record Spares (n : LaneState) : Type 0 where
    pub script : n.script ≡ l.script
    pub place : n.place ≡ l.place
    pub due : n.due ≡ l.due
    pub tags : n.tags ≡ l.tags
    pub bare : (k : ℕ) (o : LaneMap) → get l.maps k ≡ Some o → IsBare o.stage (returning k l.returns) →
        Bare n.maps n.returns k o.tag

  stays-bare : (k : ℕ) (o : LaneMap) → get l.maps k ≡ Some o → IsBare o.stage (returning k l.returns) →
      Bare l.maps l.returns k o.tag
  stays-bare k o e b = record { o = o; there = e; bare = b; same = refl }

  still : Spares l
  still = record { script = refl; place = refl; due = refl; tags = refl; bare = stays-bare }

  pub touches-spare : {d : Work} {x : Outcome} → Touches l d x → Spares x.lane
  touches-spare (Same a q u) = still
  touches-spare _ = record { script = refl; place = refl; due = refl; tags = refl; bare = stays-bare }

  -- a map is put in place of another, and pages join the return queue or leave it
  puts-bare : (m : ℕ) (y v : LaneMap) (rs : List Return) → get l.maps m ≡ Some y → v.tag ≡ y.tag →
      (IsBare y.stage (returning m l.returns) → IsBare v.stage (returning m rs)) →
      ((k : ℕ) → (k == m) ≡ false → returning k l.returns ≤ returning k rs) →
      (k : ℕ) (o : LaneMap) → get l.maps k ≡ Some o → IsBare o.stage (returning k l.returns) →
      Bare (insert l.maps m v) rs k o.tag
  puts-bare m y v rs there tag here more k o e b = by (k == m) refl
    where
      by : (q : Bool) → (k == m) ≡ q → Bare (insert l.maps m v) rs k o.tag
      by true at =
          let is : k ≡ m = exact_unsigned_eq k m at in
          let same : y ≡ o = same-map (sym there ∙ ap (get l.maps) (sym is) ∙ e) in
          let was : IsBare y.stage (returning m l.returns) =
          (subst (λ z. IsBare (LaneMap.stage z) (returning m l.returns)) (sym same)
          (subst (λ j. IsBare o.stage (returning j l.returns)) is b)) in
          record {
            o = v;
            there = get_put l.maps m v k ∙ ap (λ c. cond c (Some v) (get l.maps k)) at;
            bare = subst (λ j. IsBare v.stage (returning j rs)) (sym is) (here was);
            same = tag ∙ ap LaneMap.tag same;
          }
      by false off = record {
        o = o;
        there = get_put l.maps m v k ∙ ap (λ c. cond c (Some v) (get l.maps k)) off ∙ e;
        bare = more-bare o.stage (returning k l.returns) (returning k rs) (more k off) b;
        same = refl;
      }

  module _ (m : ℕ) (y : LaneMap) (there : get l.maps m ≡ Some y) where
    unpaged-bare : (pages : List ℕ) (k : ℕ) (o : LaneMap) → get l.maps k ≡ Some o →
        IsBare o.stage (returning k l.returns) →
        Bare (insert l.maps m (record y { tried = true; stage = emptied pages }))
        (l.returns ++ queued_back m (zone_of_map y) pages) k o.tag
    unpaged-bare pages =
        puts-bare m y (record y { tried = true; stage = emptied pages })
        (l.returns ++ queued_back m (zone_of_map y) pages)
        there refl (λ b. empty-bare m (zone_of_map y) l.returns pages)
        (λ k off. returning-more k l.returns (queued_back m (zone_of_map y) pages))

    -- a map that waited was not without a load
    loaded-bare : (s : Stage) → (IsBare y.stage (returning m l.returns) → ⊥) → (k : ℕ) (o : LaneMap) →
        get l.maps k ≡ Some o → IsBare o.stage (returning k l.returns) →
        Bare (insert l.maps m (record y { tried = true; stage = s })) l.returns k o.tag
    loaded-bare s waited =
        puts-bare m y (record y { tried = true; stage = s }) l.returns there refl (λ b. absurd (waited b))
        (λ k off. omega arith)

    idles-bare : (k : ℕ) (o : LaneMap) → get l.maps k ≡ Some o → IsBare o.stage (returning k l.returns) →
        Bare (insert l.maps m (record y { tried = true; stage = Idle })) l.returns k o.tag
    idles-bare =
        puts-bare m y (record y { tried = true; stage = Idle }) l.returns there refl (λ b. tt) (λ k off. omega arith)

  -- a load with too many segments
  pub big-spares : {d : Work} {c : Option HubCall} {r : HubReply} {x : Outcome} → Makes l d c r x →
      is_too_big x.answer ≡ true → Spares x.lane
  big-spares (Touched t) big = touches-spare t
  big-spares (Vain v a u) big = still
  big-spares (Refuses b over e) big =
      record { script = refl; place = refl; due = refl; tags = refl; bare = idles-bare b.m b.o b.there }
  big-spares (Overflows k e) big = record {
    script = refl;
    place = refl;
    due = refl;
    tags = refl;
    bare = unpaged-bare (map_in k) (was_in k) (there_in k) (pages_in k);
  }
  big-spares _ big = absurd (cc)

  pub called-spares : {n m : MapId} {pages : List Pa} {x : Outcome} →
      Makes l (Callback n) (Some call.TakeCallback) (reply.Called m pages) x → Spares x.lane
  called-spares (Vain v a u) = still
  called-spares (Refuses b over e) = elim over [ ]
  called-spares (Loads (Called m pages o v there waits) e) = record {
    script = refl;
    place = refl;
    due = refl;
    tags = refl;
    bare =
        loaded-bare m.made_at o there _
        (λ b. subst (λ s. IsBare s (returning m.made_at l.returns)) waits b);
  }
  called-spares (Overflows k e) = record {
    script = refl;
    place = refl;
    due = refl;
    tags = refl;
    bare = unpaged-bare (map_in k) (was_in k) (there_in k) (pages_in k);
  }

  -- a page goes back
  after-bare : (m : ℕ) (rest : List Return) → IsBare (after_return m rest) (returning m rest)
  after-bare m rest = by (returning m rest == 0) refl
    where
      some : (n : ℕ) → (n == 0) ≡ false → 1 ≤ n
      some zero e = absurd (cc)
      some (suc n) e = omega arith

      by : (b : Bool) → (returning m rest == 0) ≡ b → IsBare (if b then Idle else Returning) (returning m rest)
      by true e = tt
      by false e = some (returning m rest) e

  off-first : (q : Return) (rest : List Return) → l.returns ≡ q ∷ rest → (k : ℕ) → (q.map == k) ≡ false →
      returning k l.returns ≤ returning k rest
  off-first q rest is k off =
      omega (arith, ap (returning k) is, counts k q rest, ap one off)

  turned : (a b : ℕ) → (a == b) ≡ false → (b == a) ≡ false
  turned a b e = grind (arith, nat_tests)

  gone-bare : (q : Return) (rest : List Return) → l.returns ≡ q ∷ rest → get l.maps q.map ≡ None →
      (k : ℕ) (o : LaneMap) → get l.maps k ≡ Some o → IsBare o.stage (returning k l.returns) →
      Bare l.maps rest k o.tag
  gone-bare q rest is none k o e b = by (q.map == k) refl
    where
      by : (c : Bool) → (q.map == k) ≡ c → Bare l.maps rest k o.tag
      by true at =
          let clash : None ≡ Some o = sym none ∙ ap (get l.maps) (exact_unsigned_eq q.map k at) ∙ e in absurd (cc)
      by false off = record {
        o = o;
        there = e;
        bare = more-bare o.stage (returning k l.returns) (returning k rest) (off-first q rest is k off) b;
        same = refl;
      }

  back-bare : (q : Return) (rest : List Return) → l.returns ≡ q ∷ rest → (y : LaneMap) → get l.maps q.map ≡ Some y →
      (k : ℕ) (o : LaneMap) → get l.maps k ≡ Some o → IsBare o.stage (returning k l.returns) →
      Bare (insert l.maps q.map (record y { stage = after_return q.map rest })) rest k o.tag
  back-bare q rest is y there =
      puts-bare q.map y (record y { stage = after_return q.map rest }) rest there refl (λ b. after-bare q.map rest)
      (λ k off. off-first q rest is k (turned k q.map off))

-- ---- what stays

abbrev maxsize_of : Option LaneTag → ℕ
maxsize_of t = (unwrap_or (option_map (λ (y : LaneTag). y.limits) t) no_limits).maxsize

-- the send whose resend is due still is at the same place, with its map without a load
spared : (l n : LaneState) → Spares l n → DueStands l → DueStands n
spared l n h d = subst (λ q. IfSome q (IsDue n)) (sym same) (by (due_send l) d)
  where
    same : due_send n ≡ due_send l
    same = (λ i. if h.due i then send_at (h.script i) (h.place i) else None)

    by : (q : Option Send) → IfSome q (IsDue l) → IfSome q (IsDue n)
    by None d = tt
    by (Some s) d =
        let b = h.bare s.map d.o d.there d.bare in
        record {
          o = b.o;
          there = b.there;
          bare = b.bare;
          short =
              subst (λ t. span_bytes s.chain ≤ maxsize_of t)
              (sym (λ i. get (h.tags i) (b.same i))) d.short;
        }

-- the first load of a send leaves its map so that the resend may be due
held-due : (l : LaneState) (s : Send) → send_at l.script l.place ≡ Some s → Held l s →
    DueStands (record l { due = true })
held-due l s at h =
    subst (λ q. IfSome q (IsDue (record l { due = true }))) (sym at) (record {
      o = h.o;
      there = h.there;
      bare = idle-bare h.o.stage (returning s.map l.returns) h.idle;
      short = at-most (limits_of l h.o).maxsize (span_bytes s.chain) h.short;
    })
  where
    at-most : (a b : ℕ) → nat_lt a b ≡ false → b ≤ a
    at-most a b e = grind (arith, nat_tests)

module _ (l : LaneState) (d : DueStands l) where
  steps-due : {s : Side} {c : Option HubCall} {r : HubReply} {t : Turned} → Steps l s c r t → DueStands t.lane
  steps-due (Stays t is) = d
  steps-due (Advances o at free m) = tt
  steps-due (Keeps {x = x} o at free s is big held m) =
      let h = big-spares l m big in
      spared (record l { due = true }) (record x.lane { due = true })
      (record { script = h.script; place = h.place; due = refl; tags = h.tags; bare = h.bare })
      (held-due l s (ap (option_and_then send_of) at ∙ is) held)
  steps-due (Declines s now x declined) = tt
  steps-due (Resends s now k untold m) = tt
  steps-due (Leaves {x = x} q rest e t) =
      let h = touches-spare l t in
      spared l (record x.lane { queue = rest })
      (record { script = h.script; place = h.place; due = h.due; tags = h.tags; bare = h.bare }) d
  steps-due (Releases q rest e None there) =
      spared l (record l { returns = rest })
      (record { script = refl; place = refl; due = refl; tags = refl; bare = gone-bare l q rest e there }) d
  steps-due (Releases q rest e (Some y) there) =
      spared l (record l {
        maps = insert l.maps q.map (record y { stage = after_return q.map rest });
        returns = rest;
      }) (record { script = refl; place = refl; due = refl; tags = refl; bare = back-bare l q rest e y there }) d
  steps-due (Calls {x = x} m pages k) = spared l x.lane (called-spares l k) d

pub turn-due : (l : LaneState) (s : Side) (r : HubReply) → DueStands l → DueStands (by_reply (lane_step l s) r).lane
turn-due l s r d = steps-due l d (turn-steps l s r)

pub opens-due : (id maxmem : ℕ) (driver : Driver) → DueStands (opening_lane id maxmem driver)
opens-due id maxmem driver = tt

-- ---- no resend is unfit

-- the name of a judgement's report is one of those that its refusals have
judged-named : {X : Type 0} (P : ReportName → Type 0) (refusal : X → Option ReportName) →
    ((y : X) (n : ReportName) → refusal y ≡ Some n → P n) → (at : ℕ) (xs : List X) (x : Report) →
    judged refusal at xs ≡ Refused x → P x.name
judged-named P refusal h at [] x e = absurd (cc)
judged-named P refusal h at (y ∷ ys) x e = by (refusal y) refl (judged-named P refusal h (at + 1) ys x) e
  where
    by : (q : Option ReportName) → refusal y ≡ q → (judged refusal (at + 1) ys ≡ Refused x → P x.name) →
        refused_or q at (judged refusal (at + 1) ys) ≡ Refused x → P x.name
    by None is rest e = rest e
    by (Some n) is rest e =
        let same : record { name = n; at = at } ≡ x = cc in subst (λ (z : Report). P z.name) same (h y n is)

abbrev IsOther : ReportName → Type 0
IsOther n = is_of_map n ≡ false

load-other : (foreign : Bool) (pa : Option ℕ) (n : ReportName) → load_refusal foreign pa ≡ Some n → IsOther n
load-other foreign None n e = let same : name.Unmapped ≡ n = cc in subst IsOther same refl
load-other true (Some pa) n e = let same : name.ForeignMemory ≡ n = cc in subst IsOther same refl
load-other false (Some pa) n e = absurd (cc)

load-named : (l : LaneState) (m : ℕ) (b : Bio) (x : Report) → load_judged l m b ≡ Refused x → IsOther x.name
load-named l m b =
    judged-named {X = ℕ × ℕ} IsOther
    (λ y. load_refusal (is_foreign_in b (get l.mems m) l y.0 y.1) (load_translation l b y.1))
    (λ y n. load-other (is_foreign_in b (get l.mems m) l y.0 y.1) (load_translation l b y.1) n) 0
    (enumerate_from 0 (span_addresses (bio_spans b)))

module _ (known : ℕ → Bool) (loans : Loans) (a : ℕ) (n : ReportName) where
  read-other : cpu_read_refusal known loans a ≡ Some n → IsOther n
  read-other e = by (lent to_write a loans) (known a) e
    where
      by : (lends knows : Bool) →
          (if lends then Some name.CpuReadLent else if knows then None else Some name.StaleByte) ≡ Some n → IsOther n
      by true knows e = let same : name.CpuReadLent ≡ n = cc in subst IsOther same refl
      by false true e = absurd (cc)
      by false false e = let same : name.StaleByte ≡ n = cc in subst IsOther same refl

  write-other : cpu_write_refusal loans a ≡ Some n → IsOther n
  write-other e = by (lent in_any_way a loans) e
    where
      by : (lends : Bool) → (if lends then Some name.CpuWriteLent else None) ≡ Some n → IsOther n
      by true e = let same : name.CpuWriteLent ≡ n = cc in subst IsOther same refl
      by false e = absurd (cc)

abbrev IsFit : Answer → Type 0
IsFit a = is_unfit a ≡ false

-- a map without a load is idle if no page is to be returned
bare-idle : (s : Stage) → IsBare s 0 → is_idle s ≡ true
bare-idle Idle b = refl
bare-idle (Waiting w) b = absurd b
bare-idle (Loaded bounced segments pages) b = absurd b
bare-idle Returning b = absurd (omega arith)

module _ (l : LaneState) (s : Send) (now : IsAgain l s) (d : IsDue l s)
    (few : span_bytes s.clusters ≡ span_bytes s.chain)
  where
    abbrev Fits : Asking Outcome → Type 0
    Fits = Answers-by l IsFit

    idle : is_idle d.o.stage ≡ true
    idle = bare-idle d.o.stage (subst (λ rs. IsBare d.o.stage (returning s.map rs)) now.none d.bare)

    unless : (j : Judged) (step : Asking Outcome) → ((x : Report) → j ≡ Refused x → IsOther x.name) →
        (j ≡ Fine → Fits step) → Fits (unless_refused j l step)
    unless Fine step other h = h refl
    unless (Refused x) step other h = other x refl

    too-long : nat_lt (limits_of l d.o).maxsize (span_bytes s.clusters) ≡ true → ⊥
    too-long long = grind (arith, nat_tests, long, d.short, few)

    load-fit : (k : Copies l s) → k.o ≡ d.o → Fits (load_again s (copied s l))
    load-fit k same =
        found (copied s l) Fits s.map _ k.o k.there k.idle
        (passed (copied s l) Fits (load_judged (copied s l) s.map (Vector s.clusters)) _ (begins l s now k).fine
        (begun-answers (copied s l) (begins l s now k) IsFit (λ ss. refl) (λ have need. refl) refl refl
        (λ long. absurd (too-long (subst (λ o. nat_lt (limits_of l o).maxsize (span_bytes s.clusters) ≡ true) same
        long)))))

    resend-fit : Fits (resend s l)
    resend-fit =
        found l Fits s.map _ d.o d.there idle
        (unless (load_judged l s.map (Vector s.clusters)) _
        (load-named l s.map (Vector s.clusters))
        (λ fine.
        unless (cpu_read_answer (is_known l.memory) l.loans (chain_bytes s l)) _
        (judged-named IsOther (cpu_read_refusal (is_known l.memory) l.loans)
        (λ y n. read-other (is_known l.memory) l.loans y n) 0 (chain_bytes s l))
        (λ readable.
        unless (cpu_write_answer l.loans (cluster_bytes s l)) _
        (judged-named IsOther (cpu_write_refusal l.loans) (λ y n. write-other (is_known l.memory) l.loans y n) 0
        (cluster_bytes s l))
        (λ writable.
        load-fit (record {
          o = d.o;
          there = d.there;
          idle = idle;
          fine = fine;
          readable = readable;
          writable = writable;
        }) refl))))

pub resends-fit : (l : LaneState) (s : Send) (r : HubReply) → DueStands l → HaveClusters l.script →
    due_send l ≡ Some s → is_unfit_turn (by_reply (lane_step l side.Script) r).turn ≡ false
resends-fit l s r d clusters due = by l.returns refl
  where
    at : (x : Asking Outcome) → Answers-by l IsFit x →
        is_unfit_turn (by_reply (goes_on (resent l.place) x) r).turn ≡ false
    at (Gives y) h = h
    at (Asks c k) h = h r

    by : (rs : List Return) → l.returns ≡ rs → is_unfit_turn (by_reply (script_turn rs l) r).turn ≡ false
    by (q ∷ rest) e = refl
    by [] e =
        subst (λ q. is_unfit_turn (by_reply (due_turn q l) r).turn ≡ false) (sym due)
        (at (resend s l) (resend-fit l s (record { due = due; none = e })
        (subst (λ q. IfSome q (IsDue l)) due d) (due-clusters l s due clusters).alike))
