-- How many pages are due to join the return queue, by the ideal driver's state, and which steps leave that number
-- unchanged.
use Rattle.std.proofs.Common.{◌≡◌, ℕ, ◌*◌, ◌==◌, Bool, true, false, cond, List, [], ◌∷◌, length, Option, Some, None}
use Rattle.std.proofs.Common.{refl, sym, ap, ◌∙◌, subst, arith}
use Rattle.std.specs.Prelude.{IfOk, OnErr, Result, Ok, Err}
use Rattle.std.proofs.lemmas.List.{length-map}
use Rattle.std.proofs.lemmas.List.Sums.{sum_by-cons}
use Rattle.std.proofs.lemmas.Bool.{eq-eqb}
use Rattle.std.specs.Cmp.{nat_cmp_total}
use Rattle.std.specs.List.{sum_by}
use Rattle.std.specs.Ordering.{nat_cmp}
use Rattle.std.specs.FinMap.{FinMap, get, insert, remove, entries, same_map, nat_cmp-IsAntisymmetric}
use Rattle.busdma_machine.specs.declared.bounce.hold.HubCall.{HubCall}
use Rattle.busdma_machine.specs.declared.bounce.hold.HubReply.{HubReply}
use Rattle.busdma_machine.specs.declared.bounce.hold.HubReply.TheVariants.{Nothing}
use Rattle.busdma_machine.specs.Bounce.Door.{Seen}
use Rattle.busdma_machine.specs.Machine.PageList.{page_address}
use Rattle.busdma_base.specs.declared.journals.answer.Answer.{Answer}
use Rattle.busdma_base.specs.declared.scenarios.script.Item.{Item}
use Rattle.busdma_base.specs.declared.scenarios.script.Op.{Op}
use Rattle.busdma_base.specs.declared.scenarios.script.Op.TheVariants as op
use Rattle.dma_map.specs.MapView as held
use Rattle.ideal_lane.specs.Asking.{Asking, Gives, Asks}
use Rattle.ideal_lane.specs.Outcomes.{Outcome, is_idle}
use Rattle.ideal_lane.specs.Standing.{Stands}
use Rattle.ideal_lane.specs.State.{LaneState, LaneMap, Stage, Idle, Waiting, Loaded, Returning}
use Rattle.ideal_lane.specs.Turns.{operation, transfer}
use Rattle.ideal_lane.proofs.Effects.{Work, Operation, Transfer, Callback, Touches, Same, Syncs, Writes, DeviceWrites}
use Rattle.ideal_lane.proofs.Effects.{Makes, Touched, Vain, Awaits, Tags, Attaches, Untags, Maps, Creates, Unmaps}
use Rattle.ideal_lane.proofs.Effects.{Places, Frees, Refuses, Waits, Loads, Overflows, Unloads, Begins, Ends}
use Rattle.ideal_lane.proofs.Effects.{AtOnce, Granted, Called, Device, Fetches, Kicks, Posts, RawWrites, Rings, Spaces}
use Rattle.ideal_lane.proofs.Lookups.{get_cut, get_put, put_same}
use Rattle.ideal_lane.proofs.Stepping.{Made, Only, operation-makes, transfer-touches}
use Rattle.ideal_lane.proofs.Weights.{weigh, weigh-new}
use Rattle.lane_state.specs.declared.holdings.Answered.{Answered}
use Rattle.lane_state.specs.declared.holdings.Holdings.{Holdings}
use Rattle.lane_state.specs.declared.kept.KeptLoad.{KeptLoad}
use Rattle.lane_state.specs.declared.kept.KeptMap.{KeptMap}
use Rattle.lane_state.specs.Changes.{KeepsPromises, KeepsState}
use Rattle.lane_state.specs.Covered.{pages_due}
use Rattle.lane_state.specs.Doing.{IsDone}
use Rattle.lane_state.specs.Ideal.{given, ideal_of}
use Rattle.lane_state.specs.Kept.{due_in, due_of, map_of, kept_stage}
use Rattle.lane_state.specs.MapValues.{entry_values, map_values}
use Rattle.lane_state.proofs.MapValues.{entries-map_values}

-- ---- by the ideal driver's state

-- how many pages a map at this stage gives to the return queue in the end
abbrev stage_due : Stage → ℕ
stage_due Idle = 0
stage_due (Waiting w) = w.need
stage_due (Loaded bounced segments pages) = length pages
stage_due Returning = 0

abbrev map_due : LaneMap → ℕ
map_due o = stage_due o.stage

stage-due : (s : held.HeldStage KeptLoad) → due_in s ≡ stage_due (kept_stage s)
stage-due held.idle = refl
stage-due (held.waiting load_at callback room) = refl
stage-due (held.loaded bounced segments pages) = sym (length-map pages.items page_address)
stage-due (held.lent bounced segments frames) = sym (length-map frames (λ f. 4096 * f))
stage-due held.returning = refl

values-due : (es : List (ℕ × KeptMap)) →
    sum_by (λ e. due_of e.1) es ≡ sum_by (λ (e : ℕ × LaneMap). map_due e.1) (entry_values map_of es)
values-due [] = refl
values-due (e ∷ es) =
    omega (
      arith,
      values-due es,
      stage-due e.1.map.stage,
      sum_by-cons (λ (x : ℕ × KeptMap). due_of x.1) e es,
      sum_by-cons (λ (x : ℕ × LaneMap). map_due x.1) (e.0, map_of e.1) (entry_values map_of es),
    )

-- how many pages all maps give to the return queue in the end
pub ideal-due : (maps : FinMap nat_cmp KeptMap) → pages_due maps ≡ weigh map_due (map_values map_of maps)
ideal-due maps =
    values-due (entries maps)
    ∙ sym (ap (sum_by (λ (e : ℕ × LaneMap). map_due e.1)) (entries-map_values map_of maps))

module _ (h k : Holdings) (promised : k.agenda.promised ≡ h.agenda.promised) where
  weighed : weigh map_due (ideal_of k).maps ≡ weigh map_due (ideal_of h).maps → KeepsPromises h k
  weighed same = omega (arith, promised, same, ideal-due h.maps.map, ideal-due k.maps.map)

  -- as many pages are due if the maps are the same
  pub maps-promise : (ideal_of k).maps ≡ (ideal_of h).maps → KeepsPromises h k
  maps-promise same = weighed (ap (weigh map_due) same)

  pub state-promise : KeepsState h k → KeepsPromises h k
  state-promise s = maps-promise (ap (λ (l : LaneState). l.maps) s.ideal)

-- ---- a map is gone

module _ {X : Type 0} (w : X → ℕ) (m : FinMap nat_cmp X) (k : ℕ) (x : X) (found : get m k ≡ Some x) where
  gone : get (remove m k) k ≡ None
  gone = get_cut m k k ∙ ap (λ b. cond b None (get m k)) (eq-eqb k k refl)

  over : {Y : Type 0} (b : Bool) (y z v : Y) → cond b y (cond b z v) ≡ cond b y v
  over true y z v = refl
  over false y z v = refl

  back : insert (remove m k) k x ≡ m
  back = same_map nat_cmp_total nat_cmp-IsAntisymmetric _ _ (λ q.
      get_put (remove m k) k x q ∙ ap (cond (q == k) (Some x)) (get_cut m k q)
      ∙ over (q == k) (Some x) None (get m q) ∙ put_same (get m) k q (Some x) (sym found))

  weigh-gone : w x ≡ 0 → weigh w (remove m k) ≡ weigh w m
  weigh-gone none = omega (arith, none, weigh-new w (remove m k) k x gone, ap (weigh w) back)

idle-due : (s : Stage) → is_idle s ≡ true → stage_due s ≡ 0
idle-due Idle e = refl
idle-due (Waiting w) e = absurd (cc)
idle-due (Loaded bounced segments pages) e = absurd (cc)
idle-due Returning e = absurd (cc)

-- ---- the steps

-- an operation that is no load and no unload, or an item
abbrev pub IsStillOp : Op → Type 0
IsStillOp (op.Load m buffer flags items) = ⊥
IsStillOp (op.Unload m) = ⊥
IsStillOp _ = Unit {0}

abbrev IsStill : Work → Type 0
IsStill (Operation o) = IsStillOp o
IsStill (Transfer i) = Unit {0}
IsStill (Callback m) = ⊥

no-load : {l : LaneState} {d : Work} → Begins l d → IsStill d → ⊥
no-load b still = subst IsStill b.is still

no-end : {l : LaneState} {d : Work} {c : Option HubCall} {r : HubReply} → Ends l d c r → IsStill d → ⊥
no-end (AtOnce b plain e) still = no-load b still
no-end (Granted b plain e pages) still = no-load b still
no-end (Called m pages o v e w) still = still
no-end (Device b device first spaces taken) still = no-load b still

touched-maps : {l : LaneState} {d : Work} {x : Outcome} → Touches l d x → x.lane.maps ≡ l.maps
touched-maps (Same a q u) = refl
touched-maps (Syncs m off len ops is o there i alone fine) = refl
touched-maps (Writes place bs va at reaches fine) = refl
touched-maps (DeviceWrites m off bs o there i fine) = refl
touched-maps (RawWrites t addr bs g there fine) = refl
touched-maps (Posts k slot m off len kind fill r ring o there i may va at reaches fine) = refl
touched-maps (Fetches k f) = refl

touched-due : {l : LaneState} {d : Work} {x : Outcome} → Touches l d x → x.lane.due ≡ l.due
touched-due (Same a q u) = refl
touched-due (Syncs m off len ops is o there i alone fine) = refl
touched-due (Writes place bs va at reaches fine) = refl
touched-due (DeviceWrites m off bs o there i fine) = refl
touched-due (RawWrites t addr bs g there fine) = refl
touched-due (Posts k slot m off len kind fill r ring o there i may va at reaches fine) = refl
touched-due (Fetches k f) = refl

module _ (l : LaneState) (stands : Stands l) where
  fresh : get l.maps l.place ≡ None
  fresh = stands.no_map l.place (omega arith)

  new-idle : (t : ℕ) (zone : Option ℕ) →
      weigh map_due (insert l.maps l.place (record { tag = t; zone = zone; tried = false; stage = Idle }))
      ≡ weigh map_due l.maps
  new-idle t zone =
      omega (
        arith,
        weigh-new map_due l.maps l.place (record { tag = t; zone = zone; tried = false; stage = Idle }) fresh,
      )

  still-due : {d : Work} {c : Option HubCall} {r : HubReply} {x : Outcome} → Makes l d c r x → IsStill d →
      weigh map_due x.lane.maps ≡ weigh map_due l.maps
  still-due (Touched t) still = ap (weigh map_due) (touched-maps t)
  still-due (Vain v a u) still = refl
  still-due (Awaits m) still = refl
  still-due (Rings name mem slots x e fits) still = refl
  still-due (Kicks k steps q e) still = refl
  still-due (Tags name parent limits t new) still = refl
  still-due (Attaches name parent limits t new b g made) still = refl
  still-due (Spaces name limits t new) still = refl
  still-due (Untags t free) still = refl
  still-due (Maps name t g e b) still = new-idle t None
  still-due (Creates name t g e b n made) still = new-idle t (Some n.zone.0)
  still-due (Places name t flags g e first count) still = new-idle t None
  still-due (Unmaps m o e i) still = weigh-gone map_due l.maps m o e (idle-due o.stage i)
  still-due (Frees m x e o f i) still = weigh-gone map_due l.maps m o f (idle-due o.stage i)
  still-due (Refuses b over e) still = absurd (no-load b still)
  still-due (Waits b plain some have) still = absurd (no-load b still)
  still-due (Loads k e) still = absurd (no-end k still)
  still-due (Overflows k e) still = absurd (no-end k still)
  still-due (Unloads m o e i) still = absurd still

  still-done : (w : Work) (door : Seen) (lane : ℕ) (step : Asking Outcome) (x : Outcome) (e : Seen) → Made l w step →
      IsStill w → IsDone door lane step x e → weigh map_due x.lane.maps ≡ weigh map_due l.maps
  still-done w door lane (Gives y) x e made still done =
      ap (λ (z : Outcome). weigh map_due z.lane.maps) done.0 ∙ still-due (made Nothing) still
  still-done w door lane (Asks c k) x e made still done =
      ap (λ (z : Outcome). weigh map_due z.lane.maps) done.is ∙ still-due (made done.reply) still

-- a step that is no load and no unload leaves as many pages due
module _ (h k : Holdings) (stands : Stands (ideal_of h)) (o : Op) (a : Answer) (d e : Seen) where
  pub done-promise : IsDone d h.id.0 (operation o (ideal_of h)) (given k a) e → IsStillOp o →
      k.agenda.promised ≡ h.agenda.promised → KeepsPromises h k
  done-promise done still promised =
      weighed h k promised
      (still-done (ideal_of h) stands (Operation o) d h.id.0 (operation o (ideal_of h)) (given k a) e
      (operation-makes (ideal_of h) o) still done)

-- an item leaves as many pages due
pub item-maps : (h k : Holdings) (i : Item) (a : Answer) → Gives (given k a) ≡ transfer i (ideal_of h) →
    (ideal_of k).maps ≡ (ideal_of h).maps
item-maps h k i a done =
    touched-maps (subst (Only (ideal_of h) (Transfer i)) (sym done) (transfer-touches (ideal_of h) i))

-- as many pages are due if memory ran out
pub either-promise : {E : Type 0} (h k : Holdings) → Stands (ideal_of h) →
    (o : Op) (d e : Seen) (r : Result Answered E) →
    IfOk r (λ x. IsDone d h.id.0 (operation o (ideal_of h)) (given k x.answer) e) → OnErr r (KeepsState h k) →
    IsStillOp o → k.agenda ≡ h.agenda → KeepsPromises h k
either-promise h k stands o d e (Ok x) done err still same =
    done-promise h k stands o x.answer d e done still (ap (λ a. a.promised) same)
either-promise h k stands o d e (Err x) done err still same = state-promise h k (ap (λ a. a.promised) same) err

-- a resend is due after an item as before
pub item-due : (h k : Holdings) (i : Item) (a : Answer) → Gives (given k a) ≡ transfer i (ideal_of h) → k.due ≡ h.due
item-due h k i a done =
    touched-due (subst (Only (ideal_of h) (Transfer i)) (sym done) (transfer-touches (ideal_of h) i))
