-- After each turn, the bytes of the chain of a send whose resend is due may be loaded.
use Rattle.std.proofs.Common.{◌≡◌, ℕ, true, false, if◌then◌else◌, List, Option, Some, None, refl, ap, sym, ◌∙◌, subst}
use Rattle.std.specs.Option.{option_and_then}
use Rattle.busdma_machine.specs.declared.bounce.hold.HubCall.{HubCall}
use Rattle.busdma_machine.specs.declared.bounce.hold.HubReply.{HubReply}
use Rattle.busdma_machine.specs.declared.machine.bio.Bio.TheVariants.{Vector}
use Rattle.busdma_machine.specs.declared.name.MapId.{MapId}
use Rattle.busdma_machine.specs.declared.report.Judged.TheVariants.{Fine}
use Rattle.busdma_base.specs.declared.scenarios.buffer.Buffer.{Buffer}
use Rattle.busdma_base.specs.declared.scenarios.buffer.Buffer.TheVariants as buffer
use Rattle.busdma_base.specs.declared.scenarios.script.Item.{Item}
use Rattle.busdma_base.specs.declared.scenarios.script.Op.TheVariants as op
use Rattle.busdma_base.specs.declared.journals.journal.Side.{Side}
use Rattle.ideal_lane.specs.Asking.{by_reply}
use Rattle.ideal_lane.specs.Loads.{load_judged}
use Rattle.ideal_lane.specs.Outcomes.{Outcome}
use Rattle.ideal_lane.specs.Sends.{Send, due_send, send_at, send_of}
use Rattle.ideal_lane.specs.State.{LaneState}
use Rattle.ideal_lane.specs.Turns.{Turned, lane_step}
use Rattle.ideal_lane.proofs.Effects.{Advances, Callback, Calls, Declines, Keeps, Leaves, Makes, Operation, Releases}
use Rattle.ideal_lane.proofs.Effects.{Resends, Same, Stays, Steps, Touched, Touches, Work}
use Rattle.ideal_lane.proofs.Sent.{sent}
use Rattle.ideal_lane.proofs.Stepping.{turn-steps}
use Rattle.ideal_wire.specs.Machine.{IsDueFine}
use Rattle.ideal_wire.proofs.Laid.Positions.{found_one}
use Rattle.ideal_wire.proofs.Laid.SameBytes.{judged-same}

-- if no resend is due
pub not-due : (k : LaneState) → k.due ≡ false → IsDueFine k
not-due k off s e =
    let none : due_send k ≡ None = ap (λ b. if b then send_at k.script k.place else None) off in
    let gone : None ≡ Some s = sym none ∙ e in
    absurd (cc)

-- a driver has the pages, the memories, the script and the place of another
record KeepsDue (l k : LaneState) : Type 0 where
  mems : k.mems ≡ l.mems
  pages : k.pages ≡ l.pages
  script : k.script ≡ l.script
  place : k.place ≡ l.place
  due : k.due ≡ l.due

module _ (l : LaneState) (fine : IsDueFine l) where
  still-due : (k : LaneState) → KeepsDue l k → IsDueFine k
  still-due k h s e =
      judged-same l k h.mems h.pages s.map (Vector s.chain)
      ∙ fine s (sym (λ i. if h.due i then send_at (h.script i) (h.place i) else None) ∙ e)

  -- ---- effects that leave what is due

  touches-keep : {d : Work} {x : Outcome} → Touches l d x → KeepsDue l x.lane
  touches-keep (Same a q u) = record { mems = refl; pages = refl; script = refl; place = refl; due = refl }
  touches-keep _ = record { mems = refl; pages = refl; script = refl; place = refl; due = refl }

  load-keeps : (m flags : ℕ) (b : Buffer) (items : List Item) {c : Option HubCall} {r : HubReply} {x : Outcome} →
      Makes l (Operation (op.Load m b flags items)) c r x → KeepsDue l x.lane
  load-keeps m flags b items (Touched t) = touches-keep t
  load-keeps m flags b items _ = record { mems = refl; pages = refl; script = refl; place = refl; due = refl }

  callback-keeps : (n : MapId) {c : Option HubCall} {r : HubReply} {x : Outcome} → Makes l (Callback n) c r x →
      KeepsDue l x.lane
  callback-keeps n (Touched t) = touches-keep t
  callback-keeps n _ = record { mems = refl; pages = refl; script = refl; place = refl; due = refl }

  -- if a send is kept, it is the one that is due
  kept-due : (k : LaneState) → KeepsDue l k → (s : Send) → send_at l.script l.place ≡ Some s →
      load_judged l s.map (Vector s.chain) ≡ Fine → IsDueFine (record k { due = true })
  kept-due k keeps s at may t here =
      let same : s ≡ t =
      found_one (send_at l.script l.place) s t at (sym (λ i. send_at (keeps.script i) (keeps.place i)) ∙ here) in
      judged-same l (record k { due = true }) keeps.mems keeps.pages t.map (Vector t.chain)
      ∙ subst (λ (y : Send). load_judged l y.map (Vector y.chain) ≡ Fine) same may

  -- ---- the turn
  steps-due : {s : Side} {c : Option HubCall} {r : HubReply} {t : Turned} → Steps l s c r t → IsDueFine t.lane
  steps-due (Stays t is) = fine
  steps-due (Advances o at free m) = not-due _ refl
  steps-due {c = c} {r = r} (Keeps {x = x} o at free s is big held m) =
      let load = sent o s is in
      kept-due x.lane
      (load-keeps s.map load.flags (buffer.Send s.chain (Some s.clusters)) s.items
      (subst (λ q. Makes l (Operation q) c r x) load.is m)) s (ap (option_and_then send_of) at ∙ is) held.fine
  steps-due (Declines s now x why) = not-due _ refl
  steps-due (Resends s now c told m) = not-due _ refl
  steps-due (Leaves {x = x} q rest is t) =
      let k = touches-keep t in
      still-due (record x.lane { queue = rest })
      (record { mems = k.mems; pages = k.pages; script = k.script; place = k.place; due = k.due })
  steps-due {t = t} (Releases q rest is None there) =
      still-due t.lane (record { mems = refl; pages = refl; script = refl; place = refl; due = refl })
  steps-due {t = t} (Releases q rest is (Some o) there) =
      still-due t.lane (record { mems = refl; pages = refl; script = refl; place = refl; due = refl })
  steps-due {t = t} (Calls m pages k) = still-due t.lane (callback-keeps m k)

  pub turn-due : (s : Side) (r : HubReply) → IsDueFine (by_reply (lane_step l s) r).lane
  turn-due s r = steps-due (turn-steps l s r)
