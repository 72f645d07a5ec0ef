-- The loads of a driver stay small, and the pages that are promised few.
use Rattle.std.proofs.Common.{◌≡◌, ℕ, ◌+◌, ◌*◌, ◌^◌, ◌<◌, ◌≤◌, Bool, true, false, List, Option, Some, None}
use Rattle.std.proofs.Common.{if◌then◌else◌}
use Rattle.std.proofs.Common.{slice_get, refl, sym, ap, ◌∙◌, arith, subst}
use Rattle.std.specs.Option.{option_and_then, option_map_or}
use Rattle.busdma_base.specs.declared.journals.answer.Answer.{Answer}
use Rattle.busdma_base.specs.declared.scenarios.buffer.Buffer.{Buffer}
use Rattle.busdma_base.specs.declared.scenarios.buffer.Buffer.TheVariants as buffer
use Rattle.busdma_base.specs.declared.scenarios.script.Item.{Item}
use Rattle.busdma_base.specs.declared.scenarios.script.Op.{Op}
use Rattle.busdma_base.specs.declared.scenarios.script.Op.TheVariants as op
use Rattle.busdma_base.specs.Scenarios.Buffers.{buffer_bytes, counted_bytes}
use Rattle.busdma_base.specs.Scenarios.Limits.{buffer_limit, loaded_limit}
use Rattle.busdma_base.specs.Scenarios.Operations.{about, items_of, loaded_by}
use Rattle.busdma_machine.specs.Machine.Spans.{span_bytes}
use Rattle.ideal_lane.specs.Sends.{Send, due_send, is_kept, is_too_big, send_at, send_in, send_of}
use Rattle.ideal_lane.proofs.Falling.{rest-of}
use Rattle.lane_state.specs.declared.holdings.Holdings.{Holdings}
use Rattle.lane_state.specs.Changes.{KeepsPromises}
use Rattle.lane_state.specs.Covered.{pages_due}
use Rattle.lane_state.specs.Ideal.{ideal_of}
use Rattle.lane_state.specs.SmallLoads.{HasSmallLoads, bytes_ahead, loaded_once}
use Rattle.lane_turns.specs.TakenTurns.{IsAtTurn}

-- ---- sends

-- what an operation loads counts as often as it may be loaded
loads-counted : (x : Option Buffer) → option_map_or buffer_bytes x 0 ≤ option_map_or counted_bytes x 0
loads-counted None = omega arith
loads-counted (Some (buffer.Flat place len)) = omega arith
loads-counted (Some (buffer.Vector spans)) = omega arith
loads-counted (Some (buffer.Mbuf chain)) = omega arith
loads-counted (Some (buffer.Bio b)) = omega arith
loads-counted (Some (buffer.Send chain clusters)) = omega arith

once-counted : (o : Op) → loaded_once o ≤ loaded_by o
once-counted o = loads-counted (about o).loads

-- an operation is a send: its items are those of the send, and it counts the bytes of its chain twice
pub record IsSend (s : Send) (o : Op) : Type 0 where
  pub items : items_of o ≡ s.items
  pub once : loaded_once o ≡ span_bytes s.chain
  pub twice : loaded_by o ≡ 2 * span_bytes s.chain

-- the send of an option
in-some : Send → Option Send → Send
in-some s None = s
in-some s (Some t) = t

load-sends : (m : ℕ) (x : Buffer) (flags : ℕ) (items : List Item) (s : Send) → send_in m items x ≡ Some s →
    IsSend s (op.Load m x flags items)
unfolding in-some
load-sends m (buffer.Flat place len) flags items s e = absurd (cc)
load-sends m (buffer.Vector spans) flags items s e = absurd (cc)
load-sends m (buffer.Mbuf chain) flags items s e = absurd (cc)
load-sends m (buffer.Bio b) flags items s e = absurd (cc)
load-sends m (buffer.Send chain None) flags items s e = absurd (cc)
load-sends m (buffer.Send chain (Some clusters)) flags items s e =
    let same : record { map = m; chain = chain; clusters = clusters; items = items } ≡ s = ap (in-some s) e in
    record {
      items = ap (λ (x : Send). x.items) same;
      once = ap (λ (x : Send). span_bytes x.chain) same;
      twice = ap (λ (x : Send). 2 * span_bytes x.chain) same;
    }

pub is-send : (o : Op) (s : Send) → send_of o ≡ Some s → IsSend s o
is-send (op.Load m x flags items) s e = load-sends m x flags items s e
is-send (op.Tag name parent limits) s e = absurd (cc)
is-send (op.IommuTag name limits) s e = absurd (cc)
is-send (op.TagDestroy tag) s e = absurd (cc)
is-send (op.Map name tag) s e = absurd (cc)
is-send (op.MapDestroy m) s e = absurd (cc)
is-send (op.Dmamem name tag flags) s e = absurd (cc)
is-send (op.DmamemFree mem) s e = absurd (cc)
is-send (op.Unload m) s e = absurd (cc)
is-send (op.Sync m ops) s e = absurd (cc)
is-send (op.SyncRange m off len ops) s e = absurd (cc)
is-send (op.CpuRead place len) s e = absurd (cc)
is-send (op.CpuWrite place bytes) s e = absurd (cc)
is-send (op.Await m) s e = absurd (cc)
is-send (op.Ring name mem slots) s e = absurd (cc)
is-send (op.RingPost ring slot m off len kind fill) s e = absurd (cc)
is-send (op.Kick ring steps) s e = absurd (cc)

-- a driver's script has a send at its place
pub record HasSend (h : Holdings) (s : Send) : Type 0 where
  pub o : Op
  pub here : slice_get h.script h.agenda.place ≡ Some o
  pub send : send_of o ≡ Some s

-- if a resend is due, a driver's script has a send at its place
pub has-due : (h : Holdings) (s : Send) → due_send (ideal_of h) ≡ Some s → HasSend h s
has-due h s = by h.due
  where
    found : (o : Option Op) → slice_get h.script h.agenda.place ≡ o → option_and_then send_of o ≡ Some s →
        HasSend h s
    found None here e = absurd (cc)
    found (Some o) here e = record { o = o; here = here; send = e }

    by : (b : Bool) → (if b then send_at h.script h.agenda.place else None) ≡ Some s → HasSend h s
    by true e = found (slice_get h.script h.agenda.place) refl e
    by false e = absurd (cc)

-- ---- what is ahead

-- the bytes ahead of a driver at this place of this script, with the resend that is due, if one is
ahead-is : (k : Holdings) (script : List Op) (place : ℕ) (due : Bool) → k.script ≡ script →
    k.agenda.place ≡ place → k.due ≡ due →
    bytes_ahead (due_send (ideal_of k)) k.agenda.place k.script
    ≡ bytes_ahead (if due then send_at script place else None) place script
ahead-is k script place due same at is =
    λ i. bytes_ahead (if is i then send_at (same i) (at i) else None) (at i) (same i)

module _ (h : Holdings) (small : HasSmallLoads h) where
  -- each load of a driver is small, by the script of another
  each-small : (k : Holdings) → k.script ≡ h.script → (p : ℕ) (q : Op) → slice_get k.script p ≡ Some q →
      loaded_once q ≤ buffer_limit
  each-small k script =
      subst (λ (os : List Op). (p : ℕ) (q : Op) → slice_get os p ≡ Some q → loaded_once q ≤ buffer_limit) (sym script)
      small.each

  -- if no operation was done and no further page is promised a place
  pub small-same : (k : Holdings) → k.script ≡ h.script → k.agenda.place ≡ h.agenda.place → k.due ≡ h.due →
      k.agenda.promised ≤ h.agenda.promised → KeepsPromises h k → HasSmallLoads k
  small-same k script place resend promised kept =
      let ahead : bytes_ahead (due_send (ideal_of k)) k.agenda.place k.script
      ≡ bytes_ahead (due_send (ideal_of h)) h.agenda.place h.script =
      ahead-is k h.script h.agenda.place h.due script place resend in
      let few = small.few in
      record {
        due = let due = small.due in omega (arith, due, kept);
        each = each-small k script;
        few = omega (arith, ahead, few, promised);
      }

  module _ (o : Op) (here : slice_get h.script h.agenda.place ≡ Some o) where
    -- the pages that are promised, with those that the next load may need
    pub few-promised : h.agenda.promised + loaded_once o < 2 ^ 32
    few-promised =
        let few = small.few in
        let one = small.each h.agenda.place o here in
        omega (arith, few, one)

    -- after the next operation, when no resend was due
    module _ (undue : due_send (ideal_of h) ≡ None) where
      few-ahead : h.agenda.promised + (loaded_by o + bytes_ahead None (h.agenda.place + 1) h.script)
          ≤ loaded_limit
      few-ahead =
          let rest = rest-of loaded_by h.script h.agenda.place o here in
          let none = ap (λ s. bytes_ahead s h.agenda.place h.script) undue in
          let few = small.few in
          omega (arith, rest, none, few)

      -- the script is after the operation
      small-next : (k : Holdings) → k.script ≡ h.script → k.agenda.place ≡ h.agenda.place + 1 →
          k.due ≡ false → k.agenda.promised ≤ h.agenda.promised + loaded_once o → KeepsPromises h k → HasSmallLoads k
      small-next k script place resend promised kept =
          let ahead = ahead-is k h.script (h.agenda.place + 1) false script place resend in
          let few = few-ahead in
          let once = once-counted o in
          record {
            due = let due = small.due in omega (arith, due, kept);
            each = each-small k script;
            few = omega (arith, ahead, few, promised, once);
          }

      -- the script is still at the operation, if that is a send whose resend is due
      small-kept : (s : Send) → send_of o ≡ Some s → (k : Holdings) → k.script ≡ h.script →
          k.agenda.place ≡ h.agenda.place → k.due ≡ true → k.agenda.promised ≤ h.agenda.promised + loaded_once o →
          KeepsPromises h k → HasSmallLoads k
      small-kept s send k script place resend promised kept =
          let ahead = ahead-is k h.script h.agenda.place true script place resend in
          let there : send_at h.script h.agenda.place ≡ Some s = ap (option_and_then send_of) here ∙ send in
          let again = ap (λ x. bytes_ahead x h.agenda.place h.script) there in
          let few = few-ahead in
          let is = is-send o s send in
          let once = is.once in
          let twice = is.twice in
          record {
            due = let due = small.due in omega (arith, due, kept);
            each = each-small k script;
            few = omega (arith, ahead, again, few, promised, once, twice);
          }

      -- the loads are small wherever the script goes on
      pub small-after : (k n : Holdings) → k.agenda.place ≡ h.agenda.place → n.script ≡ h.script →
          k.agenda.promised ≤ h.agenda.promised + loaded_once o → KeepsPromises h k → (a : Answer) →
          (is_kept (send_of o) a ≡ false → IsAtTurn (k.agenda.place + 1) false k n) →
          (is_kept (send_of o) a ≡ true → IsAtTurn k.agenda.place true k n) → HasSmallLoads n
      small-after k n place script promised kept a gone stays = by (send_of o) refl
        where
          due : (b : Bool) (at : ℕ) → IsAtTurn at b k n → KeepsPromises h n
          due b at is =
              omega (
                arith,
                kept,
                ap (λ x. x.promised) is.agenda,
                ap (λ t. pages_due t.map) is.rest.maps,
              )

          low : (b : Bool) (at : ℕ) → IsAtTurn at b k n → n.agenda.promised ≤ h.agenda.promised + loaded_once o
          low b at is = let same = ap (λ x. x.promised) is.agenda in omega (arith, promised, same)

          goes : IsAtTurn (k.agenda.place + 1) false k n → HasSmallLoads n
          goes is =
              small-next n script (ap (λ x. x.place) is.agenda ∙ ap (λ p. p + 1) place) is.rest.most.due
              (low false _ is) (due false _ is)

          by : (x : Option Send) → send_of o ≡ x → HasSmallLoads n
          by None e = goes (gone (ap (λ x. is_kept x a) e))
          by (Some s) e = at (is_too_big a) refl
            where
              at : (b : Bool) → is_too_big a ≡ b → HasSmallLoads n
              at true f =
                  let is = stays (ap (λ x. is_kept x a) e ∙ f) in
                  small-kept s e n script (ap (λ x. x.place) is.agenda ∙ place) is.rest.most.due (low true _ is)
                  (due true _ is)
              at false f = goes (gone (ap (λ x. is_kept x a) e ∙ f))

  -- the script is after a send whose resend was made
  pub small-resent : (s : Send) → due_send (ideal_of h) ≡ Some s → (k : Holdings) → k.script ≡ h.script →
      k.agenda.place ≡ h.agenda.place + 1 → k.due ≡ false →
      k.agenda.promised ≤ h.agenda.promised + span_bytes s.chain → KeepsPromises h k → HasSmallLoads k
  small-resent s due k script place resend promised kept =
      let ahead = ahead-is k h.script (h.agenda.place + 1) false script place resend in
      let before = ap (λ x. bytes_ahead x h.agenda.place h.script) due in
      let few = small.few in
      record {
        due = let due = small.due in omega (arith, due, kept);
        each = each-small k script;
        few = omega (arith, ahead, before, few, promised);
      }

  -- the chain of a send whose resend is due is small, and so are the pages that are promised with those that it may
  -- need
  pub chain-small : (s : Send) → due_send (ideal_of h) ≡ Some s → span_bytes s.chain ≤ 2 ^ 20
  chain-small s due =
      let has = has-due h s due in
      let one = small.each h.agenda.place has.o has.here in
      let once = (is-send has.o s has.send).once in
      omega (arith, one, once)

  pub few-resent : (s : Send) → due_send (ideal_of h) ≡ Some s → h.agenda.promised + span_bytes s.chain < 2 ^ 32
  few-resent s due =
      let few = small.few in
      let chain = chain-small s due in
      omega (arith, few, chain)
