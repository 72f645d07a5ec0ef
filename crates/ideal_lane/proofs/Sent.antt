-- The sends of a script.
use Rattle.std.proofs.Common.{◌≡◌, ℕ, ◌*◌, Bool, true, false, if◌then◌else◌, Option, Some, None, refl, ap, sym}
use Rattle.std.proofs.Common.{slice_get, subst, nat_le, take}
use Rattle.std.specs.Prelude.{IfSome}
use Rattle.std.specs.Option.{option_and_then}
use Rattle.busdma_machine.specs.Machine.Spans.{span_bytes}
use Rattle.busdma_base.specs.declared.scenarios.buffer.Buffer.TheVariants as buffer
use Rattle.busdma_base.specs.declared.scenarios.script.Op.{Op}
use Rattle.busdma_base.specs.declared.scenarios.script.Op.TheVariants as op
use Rattle.busdma_base.specs.Scenarios.Operations.{about, items_of, loaded_by}
use Rattle.busdma_base.specs.Scenarios.Buffers.{AreClustersFor, HasClusters}
use Rattle.busdma_machine.specs.declared.bounce.hold.HubCall.TheVariants as call
use Rattle.busdma_machine.specs.declared.bounce.hold.HubReply.TheVariants as reply
use Rattle.busdma_machine.specs.declared.name.MapId.{MapId}
use Rattle.busdma_machine.specs.declared.name.ZoneId.{ZoneId}
use Rattle.busdma_machine.specs.Bounce.Account.{Account, free, zone_at}
use Rattle.busdma_machine.specs.Bounce.AccountStep.{account_step, as_pages, AccountReply}
use Rattle.busdma_machine.specs.Bounce.Serving.{handed}
use Rattle.ideal_lane.specs.Sends.{HaveClusters, Send, due_send, send_of}
use Rattle.ideal_lane.specs.State.{LaneState}
use Rattle.ideal_lane.proofs.Lookups.{all-at}

-- an operation that is a send is a load of a chain with these clusters
pub record IsSend (o : Op) (s : Send) : Type 0 where
  pub flags : ℕ
  pub is : o ≡ op.Load s.map (buffer.Send s.chain (Some s.clusters)) flags s.items

pub sent : (o : Op) (s : Send) → send_of o ≡ Some s → IsSend o s
sent (op.Load m (buffer.Send chain (Some clusters)) flags items) s e =
    let same : record { map = m; chain = chain; clusters = clusters; items = items } ≡ s = cc in
    record {
      flags = flags;
      is = ap (λ (z : Send). op.Load z.map (buffer.Send z.chain (Some z.clusters)) flags z.items)
          same;
    }
sent _ s e = absurd (cc)

pub sent-items : (o : Op) (s : Send) → send_of o ≡ Some s → s.items ≡ items_of o
sent-items o s e = sym (ap items_of (sent o s e).is)

pub sent-bytes : (o : Op) (s : Send) → send_of o ≡ Some s → loaded_by o ≡ 2 * span_bytes s.chain
sent-bytes o s e = ap loaded_by (sent o s e).is

-- the send whose resend is due is the operation at the place of the script
pub record IsDueAt (l : LaneState) (s : Send) : Type 0 where
  pub o : Op
  pub at : slice_get l.script l.place ≡ Some o
  pub is : send_of o ≡ Some s

pub due-at : (l : LaneState) (s : Send) → due_send l ≡ Some s → IsDueAt l s
due-at l s e = by l.due (slice_get l.script l.place) refl e
  where
    by : (due : Bool) (o : Option Op) → slice_get l.script l.place ≡ o →
        (if due then option_and_then send_of o else None) ≡ Some s → IsDueAt l s
    by false o at e = absurd (cc)
    by true None at e = absurd (cc)
    by true (Some o) at e = record { o = o; at = at; is = e }

-- the clusters of a send of a script obey the rules on scripts
pub due-clusters : (l : LaneState) (s : Send) → due_send l ≡ Some s → HaveClusters l.script →
    AreClustersFor s.chain s.clusters
due-clusters l s e all =
    let d = due-at l s e in
    subst (λ o. IfSome (about o).loads HasClusters) (sent d.o s d.is).is
    (all-at (λ o. IfSome (about o).loads HasClusters) l.script l.place d.o all d.at)

-- a call that must not wait is not queued
pub unqueued : (lane : ℕ) (m : MapId) (z : ZoneId) (need : ℕ) (a : Account) (have : ℕ) →
    (account_step lane (call.Grab m z need true) a).reply ≡ reply.Queued have → ⊥
unqueued lane m z need a have h = by (nat_le need (free a z.0)) h
  where
    by : (b : Bool) →
        AccountReply.reply (if b
        then record {
          account = handed a m z.0 need;
          reply =
              reply.Granted (as_pages (take need (zone_at a z.0).avail));
        }
        else record { account = a; reply = reply.NoPages }) ≡ reply.Queued have → ⊥
    by true h = cc
    by false h = cc
