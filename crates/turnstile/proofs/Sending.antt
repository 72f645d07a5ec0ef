-- A pass may go to another thread, and threads may share a turnstile, where the object may go to another thread.
use denote.RattleType.{RattleType}
use denote.Param.Send.{IsSend, IsSync, Frees, sendable, part_keyless}
use denote.Struct.Struct.{Struct}
use denote.Struct.Owning.{shape}
use Rattle.std.proofs.Crossing.{crosses}
use Rattle.std.specs.declared.alloc.Allocator.{Ghosts}
use Rattle.atomic_table.specs.declared.shared.TableRule as TableRule
use Rattle.atomic_table.specs.contracts.shared.Seat as Seat
use Rattle.atomic_table.specs.contracts.shared.Shared as Shared
use Rattle.atomic_table.specs.contracts.send_lease.SendLease as Lease
use Rattle.atomic_table.proofs.Rights.{right_send}
use Rattle.atomic_table.proofs.Sent.{seat_keyless, shares_keyless}
use Rattle.turnstile.specs.declared.object.TurnObject as TurnObject
use Rattle.turnstile.specs.contracts.pass.Pass as Pass
use Rattle.turnstile.specs.contracts.lock.Turnstile as Turnstile

seat_send : (S V : RattleType) → IsSend S → IsSend (Seat.the_row S V)
seat_send S V s = record {
  owned = λ d vs. ((λ vss. (tt, ((λ uss. (tt, tt)), tt))), seat_keyless S s V.coded.code d.table_id d.id d.me);
  leaving = λ k f vs. tt;
}

shared_sync : (S V K P : RattleType) (g : TableRule.Ghosts P.Denot S.Denot V.Denot K.Denot) → IsSend S
    → IsSync (Shared.the_row S V K P g)
shared_sync S V K P g s =
    let fields : IsSync (Struct (shape (Shared.the_type S V K P g))) = search sendable depth 20 in
    record {
      shared = λ d b o ν. (
        fields.shared (d.words, (d.slots, (tt, tt))) b o ν,
        shares_keyless S s V.coded.code d.table_id (g.holds d.key) d.words d.slots ν,
      );
    }

lease_sync : (T A : RattleType) (g : Ghosts A.Denot) → IsSend A →
    Frees g g.dealloc_token → IsSync (Lease.the_row T A g)
lease_sync T A g s f = record { shared = λ d b o ν q. part_keyless (Lease.the_row T A g) (right_send T A g f) q d b o }

module _ (T C R E F : RattleType) (g : TurnObject.Ghosts T.Denot C.Denot R.Denot E.Denot F.Denot) where
  pub pass_send : IsSend T → IsSend (Pass.the_row T C R E F g)
  pass_send s = search (seat_send, sendable, crosses) depth 60 fits 20000

  pub turnstile_sync : IsSend T → IsSync (Turnstile.the_row T C R E F g)
  turnstile_sync s = search (shared_sync, lease_sync, sendable, crosses) depth 60 fits 20000
