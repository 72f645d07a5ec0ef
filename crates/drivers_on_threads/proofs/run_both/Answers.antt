use denote.Param.Send.{shr_send}
use mathlib.Core.List.{[]}
use mir.Syntax.{static}
use Rattle.std.proofs.Common.{rules}
use Rattle.std.proofs.Crossing.{sync}
use Rattle.drivers_on_threads.proofs.Sending.{closure_send, seat_send, signals_sync}
use Rattle.drivers_on_threads.proofs.run_both.Goals as goal

pub join-first-requires-send-F : goal.join-first-requires-send-F
join-first-requires-send-F g c κs within =
    let Rt = c.type_bounds.sync-Rt in
    record {
      owned =
          (closure_send [] _ _ _ _ (shr_send static _ _ Rt) (shr_send static κs.0 _ sync)
          (seat_send (record { mir = static; lft = _ }) (record { mir = static; lft = _ }) _ Rt)
          (shr_send static _ _ signals_sync)).owned;
      leaving = search rules;
    }
