use Rattle.bus_dma.specs.Answers.{IsLoadResult, IsReadResult, IsResult}
use Rattle.bus_dma.proofs.CallerLaws.{call-ready, return-ready}
use Rattle.bus_dma.proofs.laws.calls_leave_ready.Goals as goal

pub returns-clause-done : goal.returns-clause-done
returns-clause-done c = λ o d e l n h off call. call-ready (IsResult (tt {0})) o d l (tt {0}) n e h off call

pub returns-clause-read : goal.returns-clause-read
returns-clause-read c = λ o d e l n h vs off call. call-ready IsReadResult o d l vs n e h off call

pub returns-clause-made : goal.returns-clause-made
returns-clause-made c = λ o d e l n h m off call. call-ready (IsResult m) o d l m n e h off call

pub returns-clause-load : goal.returns-clause-load
returns-clause-load c = λ o d e l n h x call. return-ready IsLoadResult o d l x n e h call

pub returns-clause-unload : goal.returns-clause-unload
returns-clause-unload c = λ o d e l n h call. return-ready (IsResult (tt {0})) o d l (tt {0}) n e h call
