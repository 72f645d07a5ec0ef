use Rattle.std.proofs.Common.{refl}
use Rattle.bus_dma.specs.declared.failure.DmaError.TheVariants as error
use Rattle.bus_dma.specs.Answers.{IsLoadResult}
use Rattle.bus_dma.proofs.CallerLaws.{done-began, failed-began}
use Rattle.bus_dma.proofs.laws.loads_begin_ready.Goals as goal

pub returns-clause-done : goal.returns-clause-done
returns-clause-done c = λ o m bytes driver d e n x call. done-began IsLoadResult o m bytes driver d e n x call

pub returns-clause-refused : goal.returns-clause-refused
returns-clause-refused c = λ o m bytes driver d e n errno call.
    failed-began IsLoadResult o m bytes driver d e n (error.Errno errno) refl call

pub returns-clause-memory : goal.returns-clause-memory
returns-clause-memory c = λ o m bytes driver d e n call.
    failed-began IsLoadResult o m bytes driver d e n error.OutOfMemory refl call
