use Rattle.std.proofs.Common.{refl}
use Rattle.frame_bank.proofs.Differing.{pairs_differ}
use Rattle.lane_threads_tests.specs.declared.tests.opening.TheConstants.{FRAMES}
use Rattle.lane_threads_tests.proofs.tests.opening.open.Goals as goal

pub of_frames-requires-clause-differ : goal.of_frames-requires-clause-differ
of_frames-requires-clause-differ c = pairs_differ FRAMES refl
