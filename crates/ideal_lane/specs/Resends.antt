-- How often the steps of a run load a send.
use Rattle.std.specs.Prelude.{ℕ, ◌==◌, Bool, false, List, if◌then◌else◌}
use Rattle.std.specs.List.{sum_by}
use Rattle.busdma_base.specs.declared.journals.journal.Did.{Did}
use Rattle.busdma_base.specs.declared.journals.journal.Did.TheVariants as did
use Rattle.ideal_lane.specs.Callbacks.{MadeStep}
use Rattle.ideal_lane.specs.Turns.{Turn, Stepped, Blocked, Ended}

-- what was done is the operation at this place of the script, and not its resend
abbrev pub is_operation : ℕ → Did → Bool
is_operation p (did.Op place) = place == p
is_operation p (did.Again place) = false
is_operation p (did.Release m page) = false
is_operation p (did.Callback m) = false
is_operation p (did.Item load_at place) = false

-- what was done is the resend of the send at this place of the script
abbrev pub is_resend : ℕ → Did → Bool
is_resend p (did.Op place) = false
is_resend p (did.Again place) = place == p
is_resend p (did.Release m page) = false
is_resend p (did.Callback m) = false
is_resend p (did.Item load_at place) = false

-- how often a turn does what a test chooses: 1 if it is such a step, and else 0
abbrev pub turn_does : (Did → Bool) → Turn → ℕ
turn_does chosen (Stepped e) = if chosen e.did then 1 else 0
turn_does chosen Blocked = 0
turn_does chosen Ended = 0

-- how often the turns of a run do what a test chooses
abbrev pub times_done_in_run : (Did → Bool) → List MadeStep → ℕ
times_done_in_run chosen steps = sum_by (λ m. turn_does chosen m.turned.turn) steps
