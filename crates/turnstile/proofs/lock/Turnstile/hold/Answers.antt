use Rattle.turnstile.proofs.Passes.{sound_pass}
use Rattle.turnstile.proofs.lock.Turnstile.hold.Goals as goal

pub returns-clause-sound : goal.returns-clause-sound
returns-clause-sound g c = let t =
    g.H.TurnObject in sound_pass t.legal t.fits _ _ c.take_turn.ensures.idle.0 c.take_turn.ensures.knows
