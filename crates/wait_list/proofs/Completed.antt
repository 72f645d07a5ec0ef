-- The serving of a list whose head is completed.
use Rattle.std.proofs.Common.{◌≡◌, ℕ, ◌+◌, ◌-◌, ◌≤◌, List, [], ◌∷◌, ap, ◌∙◌, sym, arith, cond}
use Rattle.std.proofs.lemmas.Bool.{le-leb}
use Rattle.busdma_machine.specs.declared.bounce.zone.Waiter.{Waiter}
use Rattle.busdma_machine.specs.Bounce.Serving.{completed, left_waiting}

-- the head with all that it needs
abbrev pub complete : Waiter → Waiter
complete w = record w { have = w.need }

pub left-head : (pages lack : ℕ) (w : Waiter) (ws : List Waiter) → lack ≡ w.need - w.have → lack ≤ pages →
    left_waiting pages (w ∷ ws) ≡ left_waiting (pages - lack) ws
left-head pages lack w ws e l =
    ap (λ b. cond b (left_waiting (pages - (w.need - w.have)) ws) (record w { have = w.have + pages } ∷ ws))
    (le-leb (w.need - w.have) pages (omega arith))
    ∙ ap (λ k. left_waiting (pages - k) ws) (sym e)

pub completed-head : (pages lack : ℕ) (w : Waiter) (ws : List Waiter) → lack ≡ w.need - w.have → lack ≤ pages →
    completed pages (w ∷ ws) ≡ complete w ∷ completed (pages - lack) ws
completed-head pages lack w ws e l =
    ap (λ b. cond b (complete w ∷ completed (pages - (w.need - w.have)) ws) [])
    (le-leb (w.need - w.have) pages (omega arith))
    ∙ ap (λ k. complete w ∷ completed (pages - k) ws) (sym e)
