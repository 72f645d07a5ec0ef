-- The account with which a scenario opens.
use Rattle.std.specs.Prelude.{ℕ, zero, suc, ◌+◌, ◌*◌, max, Bool, not, List, [], ◌∷◌, ◌++◌, nat_le, nat_lt, ◌&&◌}
use Rattle.std.specs.List.{filter, list_any}
use Rattle.std.specs.Prelude.{map}
use Rattle.busdma_base.specs.declared.scenarios.scenario.FrameRun.{FrameRun}
use Rattle.busdma_base.specs.declared.scenarios.scenario.Driver.{Driver}
use Rattle.busdma_base.specs.declared.scenarios.scenario.Scenario.{Scenario}
use Rattle.busdma_base.specs.Scenarios.FrameRuns.{is_in}
use Rattle.busdma_machine.specs.Bounce.Account.{Account, fresh_account}

-- the highest frame number plus one, or 0 if there is no frame
abbrev pub maxmem_of : List FrameRun → ℕ
maxmem_of [] = 0
maxmem_of (run ∷ runs) = max (run.first + run.count) (maxmem_of runs)

-- a frame is one of a driver's pages
abbrev pub is_owned : List Driver → ℕ → Bool
is_owned drivers frame =
    list_any (λ d. list_any (λ p. nat_le p.frame frame && nat_lt frame (p.frame + p.count)) d.pages) drivers

-- the frame numbers below n that are in the machine and belong to no driver, rising
abbrev pub free_below : Scenario → ℕ → List ℕ
free_below s zero = []
free_below s (suc n) =
    free_below s n ++ filter (λ f. list_any (is_in f) s.frames && not (is_owned s.drivers f)) (n ∷ [])

-- the account with which a scenario opens: every frame that no driver has is free, and there is nothing else
abbrev pub opening : Scenario → Account
opening s =
    let maxmem : ℕ = maxmem_of s.frames in
    fresh_account (map (λ f. 4096 * f) (free_below s maxmem)) maxmem s.max_bpages
