-- The account with which a hub begins.
use Rattle.std.specs.Prelude.{ℕ}
use Rattle.busdma_machine.specs.Bounce.Account.{Account, fresh_account}
use Rattle.frame_bank.specs.FrameBank.{Bank, free_frames}

-- the account with which a hub begins: the free frames of a bank, the two constants, and nothing else
abbrev pub hub_opening : Bank → ℕ → ℕ → Account
hub_opening bank max_bpages maxmem = fresh_account (free_frames bank) maxmem max_bpages
