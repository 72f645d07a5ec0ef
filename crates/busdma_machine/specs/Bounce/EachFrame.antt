-- What holds of each frame of an account, wherever it is.
use Rattle.std.specs.Prelude.{ℕ, ◌*◌, ◌<◌, All}
use Rattle.busdma_machine.specs.Bounce.Account.{Account}

-- P holds of each frame of an account: of the free frames, of the pages in the zones' lists, of the pages that maps
-- hold, and of the memories' frames
pub record EachFrame (P : ℕ → Type 0) (a : Account) : Type 0 where
  pub bank : All P a.bank
  pub listed : All (λ z. All P z.avail) a.zones
  pub held : All (λ h. P h.page) a.held
  pub mems : All (λ m. All P m.frames) a.mems

-- each frame of an account has a number below maxmem
abbrev pub LiesBelowMaxmem : Account → Type 0
LiesBelowMaxmem a = EachFrame (λ f. f < 4096 * a.maxmem) a
