-- Histories of the holds of the bounce lock, and which are sound.
use Rattle.std.specs.Prelude.{◌≡◌, ℕ, ◌<◌, ◌≤◌, ◌^◌, ◌%◌, Bool, true, false, List, [], ◌∷◌, length, All, IsTrue}
use Rattle.busdma_machine.specs.declared.bounce.hold.HubCall.{HubCall}
use Rattle.busdma_machine.specs.declared.bounce.hold.HubCall.TheVariants.{TakeCallback}
use Rattle.busdma_machine.specs.declared.bounce.hold.HubReply.{HubReply}
use Rattle.busdma_machine.specs.declared.bounce.hold.HubReply.TheVariants.{Nothing}
use Rattle.busdma_machine.specs.declared.bounce.hold.HoldEntry.{HoldEntry}
use Rattle.busdma_machine.specs.Bounce.Account.{Account}
use Rattle.busdma_machine.specs.Bounce.AccountStep.{account_step}
use Rattle.busdma_machine.specs.Bounce.Conditions.{MayCall}

-- each number is greater than the one before it
abbrev pub IsRising : List ℕ → Type 0
IsRising [] = Unit {0}
IsRising (f ∷ []) = Unit {0}
IsRising (f ∷ g ∷ gs) = (f < g) × IsRising (g ∷ gs)

-- the address of the first byte of a frame, whose number is below 2^30
pub record IsFrame (f : ℕ) : Type 0 where
  pub whole : f % 4096 ≡ 0
  pub numbered : f < 2 ^ 42

-- an account that a history can begin with: at most 8192 free frames in rising order, and nothing else
pub record IsOpening (a : Account) : Type 0 where
  pub rising : IsRising a.bank
  pub frames : All IsFrame a.bank
  pub few : length a.bank ≤ 8192
  pub zones : a.zones ≡ []
  pub held : a.held ≡ []
  pub ready : a.ready ≡ []
  pub mems : a.mems ≡ []

-- the account after an entry
abbrev pub after_entry : HoldEntry → Account → Account
after_entry e a = (account_step e.lane.0 e.call a).account

-- the account after a history that began with this account
abbrev pub account_of : Account → List HoldEntry → Account
account_of a [] = a
account_of a (e ∷ es) = account_of (after_entry e a) es

-- a call with this reply is entered in the history, unless it asked for a callback and found none
abbrev pub is_entry : HubCall → HubReply → Bool
is_entry TakeCallback Nothing = false
is_entry _ _ = true

-- an entry that belongs in the history: the account allows its call, and its reply is the account's
pub record IsSoundEntry (e : HoldEntry) (a : Account) : Type 0 where
  pub may : MayCall e.lane.0 e.call a
  pub kept : IsTrue (is_entry e.call e.reply)
  pub reply : e.reply ≡ (account_step e.lane.0 e.call a).reply

-- a history is sound: each entry is sound in the account before it
abbrev pub IsSound : Account → List HoldEntry → Type 0
IsSound a [] = Unit {0}
IsSound a (e ∷ es) = IsSoundEntry e a × IsSound (after_entry e a) es
