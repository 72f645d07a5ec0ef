-- What contracts see of a pass, and what each call does to it.
use Rattle.std.specs.Prelude.{◌≡◌, ◌≢◌, map, ℕ, ◌+◌, ◌<◌, List, [], ◌∷◌, ◌++◌, All, Option, Some, IfSome}
use mathlib.Core.List.{IsPrefix}
use Rattle.atomic_table.specs.Seated.{TableId}
use Rattle.turnstile.specs.TurnHistory.{calls_of, turns_of, IsOfOthers, longer}
use Rattle.turnstile.specs.TurnObject.{IsGain}
use Rattle.turnstile.specs.Start.{history_after, IsLawful}
use Rattle.turnstile.specs.declared.view.Start.{Start}

-- which turnstile it is of, how that started, its name, its front (the turn history as far as it knows it), the names
-- that it knows to have ended, each with its calls, the further names that it knows to be taken, and how many passes
-- were split off from it and from those that ended in it
pub record PassView (E F : Type 0) : Type 0 where
  pub turnstile : TableId
  pub start : Option (Start E F)
  pub name : ℕ
  pub front : List (ℕ × E)
  pub ended : List (ℕ × List E)
  pub taken : List ℕ
  pub splits : ℕ

module _ {E F : Type 0} where
  -- its own calls: the entries of its front under its name
  abbrev pub own_calls : PassView E F → List E
  own_calls pass = calls_of pass.name pass.front

  -- the first pass of a turnstile that started so
  abbrev pub first_pass : TableId → Start E F → PassView E F
  first_pass turnstile start =
      record { turnstile = turnstile; start = Some start; name = 0; front = []; ended = []; taken = []; splits = 0 }

  -- the names that it knows to be taken: its own, those that ended in it, and further ones
  abbrev pub known_names : PassView E F → List ℕ
  known_names pass = pass.name ∷ (map (λ other. other.0) pass.ended ++ pass.taken)

  -- a new pass has this name, of which the old pass knew no call and did not know that it was taken; it knows the same
  -- turns, and saw no name end
  pub record SplitsOff (name : ℕ) (old pass : PassView E F) : Type 0 where
    pub is : pass ≡ record old { name = name; ended = []; taken = known_names old; splits = 0 }
    pub calls : calls_of name old.front ≡ []
    pub free : All (λ other. other ≢ name) (known_names old)

  -- one pass was split off from this one, which is otherwise as it was
  abbrev pub splits_once : PassView E F → PassView E F
  splits_once old = record old { splits = old.splits + 1 }

  -- a pass found this name taken, and is otherwise as it was
  abbrev pub finds_taken : ℕ → PassView E F → PassView E F
  finds_taken name old = record old { taken = name ∷ old.taken }

  -- a pass took another in: it has the longer front, knows that the other's name ended with its calls, and counts the
  -- passes that were split off from either
  pub record TakesIn (old other new : PassView E F) : Type 0 where
    pub is : new ≡ record old {
      front = longer old.front other.front;
      ended = old.ended
          ++ (other.name, own_calls other) ∷ other.ended;
      taken = old.taken ++ other.taken;
      splits = old.splits + other.splits;
    }
    pub begins : IsPrefix old.front new.front
    pub begins_other : IsPrefix other.front new.front
    pub own : own_calls new ≡ own_calls old

-- the call may be made under the pass's name, by all that the pass knows
abbrev pub MayPass : {C E F : Type 0} → (F → List E → ℕ → C → Type 0) → PassView E F → C → Type 0
MayPass may pass call = IfSome pass.start (λ start. may start.fixed (history_after start pass.front) pass.name call)

-- what a pass knows is true of an object: its front is sound, its name is one of the names, and a name that ended has
-- in its front the calls that it ended with
pub record IsSoundPass {E F : Type 0} (legal : F → List E → Type 0) (fits : ℕ → E →
    Type 0) (pass : PassView E F) : Type 0 where
  pub start : Start E F
  pub started : pass.start ≡ Some start
  pub front : IsLawful legal fits start pass.front
  pub name : pass.name < start.names
  pub ended : All (λ other. calls_of other.0 pass.front ≡ other.1) pass.ended

-- a pass had a turn: its front went on by turns of others, and then by its own, which added one entry or none; the
-- reply answers the call in the history of that moment
pub record HasTurn {C R E F : Type 0} (fits : ℕ → E → Type 0) (answers : F → List E → ℕ → C → R → List E →
    Type 0) (old : PassView E F) (call : C) (reply : R) (new : PassView E F) : Type 0 where
  pub start : Start E F
  pub started : old.start ≡ Some start
  pub between : List (ℕ × E)
  pub others : IsOfOthers old.name between
  pub gain : List E
  pub gained : IsGain fits old.name gain
  pub front : new.front ≡ (old.front ++ between) ++ turns_of old.name gain
  pub rest : new ≡ record old { front = new.front }
  pub own : own_calls new ≡ own_calls old ++ gain
  pub history : history_after start new.front ≡ history_after start (old.front ++ between) ++ gain
  pub answered : answers start.fixed (history_after start (old.front ++ between)) old.name
      call reply (history_after start new.front)

-- what a closed turnstile gives: the object as a sound turn history left it, which begins with the last pass's front,
-- has no more of that pass's calls, and has just the calls of each name that ended in it
pub record Closes {O E F : Type 0} (history : O → List E) (fixed : O → F) (legal : F → List E → Type 0) (fits : ℕ → E →
    Type 0) (pass : PassView E F) (object : O) : Type 0 where
  pub start : Start E F
  pub started : pass.start ≡ Some start
  pub turns : List (ℕ × E)
  pub begins : IsPrefix pass.front turns
  pub sound : IsLawful legal fits start turns
  pub fixed_part : fixed object ≡ start.fixed
  pub whole : history object ≡ history_after start turns
  pub own : calls_of pass.name turns ≡ own_calls pass
  pub ended : All (λ other. calls_of other.0 turns ≡ other.1) pass.ended
