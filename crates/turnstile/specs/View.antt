-- The views of a turnstile's table, and what each step makes of them. No program has one.
use Rattle.std.specs.Prelude.{if◌then◌else◌, ℕ, ◌+◌, ◌-◌, Bool, true, false, List, [], ◌∷◌, ◌++◌, map, Option, Some}
use Rattle.std.specs.Prelude.{None}
use Rattle.atomic_table.specs.Seated.{TableId}
use Rattle.turnstile.specs.TurnHistory.{turns_of, longer}
use Rattle.turnstile.specs.Pass.{PassView}
use Rattle.turnstile.specs.declared.view.Start.{Start}
use Rattle.turnstile.specs.declared.view.View.{View}

-- the first of the names, if there is one
abbrev pub first_seen : List ℕ → List ℕ
first_seen [] = []
first_seen (n ∷ ns) = n ∷ []

module _ {E F : Type 0} where
  -- what a pass with this view shows
  abbrev pub pass_view : TableId → View E F → PassView E F
  pass_view turnstile v =
      record {
        turnstile = turnstile;
        start = v.start;
        name = v.name;
        front = v.front;
        ended = v.ended;
        taken = v.taken;
        splits = v.splits;
      }

  -- a view with no ticket
  abbrev pub resting_view : Option (Start E F) → Bool → ℕ → List (ℕ × E) →
      List E → List (ℕ × List E) → List ℕ → ℕ → View E F
  resting_view start named name front own ended taken splits =
      record {
        start = start;
        named = named;
        name = name;
        waits = false;
        whole = false;
        turn = false;
        ticket = 0;
        front = front;
        own = own;
        ended = ended;
        taken = taken;
        splits = splits;
        below = [];
      }

  -- the view of the first pass
  abbrev pub first_view : Start E F → View E F
  first_view start = resting_view (Some start) true 0 [] [] [] [] 0

  -- the view of a seat that was joined to another
  abbrev pub spent_view : View E F
  spent_view = resting_view None false 0 [] [] [] [] 0

  -- the view with this ticket
  abbrev pub ticket_view : ℕ → View E F → View E F
  ticket_view ticket v =
      record {
        start = v.start;
        named = v.named;
        name = v.name;
        waits = true;
        whole = false;
        turn = false;
        ticket = ticket;
        front = v.front;
        own = v.own;
        ended = v.ended;
        taken = v.taken;
        splits = v.splits;
        below = [];
      }

  -- the view whose ticket is served after these turns; it is on turn, or closes the turnstile
  abbrev pub served_view : Bool → List (ℕ × E) → View E F → View E F
  served_view turn turns v =
      record {
        start = v.start;
        named = v.named;
        name = v.name;
        waits = true;
        whole = true;
        turn = turn;
        ticket = v.ticket;
        front = turns;
        own = v.own;
        ended = v.ended;
        taken = v.taken;
        splits = v.splits;
        below = [];
      }

  -- the view after its turn, which added these entries
  abbrev pub view_after : List E → View E F → View E F
  view_after added v =
      resting_view v.start v.named v.name (v.front ++ turns_of v.name added) (v.own ++ added) v.ended v.taken v.splits

  -- the names that have ended once this view is spent, each with its calls
  abbrev pub ended_with : View E F → List (ℕ × List E)
  ended_with w = if w.named then (w.name, w.own) ∷ w.ended else w.ended

  -- the names that this view knows to be taken
  abbrev pub names_seen : View E F → List ℕ
  names_seen v = map (λ x. x.0) (ended_with v) ++ v.taken

  -- the view off which a seat was cut
  abbrev pub cut_view : View E F → View E F
  cut_view v = record v { splits = v.splits + 1 }

  -- a new view beside another, with no name yet
  abbrev pub nameless_view : View E F → View E F
  nameless_view v = resting_view v.start false 0 v.front [] [] (names_seen v) 0

  -- the view that took this name
  abbrev pub named_view : ℕ → View E F → View E F
  named_view name v = resting_view v.start true name v.front v.own v.ended v.taken v.splits

  -- the view that found this name taken
  abbrev pub refused_view : ℕ → View E F → View E F
  refused_view name v = resting_view v.start v.named v.name v.front v.own v.ended (name ∷ v.taken) v.splits

  -- how many seats were cut off from two, once the second goes back to the first: itself no more, if it has no name
  abbrev pub splits_back : View E F → View E F → ℕ
  splits_back v w = if w.named then v.splits + w.splits else v.splits + w.splits - 1

  -- the first view after the second found a name taken and went back to it
  abbrev pub returned_view : View E F → View E F → View E F
  returned_view v w = resting_view v.start v.named v.name v.front v.own v.ended (first_seen w.taken ++ v.taken)
      (splits_back v w)

  -- the first view, which took the second in
  abbrev pub joined_view : View E F → View E F → View E F
  joined_view v w = record {
    start = v.start;
    named = v.named;
    name = v.name;
    waits = false;
    whole = false;
    turn = false;
    ticket = 0;
    front = longer v.front w.front;
    own = v.own;
    ended = v.ended ++ ended_with w;
    taken = v.taken ++ w.taken;
    splits = v.splits + w.splits;
    below = v.front ∷ w.front ∷ [];
  }
