-- What a seat knows after each atomic step that it makes.
use Rattle.std.specs.Prelude.{◌≡◌, ◌≢◌, ◌-◌, ℕ, ◌<◌, true, false, List, [], ◌∷◌, ◌++◌, length, drop, All, Option, Some}
use Rattle.std.specs.Prelude.{None, is_some}
use mathlib.Core.List.{IsPrefix}
use Rattle.atomic_table.specs.Table.{Me, Step, rest}
use Rattle.turnstile.specs.TurnHistory.{calls_of, IsOfOthers}
use Rattle.turnstile.specs.TurnObject.{IsGain}
use Rattle.turnstile.specs.Start.{history_after, IsLawful}
use Rattle.turnstile.specs.View.{ticket_view, served_view, view_after, named_view, refused_view}
use Rattle.turnstile.specs.Rule.{IsAtStep}
use Rattle.turnstile.specs.declared.view.Start.{Start}
use Rattle.turnstile.specs.declared.view.View.{View}

-- a seat's view, and the objects that are out with it
abbrev pub HeldStep : Type 0 → Type 0 → Type 0 → Type 0
HeldStep O E F = Me O (View E F)

-- the seat has the object out, and P holds of it
abbrev pub Carries : {O : Type 0} → List (ℕ × O) → (O → Type 0) → Type 0
Carries {O} out P = (x : O) × (out ≡ (0, x) ∷ []) × P x

-- the seat is a pass's between its calls
abbrev pub IsIdleStep : {O E F : Type 0} → ℕ → HeldStep O E F → Type 0
IsIdleStep name m =
    (m.0.named ≡ true) × (m.0.name ≡ name) × (m.0.turn ≡ false) × (length m.1 ≡ 0) × (is_some m.0.start ≡ true)

module _ {O E F : Type 0} where
  -- the ticket is the seat's if the word was as expected
  abbrev pub DrawsTicket : Step O → HeldStep O E F → ℕ → HeldStep O E F → Type 0
  DrawsTicket st m r m' = (r ≡ st.first → m' ≡ (ticket_view st.first m.0, m.1)) × (r ≢ st.first → m' ≡ m)

  -- if the seat's ticket is served, the seat learns the complete turn history, and the object stays in the slot
  abbrev pub SeesLastTurn : Step O → HeldStep O E F → ℕ → HeldStep O E F → Type 0
  SeesLastTurn st m r m' =
      (r ≡ m.0.ticket → (log : List (ℕ × E)) × (m' ≡ (served_view false log m.0, m.1)) × IsPrefix m.0.front log)
      × (r ≢ m.0.ticket → m' ≡ m)

module _ {E F : Type 0} (legal : F → List E → Type 0) (fits : ℕ → E → Type 0) where
  -- what a view says is true of the object
  pub record Knows (start : Start E F) (v : View E F) : Type 0 where
    pub started : v.start ≡ Some start
    pub sound : IsLawful legal fits start v.front
    pub own : v.named ≡ true → (v.name < start.names) × (calls_of v.name v.front ≡ v.own)
    pub ended : All (λ x. calls_of x.0 v.front ≡ x.1) v.ended

  module _ {O : Type 0} where
    -- the name is the seat's if its word was 0: the seat had no name, and did not know this one to be taken
    abbrev pub TakesName : Step O → HeldStep O E F → ℕ → HeldStep O E F → Type 0
    TakesName st m r m' =
        (r ≡ 0 → (m' ≡ (named_view (st.word - 2) m.0, m.1)) × (m.0.named ≡ false) × All (λ n. n ≢ st.word - 2) m.0.taken
        × ((start : Start E F) → m.0.start ≡ Some start → Knows start m'.0))
        × (r ≢ 0 → m' ≡ (refused_view (st.word - 2) m.0, m.1))

    -- a look at the next ticket, which changes nothing; what the view says is then known to be true
    abbrev pub LearnsTruth : Step O → HeldStep O E F → ℕ → HeldStep O E F → Type 0
    LearnsTruth st m r m' = (m' ≡ m) × ((start : Start E F) → m.0.start ≡ Some start → Knows start m.0)
        × All (λ xs. IsPrefix xs m.0.front) m.0.below × (st.word ≡ 0)

module _ {O E F : Type 0} (history : O → List E) where
  -- what the object's calls added, beyond these turns
  abbrev pub added_since : Option (Start E F) → List (ℕ × E) → O → List E
  added_since None front x = []
  added_since (Some start) front x = drop (length (history_after start front)) (history x)

  -- the view after its turn, by the object that is out
  abbrev pub finished_view : View E F → List (ℕ × O) → View E F
  finished_view v [] = view_after [] v
  finished_view v (c ∷ cs) = view_after (added_since v.start v.front c.1) v

  -- the object goes home, and the next ticket is served
  abbrev pub EndsTurn : (F → List E → Type 0) → (ℕ → E → Type 0) → Step O → HeldStep O E F → ℕ → HeldStep O E F → Type 0
  EndsTurn legal fits st m r m' = (m' ≡ (finished_view m.0 m.1, rest m.1))
      × ((start : Start E F) → m.0.start ≡ Some start → Knows legal fits start m'.0) × (st.word ≡ 1)

  module _ (fixed : O → F) (legal : F → List E → Type 0) (fits : ℕ → E → Type 0) where
    -- the seat's ticket is served: the seat knows the complete turn history, in which only others came next, and
    -- has the object as that history left it
    abbrev pub Sees : (O → List (ℕ × O)) → HeldStep O E F → HeldStep O E F → Type 0
    Sees out m m' = (start : Start E F) × (log : List (ℕ × E)) × (between : List (ℕ × E)) × (x : O)
        × (m' ≡ (served_view true log m.0, out x)) × (m.0.front ++ between ≡ log)
        × (m.0.named ≡ true → IsOfOthers m.0.name between) × IsAtStep history fixed start log x
        × Knows legal fits start m'.0

    -- if the seat's ticket is served, the object comes out to the seat
    abbrev pub SeesTurn : Step O → HeldStep O E F → ℕ → HeldStep O E F → Type 0
    SeesTurn st m r m' = (r ≡ m.0.ticket → Sees (λ x. (0, x) ∷ m.1) m m') × (r ≢ m.0.ticket → m' ≡ m)

    -- the object has made the call of this view's turn
    abbrev pub HasActed : Start E F → View E F → O → Type 0
    HasActed start v y = (fixed y ≡ start.fixed) × legal start.fixed (history y)
        × ((added : List E) × IsGain fits v.name added × (history y ≡ history_after start v.front ++ added))
