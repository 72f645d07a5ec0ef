-- The entries of one lane in a history that grows, and what a door adds to it.
use Rattle.std.proofs.Common.{◌≡◌, ◌≢◌, ℕ, Bool, true, false, IsTrue, ◌==◌, List, [], ◌∷◌, ◌++◌, All}
use Rattle.std.proofs.Common.{refl, sym, ap, ◌∙◌, append-nil, eq-eqb, ne_eqb}
use Rattle.std.proofs.lemmas.List.Elements.{All-nil, All-cons, All-head, All-tail, filter-append}
use Rattle.busdma_machine.specs.declared.bounce.hold.HoldEntry.{HoldEntry}
use Rattle.busdma_machine.specs.Bounce.Account.{Account}
use Rattle.busdma_machine.specs.Bounce.Door.{Seen, Passes}
use Rattle.busdma_machine.specs.Bounce.History.{IsSound, account_of, after_entry}
use Rattle.busdma_machine.specs.Bounce.LaneEntries.{of_lane}

-- the account after a history and more entries
pub account_of-append : (a : Account) (es fs : List HoldEntry)
    → account_of a (es ++ fs) ≡ account_of (account_of a es) fs
account_of-append a [] fs = refl
account_of-append a (e ∷ es) fs = account_of-append (after_entry e a) es fs

-- the rest of a sound history is sound after its first part
pub sound-rest : (a : Account) (es fs : List HoldEntry) → IsSound a (es ++ fs) → IsSound (account_of a es) fs
sound-rest a [] fs s = s
sound-rest a (e ∷ es) fs s = sound-rest (after_entry e a) es fs s.1

pub of_lane-append : (lane : ℕ) (es fs : List HoldEntry)
    → of_lane lane (es ++ fs) ≡ of_lane lane es ++ of_lane lane fs
of_lane-append lane es fs = filter-append (λ (e : HoldEntry). e.lane.0 == lane) es fs

of_lane-others : (lane : ℕ) (es : List HoldEntry) → All (λ e. e.lane.0 ≢ lane) es → of_lane lane es ≡ []
of_lane-others lane [] others = refl
of_lane-others lane (e ∷ es) others =
    let IsOther : HoldEntry → Type 0 = (λ x. x.lane.0 ≢ lane) in
    rw (ne_eqb e.lane.0 lane (All-head IsOther e es others)) (of_lane-others lane es (All-tail IsOther e es others))

of_lane-own : (lane : ℕ) (e : HoldEntry) → e.lane.0 ≡ lane → of_lane lane (e ∷ []) ≡ e ∷ []
of_lane-own lane e own = rw (eq-eqb e.lane.0 lane own) refl

true≢false : true ≡ false → ⊥
true≢false e = absurd (cc)

-- holds of lanes that a door does not serve are not of a lane that it serves
pub others_away : (serves : ℕ → Bool) (lane : ℕ) (others : List HoldEntry) → IsTrue (serves lane)
    → All (λ h. serves h.lane.0 ≡ false) others → All (λ h. h.lane.0 ≢ lane) others
others_away serves lane [] served apart = All-nil (λ (h : HoldEntry). h.lane.0 ≢ lane)
others_away serves lane (h ∷ hs) served apart =
    let IsUnserved : HoldEntry → Type 0 = (λ x. serves x.lane.0 ≡ false) in
    All-cons (λ (x : HoldEntry). x.lane.0 ≢ lane) h hs
    (λ e. true≢false (sym served ∙ (ap serves (sym e) ∙ All-head IsUnserved h hs apart)))
    (others_away serves lane hs served (All-tail IsUnserved h hs apart))

-- if holds of others came next, a lane that the door serves has the entries that it had
pub own-passes : (lane : ℕ) (d e : Seen) (others : List HoldEntry) → IsTrue (d.serves lane) → Passes d others e
    → of_lane lane e.history ≡ of_lane lane d.history
own-passes lane d e others served p =
    let none : of_lane lane others ≡ [] =
    of_lane-others lane others (others_away d.serves lane others served p.apart) in
    ap (of_lane lane) p.history
    ∙ of_lane-append lane d.history others
    ∙ ap (λ es. of_lane lane d.history ++ es) none
    ∙ append-nil (of_lane lane d.history)
