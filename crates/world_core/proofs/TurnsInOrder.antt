-- Turns in order, and rounds until one makes no step.
use Rattle.std.proofs.Common.{◌≡◌, ℕ, zero, suc, ◌+◌, ◌<◌, List, [], ◌∷◌, ◌++◌, length, take, get_or, Option}
use Rattle.std.proofs.Common.{Some, None, refl, sym, ap, ◌∙◌, arith, add-one, length-append, ◌⊎◌, inl, inr}
use Rattle.std.proofs.Math.Seq.{take-suc}
use Rattle.std.proofs.Props.{props}
use mathlib.Core.Logic.{∥∥₁_elim}
use Rattle.busdma_base.specs.declared.journals.journal.Actor.{Actor}
use Rattle.busdma_base.specs.declared.journals.journal.JournalEntry.{JournalEntry}
use Rattle.busdma_base.specs.declared.journals.journal.Side.TheVariants.{Script, Transfer, Callback}
use Rattle.world_core.specs.declared.run.Progress.{Progress}
use Rattle.ideal_world.specs.Left.{left_of}
use Rattle.ideal_world.specs.Legal.{Run, noted, turn, turns, rounds, round_from}
use Rattle.ideal_world.specs.World.{step, step_entry}
use Rattle.ideal_world.proofs.RunTurns.{rests-or-falls}
use Rattle.ideal_world.proofs.RestRounds.{turns_grow}
use Rattle.ideal_world.proofs.Rounds.{rounds-add}
use Rattle.world_core.specs.Ideal.{ideal_run}

turns-snoc : (r : Run) (order : List Actor) (a : Actor) → turns r (order ++ a ∷ []) ≡ turn (turns r order) a
turns-snoc r [] a = refl
turns-snoc r (b ∷ order) a = turns-snoc (turn r b) order a

-- one more turn of an order
pub next_turn : (r x y : Run) (order : List Actor) (i : ℕ) (d : Actor) → i < length order →
    x ≡ turns r (take i order) → y ≡ turn x (get_or order i d) → y ≡ turns r (take (i + 1) order)
next_turn r x y order i d lt h k =
    k ∙ (ap (λ z. turn z (get_or order i d)) h
    ∙ sym (ap (λ j. turns r (take j order)) (add-one i)
    ∙ (ap (turns r) (take-suc order i d lt) ∙ turns-snoc r (take i order) (get_or order i d))))

-- one more round
pub next_round : (n : ℕ) (round : List Actor) (r x y : Run) → rounds n round r ≡ x →
    y ≡ turns x round → rounds (n + 1) round r ≡ y
next_round n round r x y h k = sym (rounds-add n 1 round r) ∙ (ap (λ z. turns z round) h ∙ sym k)

-- turns leave the run as it is, or note an entry
rests-or-notes : (actors : List Actor) (r : Run) →
    (turns r actors ≡ r) ⊎ (length r.entries < length (turns r actors).entries)
rests-or-notes [] r = inl refl
rests-or-notes (a ∷ actors) r = first (step_entry r.world a) (rests-or-notes actors r)
  where
    first : (o : Option JournalEntry) → (turns r actors ≡ r) ⊎ (length r.entries < length (turns r actors).entries) →
        (turns (noted r (step r.world a).world o) actors ≡ r)
        ⊎ (length r.entries < length (turns (noted r (step r.world a).world o) actors).entries)
    first None others = others
    first (Some e) others =
        let next : Run = noted r (step r.world a).world (Some e) in
        inr (omega (arith, turns_grow actors next, length-append r.entries (e ∷ [])))

-- a round that noted no entry comes to rest
pub rests : (round : List Actor) (x y : Run) → y ≡ turns x round →
    length y.entries ≡ length x.entries → turns y round ≡ y
rests round x y h none = by_way (rests-or-notes round x)
  where
    by_way : (turns x round ≡ x) ⊎ (length x.entries < length (turns x round).entries) → turns y round ≡ y
    by_way (inl same) = ap (λ z. turns z round) (h ∙ same) ∙ sym h
    by_way (inr more) = absurd (omega (arith, more, none, ap (λ (z : Run). length z.entries) h))

-- a round of a world that noted an entry leaves less to do
pub falls : (round : List Actor) (p : Progress) (y : Run) → y ≡ turns (ideal_run p) round →
    (length y.entries ≡ length p.entries.items → ⊥) → left_of y.world < left_of (ideal_run p).world
falls round p y h some =
    ∥∥₁_elim p.world.kept less-prop (λ k. by_way (rests-or-falls p.world.scenario.now round x k.well))
  where
    x : Run
    x = ideal_run p

    less-prop : IsProp (left_of y.world < left_of x.world)
    less-prop = hlevel (props)

    by_way : (turns x round ≡ x) ⊎ (left_of (turns x round).world < left_of x.world) →
        left_of y.world < left_of x.world
    by_way (inl same) = absurd (some (ap (λ (z : Run). length z.entries) (h ∙ same)))
    by_way (inr less) = omega (arith, less, ap (λ (z : Run). left_of z.world) h)

-- the round over one more driver
round_from-snoc : (i n : ℕ) → round_from i (suc n) ≡ round_from i n
    ++ (record { lane = record { 0 = i + n }; side = Callback }
    ∷ record { lane = record { 0 = i + n }; side = Transfer }
    ∷ record { lane = record { 0 = i + n }; side = Script } ∷ [])
round_from-snoc i zero = let e : i ≡ i + 0 =
    omega arith in
    ap (λ k. record { lane = record { 0 = k }; side = Callback } ∷ record { lane = record { 0 = k }; side = Transfer }
    ∷ record { lane = record { 0 = k }; side = Script } ∷ []) e
round_from-snoc i (suc n) =
    let e : (i + 1) + n ≡ i + suc n = omega arith in
    ap (λ rest. record { lane = record { 0 = i }; side = Callback }
    ∷ record { lane = record { 0 = i }; side = Transfer }
    ∷ record { lane = record { 0 = i }; side = Script } ∷ rest)
    (round_from-snoc (i + 1) n
    ∙ ap (λ k. round_from (i + 1) n
    ++ (record { lane = record { 0 = k }; side = Callback } ∷ record { lane = record { 0 = k }; side = Transfer }
    ∷ record { lane = record { 0 = k }; side = Script } ∷ [])) e)

-- the actors of a driver in a round
abbrev pub callback : ℕ → Actor
callback n = record { lane = record { 0 = n }; side = Callback }

abbrev pub transfer : ℕ → Actor
transfer n = record { lane = record { 0 = n }; side = Transfer }

abbrev pub script : ℕ → Actor
script n = record { lane = record { 0 = n }; side = Script }

-- three pushes
three_more : (r : List Actor) (a b c : Actor) → ((r ++ a ∷ []) ++ b ∷ []) ++ c ∷ [] ≡ r ++ (a ∷ b ∷ c ∷ [])
three_more [] a b c = refl
three_more (x ∷ r) a b c = ap (λ t. x ∷ t) (three_more r a b c)

-- the round over one more driver, by pushes
pub round_pushed : (n : ℕ) (r x y z : List Actor) → r ≡ round_from 0 n → x ≡ r ++ callback n ∷ [] →
    y ≡ x ++ transfer n ∷ [] → z ≡ y ++ script n ∷ [] → z ≡ round_from 0 (n + 1)
round_pushed n r x y z before first second third =
    let e : 0 + n ≡ n = omega arith in
    third
    ∙ (ap (λ l. l ++ script n ∷ []) (second ∙ ap (λ l. l ++ transfer n ∷ []) first)
    ∙ (three_more r (callback n) (transfer n) (script n)
    ∙ (ap (λ l. l ++ (callback n ∷ transfer n ∷ script n ∷ [])) before
    ∙ sym (ap (round_from 0) (add-one n) ∙ (round_from-snoc 0 n
    ∙ ap (λ k. round_from 0 n ++ (callback k ∷ transfer k ∷ script k ∷ [])) e)))))
