-- What a pass knows after each call.
use Rattle.std.proofs.Common.{◌≡◌, ◌≢◌, ℕ, ◌<◌, true, List, [], ◌∷◌, ◌++◌, map, All, Some, refl, sym, ap, ◌∙◌, subst}
use Rattle.std.proofs.Common.{arith, append-nil}
use Rattle.std.proofs.Common.{is_some, if◌then◌else◌}
use Rattle.atomic_table.specs.Seated.{TableId}
use Rattle.turnstile.specs.TurnHistory.{calls_of}
use Rattle.turnstile.specs.Start.{history_after}
use Rattle.turnstile.specs.Pass.{IsSoundPass, SplitsOff, known_names}
use Rattle.turnstile.specs.View.{pass_view, first_view, named_view, cut_view, nameless_view, returned_view}
use Rattle.turnstile.specs.View.{joined_view, names_seen}
use Rattle.turnstile.specs.Steps.{HeldStep as Held, IsIdleStep, Knows}
use Rattle.turnstile.specs.declared.view.Start.{Start}
use Rattle.turnstile.specs.declared.view.View.{View}
use Rattle.turnstile.proofs.Logs.{nil_of-append}
use Rattle.turnstile.proofs.Turn.{some_of}

module _ {E F : Type 0} (legal : F → List E → Type 0) (fits : ℕ → E → Type 0) where
  -- a pass whose view is known to be true
  pub sound_pass : (t : TableId) (v : View E F) → v.named ≡ true → (a : Start E F) × Knows legal fits a v →
      IsSoundPass legal fits (pass_view t v)
  sound_pass t v named (a, knows) =
      record {
        start = a;
        started = knows.started;
        front = knows.sound;
        name = (knows.own named).0;
        ended = knows.ended;
      }

  -- a new pass is cut off
  pub splits_off : (t u : TableId) (n k : ℕ) (v w : View E F) (a : Start E F) → u ≡ t → k ≡ n → v.named ≡ true →
      w ≡ named_view k (nameless_view v) → All (λ m. m ≢ k) (names_seen v) → Knows legal fits a w →
      SplitsOff n (pass_view t v) (pass_view u w)
  splits_off t u n k v w a here same named is free knows =
      let seen : names_seen v ≡ known_names (pass_view t v) =
      (λ i. map (λ (x : ℕ × List E). x.0) (if named i then (v.name, v.own) ∷ v.ended else v.ended) ++ v.taken) in
      record {
        is = ap (pass_view u) is
            ∙ (λ i. record (pass_view (here i) v) { name = same i; ended = []; taken = seen i; splits = 0 });
        calls = ap (λ m. calls_of m v.front) (sym same)
            ∙ ((λ i. calls_of (sym is i).name (sym is i).front)
            ∙ ((knows.own (ap (λ (z : View E F). z.named) is)).1 ∙ ap (λ (z : View E F). z.own) is));
        free = subst (λ (z : ℕ × List ℕ). All (λ m. m ≢ z.0) z.1) (λ i. (same i, seen i)) free;
      }

  module _ {O : Type 0} where
    pub first_pass_knows : (b : Start E F) (m : Held O E F) → m ≡ (first_view b, []) → 0 < b.names →
        legal b.fixed b.opening → IsIdleStep 0 m × ((a : Start E F) × Knows legal fits a m.0)
    first_pass_knows b m e some lawful =
        subst (λ (z : Held O E F). IsIdleStep 0 z × ((a : Start E F) × Knows legal fits a z.0)) (sym e) (
          (refl, refl, refl, refl, refl),
          (
            b,
            record {
              started = refl;
              sound =
                  record {
                    pairs = λ k z l. absurd (omega arith);
                    lawful =
                        λ xs p. subst (λ l. legal b.fixed (history_after b l)) (sym (nil_of-append xs p.0 p.1))
                        (subst (legal b.fixed) (sym (append-nil b.opening)) lawful);
                  };
              own = λ _. (some, refl);
              ended = λ k z l. absurd (omega arith);
            },
          ),
        )

    pub named_pass_knows : (n k : ℕ) (v : View E F) (a : Start E F) (m m' : Held O E F) → k ≡ n → v.start ≡ Some a →
        m ≡ (nameless_view v, []) → m' ≡ (named_view k m.0, m.1) →
        ((b : Start E F) → m.0.start ≡ Some b → Knows legal fits b m'.0) →
        IsIdleStep n m' × ((b : Start E F) × Knows legal fits b m'.0)
    named_pass_knows n k v a m m' same is e e' tells = let whole : m' ≡ (named_view k (nameless_view v), []) =
        e' ∙ (λ i. (named_view k (e i).0, (e i).1)) in (
          subst (IsIdleStep n) (sym whole) (refl, same, refl, refl, ap is_some is),
          (a, tells a (ap (λ (z : Held O E F). z.0.start) e ∙ is)),
        )

    pub cut_pass_knows : (n : ℕ) (m m' : Held O E F) → m' ≡ (cut_view m.0, m.1) →
        IsIdleStep n m × ((b : Start E F) × Knows legal fits b m.0) →
        IsIdleStep n m' × ((b : Start E F) × Knows legal fits b m'.0)
    cut_pass_knows n m m' e (i, (b, k)) =
        subst (λ (z : Held O E F). IsIdleStep n z × ((a : Start E F) × Knows legal fits a z.0)) (sym e) (
          (i.0, i.1, i.2, i.3, i.4),
          (b, record { started = k.started; sound = k.sound; own = k.own; ended = k.ended }),
        )

    pub returned_pass_knows : (n : ℕ) (w : View E F) (m m' : Held O E F) → m' ≡ (returned_view m.0 w, m.1) →
        IsIdleStep n m × ((b : Start E F) × Knows legal fits b m.0) →
        IsIdleStep n m' × ((b : Start E F) × Knows legal fits b m'.0)
    returned_pass_knows n w m m' e (i, (b, k)) =
        subst (λ (z : Held O E F). IsIdleStep n z × ((a : Start E F) × Knows legal fits a z.0)) (sym e) (
          (i.0, i.1, refl, i.3, i.4),
          (b, record { started = k.started; sound = k.sound; own = k.own; ended = k.ended }),
        )

    pub joined_pass_knows : (n : ℕ) (w : View E F) (m m' m'' : Held O E F) → m' ≡ (joined_view m.0 w, m.1) → m'' ≡ m' →
        IsIdleStep n m → ((b : Start E F) → m'.0.start ≡ Some b → Knows legal fits b m'.0) →
        IsIdleStep n m'' × ((b : Start E F) × Knows legal fits b m''.0)
    joined_pass_knows n w m m' m'' e e' i tells = let b =
        some_of m.0.start i.4 in
        subst (λ (z : Held O E F). IsIdleStep n z × ((a : Start E F) × Knows legal fits a z.0)) (sym e') (
          subst (IsIdleStep n) (sym e) (i.0, i.1, refl, i.3, i.4),
          (b.0, tells b.0 (ap (λ (z : Held O E F). z.0.start) e ∙ b.1)),
        )

    -- what the first pass knows
    pub first_sound : (t : TableId) (b : Start E F) (m : Held O E F) → m ≡ (first_view b, []) → 0 < b.names →
        legal b.fixed b.opening → IsSoundPass legal fits (pass_view t m.0)
    first_sound t b m e some lawful = let known =
        first_pass_knows b m e some lawful in sound_pass t m.0 known.0.0 known.1
