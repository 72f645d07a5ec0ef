-- A turn, from its steps.
use Rattle.std.proofs.Common.{◌≡◌, ◌≢◌, ℕ, ◌<◌, true, List, [], ◌∷◌, ◌++◌, length, get_or, All, Option, Some, None}
use Rattle.std.proofs.Common.{refl, sym, ap, ◌∙◌, subst, inl, inr, ⊎_elim, arith, append_assoc, append-nil, true≢false}
use mathlib.Core.List.{IsPrefix}
use Rattle.std.proofs.lemmas.List.Elements.{All-head, All-tail}
use Rattle.std.proofs.lemmas.Option.{same_Some}
use Rattle.std.proofs.Common.{is_some, IfSome}
use Rattle.atomic_table.specs.Seated.{TableId}
use Rattle.turnstile.specs.TurnHistory.{calls_of, turns_of, IsOfOthers}
use Rattle.turnstile.specs.TurnObject.{Grows, IsGain, OutlastsOthers, IsActed}
use Rattle.turnstile.specs.Start.{history_after, IsLawful}
use Rattle.turnstile.specs.Pass.{HasTurn}
use Rattle.turnstile.specs.View.{pass_view, ticket_view, served_view, view_after}
use Rattle.turnstile.specs.Rule.{IsAtStep}
use Rattle.turnstile.specs.Steps.{HeldStep as Held, Sees, Carries, HasActed, added_since}
use Rattle.turnstile.specs.declared.view.Start.{Start}
use Rattle.turnstile.specs.declared.view.View.{View}
use Rattle.turnstile.proofs.Logs.{prefix_self, calls_of-append, calls_of-own, calls_of-others}
use Rattle.turnstile.proofs.TurnSteps.{history_after_turn, added_is}

pub none_there : {A : Type 0} (xs : List A) → length xs ≡ 0 → xs ≡ []
none_there [] e = refl
none_there (x ∷ xs) e = absurd (omega arith)

pub some_of : {A : Type 0} (o : Option A) → is_some o ≡ true → (x : A) × (o ≡ Some x)
some_of (Some x) e = (x, refl)
some_of None e = absurd (true≢false (sym e))

All_rest : {A : Type 0} (P : A → Type 0) (xs ys : List A) → All P (xs ++ ys) → All P ys
All_rest P [] ys all = all
All_rest P (x ∷ xs) ys all = All_rest P xs ys (All-tail P x (xs ++ ys) all)

pub grown : {E : Type 0} (fits : ℕ → E → Type 0) (n : ℕ) (h h' : List E) → Grows (fits n) h h' →
    (es : List E) × IsGain fits n es × (h' ≡ h ++ es)
grown {E} fits n h h' g =
    ⊎_elim (λ (e : h' ≡ h). ([], inl refl, e ∙ sym (append-nil h)))
    (λ (t : (e : E) × fits n e × (h' ≡ h ++ e ∷ [])). (t.0 ∷ [], inr (t.0, t.1, refl), t.2)) g

module _ {O C Q E F : Type 0} (history : O → List E) (fixed : O → F) (legal : F → List E → Type 0) (fits : ℕ → E →
    Type 0) (may : F → List E → ℕ → C → Type 0) (answers : F → List E → ℕ → C → Q → List E → Type 0) where
  -- what may be called may still be called after turns of others
  abbrev pub Stays : Type 0
  Stays = (f : F) (h : List E) (n m : ℕ) (c : C) (e : E) → may f h n c → m ≢ n → fits m e →
      legal f (h ++ e ∷ []) → may f (h ++ e ∷ []) n c

  -- the seat saw its turn, with the object out to it
  abbrev pub SeesFrom : Held O E F → Held O E F → Type 0
  SeesFrom m1 m2 = Sees history fixed legal fits (λ x. (0, x) ∷ m1.1) m1 m2

  -- the object that is out made a call
  abbrev pub Acts : ℕ → C → Q → Held O E F → Held O E F → Type 0
  Acts name call reply m2 m3 =
      Carries m2.1 (λ x. Carries m3.1 (IsActed history fixed legal fits answers name call reply x))

  may_stays : (b : Start E F) → OutlastsOthers legal fits may → (n : ℕ) (c : C) (front between : List (ℕ × E)) →
      may b.fixed (history_after b front) n c → IsOfOthers n between →
      All (λ p. (p.0 < b.names) × fits p.0 p.1) between
      → ((xs : List (ℕ × E)) → IsPrefix xs (front ++ between) → legal b.fixed (history_after b xs)) →
      may b.fixed (history_after b (front ++ between)) n c
  may_stays b stays n c front [] can others fit lawful =
      subst (λ l. may b.fixed (history_after b l) n c) (sym (append-nil front)) can
  may_stays b stays n c front (p ∷ ps) can others fit lawful =
      let whole : (front ++ p ∷ []) ++ ps ≡ front ++ p ∷ ps = append_assoc front (p ∷ []) ps in
      let one : history_after b front ++ p.1 ∷ [] ≡ history_after b (front ++ p ∷ []) =
      history_after_turn history fixed legal fits b front p.0 (p.1 ∷ []) in
      let lawful' : legal b.fixed (history_after b front ++ p.1 ∷ []) =
      subst (legal b.fixed) (sym one) (lawful (front ++ p ∷ []) (ps, whole)) in
      let next = stays b.fixed (history_after b front) n p.0 c p.1 can (All-head (λ (q : ℕ × E). q.0 ≢ n) p ps others)
      (All-head (λ (q : ℕ × E). (q.0 < b.names) × fits q.0 q.1) p ps fit).1 lawful' in
      subst (λ l. may b.fixed (history_after b l) n c) whole
      (may_stays b stays n c (front ++ p ∷ []) ps (subst (λ h. may b.fixed h n c) one next)
      (All-tail (λ (q : ℕ × E). q.0 ≢ n) p ps others)
      (All-tail (λ (q : ℕ × E). (q.0 < b.names) × fits q.0 q.1) p ps fit)
      (λ xs q. lawful xs (subst (IsPrefix xs) whole q)))

  -- a view that goes on keeps its start
  same_start : (b b' : Start E F) (v w : View E F) → v.start ≡ Some b → w.start ≡ Some b' → w.start ≡ v.start → b' ≡ b
  same_start b b' v w p q e = same_Some b' b (sym q ∙ (e ∙ p))

  begins_from : (b : Start E F) → OutlastsOthers legal fits may →
      (v : View E F) (c1 : List (ℕ × O)) (k : ℕ) (m : Held O E F) (call : C) → v.start ≡ Some b → v.named ≡ true →
      length c1 ≡ 0 → may b.fixed (history_after b v.front) v.name call
      → SeesFrom (ticket_view k v, c1) m →
      Carries m.1 (λ x. legal (fixed x) (history x) × may (fixed x) (history x) v.name call)
  begins_from b stays v c1 k m call is named none can (b', log, between, x, e, joins, others, at, knows) =
      let same : b' ≡ b = same_start b b' v m.0 is knows.started (ap (λ (z : Held O E F). z.0.start) e) in
      let at' : IsAtStep history fixed b log x = subst (λ z. IsAtStep history fixed z log x) same at in
      let sound : IsLawful legal fits b log =
      subst (λ z. IsLawful legal fits z log) same
      (subst (IsLawful legal fits b') (ap (λ (z : Held O E F). z.0.front) e) knows.sound) in
      let lawful = sound.lawful log (prefix_self log) in
      let can' : may b.fixed (history_after b log) v.name call =
      subst (λ l. may b.fixed (history_after b l) v.name call) joins
      (may_stays b stays v.name call v.front between can (others named)
      (All_rest (λ (q : ℕ × E). (q.0 < b.names) × fits q.0 q.1) v.front between
      (subst (All (λ (q : ℕ × E). (q.0 < b.names) × fits q.0 q.1)) (sym joins) sound.pairs))
      (λ xs q. sound.lawful xs (subst (IsPrefix xs) joins q))) in (
        x,
        ap (λ (z : Held O E F). z.1) e ∙ ap (λ c. (0, x) ∷ c) (none_there c1 none),
        (
          subst (λ (z : F × List E). legal z.0 z.1) (λ i. (sym at'.0 i, sym at'.1 i)) lawful,
          subst (λ (z : F × List E). may z.0 z.1 v.name call) (λ i. (sym at'.0 i, sym at'.1 i)) can',
        ),
      )

  acted_from : (b : Start E F) (v : View E F) (c1 : List (ℕ × O)) (k : ℕ) (m2 m3 : Held O E F) (call : C) (reply : Q) →
      v.start ≡ Some b → v.named ≡ true → length c1 ≡ 0
      → SeesFrom (ticket_view k v, c1) m2 → m3.0 ≡ m2.0
      → Acts v.name call reply m2 m3
      → (a : Start E F) × (m3.0.start ≡ Some a) × Carries m3.1 (λ y. HasActed history fixed legal fits a m3.0 y)
  acted_from b v c1 k m2 m3 call reply is named none (
    b',
    log,
    between,
    x,
    e,
    joins,
    others,
    at,
    knows,
  ) kept (x', ex, (y, ey, did)) =
      let same : b' ≡ b = same_start b b' v m2.0 is knows.started (ap (λ (z : Held O E F). z.0.start) e) in
      let at' : IsAtStep history fixed b log x = subst (λ z. IsAtStep history fixed z log x) same at in
      let first : List (ℕ × O) → O = (λ c. (get_or c 0 (0, x)).1) in
      let xx : x' ≡ x = ap first (sym ex ∙ ap (λ (z : Held O E F). z.1) e) in
      let w : View E F = served_view true log (ticket_view k v) in
      let here : m3.0 ≡ w = kept ∙ ap (λ (z : Held O E F). z.0) e in
      let gr = grown fits v.name (history x') (history y) did.grows in
      let fixed' : fixed y ≡ b.fixed = did.same_fixed ∙ (ap fixed xx ∙ at'.0) in (
        b,
        ap (λ (z : View E F). z.start) here
            ∙ is,
        (
          y,
          ey,
          subst (λ z. HasActed history fixed legal fits b z y) (sym here) (
            fixed',
            subst (λ z. legal z (history y)) fixed' did.lawful,
            (gr.0, gr.1, gr.2 ∙ ap (λ h. h ++ gr.0) (ap history xx ∙ at'.1)),
          ),
        ),
      )

  ends_from : (t : TableId) (b : Start E F) (v : View E F) (c1 : List (ℕ × O)) (k : ℕ) (m2 m3 m4 : Held O E F)
      (call : C) (reply : Q) → v.start ≡ Some b → v.named ≡ true → length c1 ≡ 0
      → SeesFrom (ticket_view k v, c1) m2 → m3.0 ≡ m2.0
      → Acts v.name call reply m2 m3
      → Carries m3.1 (λ y. m4 ≡ (view_after (added_since history m3.0.start m3.0.front y) m3.0, []))
      → HasTurn fits answers (pass_view t v) call reply (pass_view t m4.0)
  ends_from t b v c1 k m2 m3 m4 call reply is named none (b', log, between, x, e, joins, others, at, knows) kept
      (x', ex, (y, ey, did)) (y', ey', e4) =
      let same : b' ≡ b = same_start b b' v m2.0 is knows.started (ap (λ (z : Held O E F). z.0.start) e) in
      let at' : IsAtStep history fixed b log x = subst (λ z. IsAtStep history fixed z log x) same at in
      let first : List (ℕ × O) → O = (λ c. (get_or c 0 (0, x)).1) in
      let xx : x' ≡ x = ap first (sym ex ∙ ap (λ (z : Held O E F). z.1) e) in
      let yy : y' ≡ y = ap first (sym ey' ∙ ey) in
      let w : View E F = served_view true log (ticket_view k v) in
      let here : m3.0 ≡ w = kept ∙ ap (λ (z : Held O E F). z.0) e in
      let gr = grown fits v.name (history x') (history y) did.grows in let es : List E = gr.0 in
      let before : history x' ≡ history_after b log = ap history xx ∙ at'.1 in
      let after : history y ≡ history_after b log ++ es = gr.2 ∙ ap (λ h. h ++ es) before in
      let gain : added_since history w.start w.front y ≡ es = added_is history fixed legal fits b w y es is after in
      let last : m4.0 ≡ view_after es w = ap (λ (z : Held O E F). z.0) e4
      ∙ ((λ i. view_after (added_since history (here i).start (here i).front (yy i)) (here i))
      ∙ ap (λ l. view_after l w) gain) in
      let silent : calls_of v.name log ≡ calls_of v.name v.front =
      ap (calls_of v.name) (sym joins)
      ∙ (calls_of-append v.name v.front between
      ∙ (ap (λ l. calls_of v.name v.front ++ l) (calls_of-others v.name between (others named))
      ∙ append-nil (calls_of v.name v.front))) in
      subst (λ (z : View E F). HasTurn fits answers (pass_view t v) call reply (pass_view t z)) (sym last) record {
        start = b;
        started = is;
        between = between;
        others = others named;
        gain = es;
        gained = gr.1;
        front = ap (λ l. l ++ turns_of v.name es) (sym joins);
        rest = refl;
        own = calls_of-append v.name log (turns_of v.name es) ∙ (λ i. silent i ++ calls_of-own v.name es i);
        history = sym (history_after_turn history fixed legal fits b log v.name es)
            ∙ ap (λ l. history_after b l ++ es) (sym joins);
        answered =
            subst (λ (z : F × List E × List E). answers z.0 z.1 v.name call reply z.2)
            (λ i. (
              (ap fixed xx ∙ at'.0) i,
              (before ∙ ap (history_after b) (sym joins)) i,
              (after ∙ history_after_turn history fixed legal fits b log v.name es) i,
            )) did.answered;
      }

  module _ (b : Start E F) (v : View E F) (c1 : List (ℕ × O)) (k n : ℕ) (m1 m2 : Held O E F) (call : C)
      (is : v.start ≡ Some b) (named : v.named ≡ true) (called : v.name ≡ n) (none : length c1 ≡ 0)
      (drawn : m1 ≡ (ticket_view k v, c1)) (sees : SeesFrom m1 m2) where
    saw : SeesFrom (ticket_view k v, c1) m2
    saw = subst (λ m. SeesFrom m m2) drawn sees

    -- the call may be made once the turn has come
    pub turn_begins : OutlastsOthers legal fits may →
        IfSome v.start (λ start. may start.fixed (history_after start v.front) v.name call) →
        Carries m2.1 (λ x. legal (fixed x) (history x) × may (fixed x) (history x) n call)
    turn_begins outlasts can =
        subst (λ n. Carries m2.1 (λ x. legal (fixed x) (history x) × may (fixed x) (history x) n call)) called
        (begins_from b outlasts v c1 k m2 call is named none
        (subst (λ o. IfSome o (λ start. may start.fixed (history_after start v.front) v.name call)) is can) saw)

    module _ (reply : Q) (m3 : Held O E F) (kept : m3.0 ≡ m2.0) (acts : Acts n call reply m2 m3) where
      acted : Acts v.name call reply m2 m3
      acted = subst (λ n. Acts n call reply m2 m3) (sym called) acts

      -- the object has made the call
      pub turn_acts : (a : Start E F) × (m3.0.start ≡ Some a)
          × Carries m3.1 (λ y. HasActed history fixed legal fits a m3.0 y)
      turn_acts = acted_from b v c1 k m2 m3 call reply is named none saw kept acted

      -- the turn is over
      pub turn_ends : (t : TableId) (m4 : Held O E F) →
          Carries m3.1 (λ y. m4 ≡ (view_after (added_since history m3.0.start m3.0.front y) m3.0, [])) →
          HasTurn fits answers (pass_view t v) call reply (pass_view t m4.0)
      turn_ends t m4 after = ends_from t b v c1 k m2 m3 m4 call reply is named none saw kept acted after
