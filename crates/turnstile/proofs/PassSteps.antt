-- The steps that cut, name and join passes keep the rule, and a new table meets it.
use Rattle.std.proofs.Common.{◌≡◌, ◌≢◌, ◌⊎◌, ℕ, zero, suc, ◌+◌, ◌-◌, ◌<◌, ◌≤◌, true, false, List, [], ◌∷◌, ◌++◌, map}
use Rattle.std.proofs.Common.{length, get_or, set, All, refl, sym, ap, ◌∙◌, subst, inl, inr, ⊎_elim, arith, append-nil}
use Rattle.std.proofs.Common.{true≢false, le_refl, replicate, length-set, get_or-set_same, get_or-set_other}
use mathlib.Core.Option.{some, none, some-injective, some-ne-none}
use mathlib.Core.List.{IsPrefix}
use mathlib.Core.Logic.{dite}
use native.Mathlib.Decide.{ℕ_discrete}
use lib.ListN.{get_elem?}
use lib.ListN.{length-replicate}
use Rattle.atomic_table.specs.Table.{State, Me, step, keeps, stepped, Allows, Splits, Joins, opening}
use Rattle.atomic_table.proofs.Lists.{at_set, set_else, at_snoc, at_longer}
use Rattle.std.proofs.lemmas.List.Elements.{All-nil, All-cons, All-append, All-map, All-head}
use Rattle.turnstile.specs.TurnHistory.{calls_of}
use Rattle.turnstile.specs.Start.{history_after}
use Rattle.turnstile.specs.View.{first_view, named_view, refused_view, cut_view, nameless_view, ended_with, joined_view}
use Rattle.turnstile.specs.View.{returned_view, spent_view, first_seen}
use Rattle.turnstile.specs.Rule.{Fits, IsHome, IsAway, IsRuled}
use Rattle.turnstile.specs.Steps.{Knows, TakesName, LearnsTruth}
use Rattle.turnstile.proofs.Views.{false≢true, set_at, set_swap, longer_begins, All_with_name, OneName, Over, back_set}
use Rattle.turnstile.proofs.Views.{one_name_back, over_back, each_set, one_ticket_set, one_name_set, Unlike, over_set}
use Rattle.turnstile.proofs.Views.{refit_same}
use Rattle.turnstile.proofs.Ruled.{same_state, knows_of, object_stays}
use Rattle.turnstile.specs.declared.view.Start.{Start}
use Rattle.turnstile.specs.declared.view.View.{View}
use Rattle.turnstile.proofs.Logs.{nil_of-append, calls_of-append, within}

All-first_of : (P : ℕ → Type 0) (ns : List ℕ) → All P ns → All P (first_seen ns)
All-first_of P [] all = All-nil P
All-first_of P (n ∷ ns) all = All-cons P n [] (All-head P n ns all) (All-nil P)

module _ {O E F : Type 0} (history : O → List E) (fixed : O → F) (legal : F → List E →
    Type 0) (fits : ℕ → E → Type 0) (b : Start E F) where
  abbrev V : Type 0
  V = View E F

  abbrev St : Type 0
  St = State O V

  abbrev Rule : St → Type 0
  Rule = IsRuled history fixed legal fits b

  only : (v : V) (j : ℕ) (w : V) → get_elem? (v ∷ []) j ≡ some w → (j ≡ 0) × (v ≡ w)
  only v zero w e = (refl, some-injective v w e)
  only v (suc j) w e = absurd (some-ne-none w (sym e))

  -- the table at the start
  pub opens : (x : O) (marks : List ℕ) → length marks ≡ b.names → get_or marks 0 0 ≢ 0 → 0 < b.names →
      fixed x ≡ b.fixed → history x ≡ b.opening → legal b.fixed b.opening →
      Rule (opening (0 ∷ 0 ∷ marks) (x ∷ []) (first_view b))
  opens x marks wide set0 some_names same_fixed same lawful = record {
    log = [];
    ticket = 0;
    serving = 0;
    marks = marks;
    words = refl;
    wide = wide;
    order = le_refl 0;
    each = λ j v p. subst (Fits b [] 0 0 marks) (only (first_view b) j v p).1 record {
      started = inr refl;
      front = ([], refl);
      waits = λ e. absurd (false≢true e);
      whole = λ e. absurd (false≢true e);
      turn = λ e. absurd (false≢true e);
      named = λ _. (set0, omega arith, refl, refl);
      unnamed = λ e. absurd (true≢false e);
      ended = λ k z l. absurd (omega arith);
      taken = λ k z l. absurd (omega arith);
      below = λ k z l. absurd (omega arith);
    };
    one_ticket = λ i j v w p q wv ww e. (only (first_view b) i v p).0 ∙ sym (only (first_view b) j w q).0;
    one_name = λ i j v w p q nv nw e. (only (first_view b) i v p).0 ∙ sym (only (first_view b) j w q).0;
    over =
        λ i j v w p q nv. subst (λ (z : V). All (λ y. y.0 ≢ v.name) z.ended)
        (only (first_view b) j w q).1 (λ k z l. absurd (omega arith));
    unmarked = λ n e. refl;
    sound = record {
      pairs = λ k z l. absurd (omega arith);
      lawful =
          λ xs p. subst (λ l. legal b.fixed (history_after b l)) (sym (nil_of-append xs p.0 p.1))
          (subst (legal b.fixed) (sym (append-nil b.opening)) lawful);
    };
    object =
        inl (
          x,
          refl,
          (same_fixed, same ∙ sym (append-nil b.opening)),
          λ j v p. subst (λ (z : V). z.turn ≡ false) (only (first_view b) j v p).1 refl,
        );
  }

  -- a nameless view comes beside another
  views_more : (s : St) (r : Rule s) (id : ℕ) (v : V) → get_elem? s.views id ≡ some v →
      Rule record { words = s.words; homes = s.homes; views = s.views ++ nameless_view v ∷ [] }
  views_more s r id v at = let f = r.each id v at in let w : V =
      nameless_view v in let new : (j : ℕ) (d : V) → get_elem? (s.views ++ w ∷ []) j ≡ some d →
      (get_elem? s.views j ≡ some d) ⊎ (w ≡ d) = (λ j d p. at_snoc s.views w d j p) in let Marked : ℕ → Type 0 =
      (λ n. get_or r.marks n 0 ≢ 0) in record {
        log = r.log;
        ticket = r.ticket;
        serving = r.serving;
        marks = r.marks;
        words = r.words;
        wide = r.wide;
        order = r.order;
        each = λ j d p. ⊎_elim (r.each j d) (λ (e : w ≡ d). subst (Fits b r.log r.ticket r.serving r.marks) e record {
          started = f.started;
          front = f.front;
          waits = λ e. absurd (false≢true e);
          whole = λ e. absurd (false≢true e);
          turn = λ e. absurd (false≢true e);
          named = λ e. absurd (false≢true e);
          unnamed = λ _. refl;
          ended = λ k z l. absurd (omega arith);
          taken =
              All-append Marked (map (λ x. x.0) (ended_with v)) v.taken
              (All-map Marked (λ x. x.0) (ended_with v)
              (All_with_name (λ x. Marked x.0) v (λ e. (f.named e).0) (λ k z l. (f.ended k z l).0))) f.taken;
          below = λ k z l. absurd (omega arith);
        }) (new j d p);
        one_ticket =
            λ i j c d p q cw dw e. ⊎_elim (λ (pi : get_elem? s.views i ≡ some c). ⊎_elim
            (λ (qj : get_elem? s.views j ≡ some d). r.one_ticket i j c d pi qj cw dw e)
            (λ (y : w ≡ d). absurd (false≢true (ap (λ (x : V). x.waits) y ∙ dw))) (new j d q))
            (λ (y : w ≡ c). absurd (false≢true (ap (λ (x : V). x.waits) y ∙ cw))) (new i c p);
        one_name =
            λ i j c d p q cw dw e. ⊎_elim (λ (pi : get_elem? s.views i ≡ some c). ⊎_elim
            (λ (qj : get_elem? s.views j ≡ some d). r.one_name i j c d pi qj cw dw e)
            (λ (y : w ≡ d). absurd (false≢true (ap (λ (x : V). x.named) y ∙ dw))) (new j d q))
            (λ (y : w ≡ c). absurd (false≢true (ap (λ (x : V). x.named) y ∙ cw))) (new i c p);
        over =
            λ i j c d p q cn. ⊎_elim (λ (pi : get_elem? s.views i ≡ some c). ⊎_elim
            (λ (qj : get_elem? s.views j ≡ some d). r.over i j c d pi qj cn)
            (λ (y : w ≡ d). subst (λ (x : V). All (λ e. e.0 ≢ c.name) x.ended) y (λ k z l. absurd (omega arith)))
            (new j d q))
            (λ (y : w ≡ c). absurd (false≢true (ap (λ (x : V). x.named) y ∙ cn))) (new i c p);
        unmarked = r.unmarked;
        sound = r.sound;
        object =
            ⊎_elim (λ (h : IsHome history fixed b r.log s.homes s.views). inl (
              h.0,
              h.1,
              h.2,
              λ j d p. ⊎_elim (h.3 j d)
                  (λ (y : w ≡ d). subst (λ (x : V). x.turn ≡ false) y refl) (new j d p),
            ))
            (λ (a : IsAway s.homes s.views). inr
            (a.0, (a.1.0, a.1.1, at_longer s.views (w ∷ []) a.1.0 a.1.1 a.1.2, a.1.3))) r.object;
      }

  -- a seat counts one more that was cut off
  counts_keep : (s : St) (r : Rule s) (id : ℕ) (v : V) → get_elem? s.views id ≡ some v → v.turn ≡ false →
      Rule record { words = s.words; homes = s.homes; views = set s.views id (cut_view v) }
  counts_keep s r id v at turn = let w : V = cut_view v in let f = r.each id v at in record {
    log = r.log;
    ticket = r.ticket;
    serving = r.serving;
    marks = r.marks;
    words = r.words;
    wide = r.wide;
    order = r.order;
    each = each_set (Fits b r.log r.ticket r.serving r.marks) s.views id w record {
      started = f.started;
      front = f.front;
      waits = f.waits;
      whole = f.whole;
      turn = f.turn;
      named = f.named;
      unnamed = f.unnamed;
      ended = f.ended;
      taken = f.taken;
      below = f.below;
    } (λ j d _ p. r.each j d p);
    one_ticket =
        one_ticket_set s.views id w r.one_ticket
        (λ j d other p c e same. other (r.one_ticket j id d v p at e c (sym same)));
    one_name = one_name_back s.views (set s.views id w) (back_set s.views id v w at (refl, refl, refl)) r.one_name;
    over = over_back s.views (set s.views id w) (back_set s.views id v w at (refl, refl, refl)) r.over;
    unmarked = r.unmarked;
    sound = r.sound;
    object = object_stays history fixed legal fits b s r id v w at turn turn;
  }

  pub splits_keep : (id : ℕ) (v : V) → v.turn ≡ false → Splits Rule id v (cut_view v) (nameless_view v)
  splits_keep id v turn s r at =
      views_more record { words = s.words; homes = s.homes; views = set s.views id (cut_view v) }
      (counts_keep s r id v at turn) id (cut_view v) (set_at s.views id v (cut_view v) at)

  -- after a look that changes nothing, what the view says is known to be true
  pub tells_keep : (slots id : ℕ) (me : Me O V) →
      Allows Rule slots id me 0 (λ n. n) (LearnsTruth legal fits (step slots 0 0 0 none) me)
  tells_keep slots id me s r _ at _ = let f =
      r.each id me.0 at in (
        me.0,
        keeps,
        tt,
        same_state history fixed legal fits b s r 0 id me.1 me.0 at,
        (refl, (λ c is. knows_of history fixed legal fits b s r r.marks me.0 c r.wide f is), f.below, refl),
      )

  -- the marks once that of n is set
  module _ (s : St) (r : Rule s) (n : ℕ) (small : n < b.names) where
    abbrev marks' : List ℕ
    marks' = set r.marks n 1

    fits_marks : n < length r.marks
    fits_marks = let w = r.wide in omega arith

    set_now : get_or marks' n 0 ≢ 0
    set_now e = let one : get_or marks' n 0 ≡ 1 = get_or-set_same r.marks n 1 0 fits_marks in omega arith

    still_set : (m : ℕ) → get_or r.marks m 0 ≢ 0 → get_or marks' m 0 ≢ 0
    still_set m some_mark e =
        dite (ℕ_discrete m n) (λ same. set_now (ap (λ k. get_or marks' k 0) (sym same) ∙ e))
        (λ other. some_mark (sym (get_or-set_other r.marks n m 1 0 other) ∙ e))

    still_none : (m : ℕ) → get_or marks' m 0 ≡ 0 → get_or r.marks m 0 ≡ 0
    still_none m e =
        dite (ℕ_discrete m n) (λ same. absurd (set_now (ap (λ k. get_or marks' k 0) (sym same) ∙ e)))
        (λ other. sym (get_or-set_other r.marks n m 1 0 other) ∙ e)

    up : n + 2 ≡ suc (suc n)
    up = omega arith

    word_is : get_or s.words (n + 2) 0 ≡ get_or r.marks n 0
    word_is =
        ap (λ (ws : List ℕ). get_or ws (n + 2) 0) r.words ∙ ap (λ k. get_or (r.ticket ∷ r.serving ∷ r.marks) k 0) up

    marks_wide : length r.marks ≤ length marks'
    marks_wide = let e = length-set r.marks n 1 in omega arith

    marks_same : (j : ℕ) (d : V) → get_elem? s.views j ≡ some d → Fits b r.log r.ticket r.serving marks' d
    marks_same j d p = let g = r.each j d p in
        refit_same b r.log r.ticket r.serving r.ticket r.serving r.marks marks' d g g.waits
        (λ e. (g.whole e).1) still_set marks_wide

    marked : (id : ℕ) (cs : List (ℕ × O)) (v w : V) → get_elem? s.views id ≡ some v → v.turn ≡ false → w.turn ≡ false →
        w.waits ≡ false → Fits b r.log r.ticket r.serving marks' w →
        OneName (set s.views id w) → Over (set s.views id w)
        → Rule (stepped s (n + 2) 1 id cs w keeps)
    marked id cs v w at turn turn' waits' mine one over = record {
      log = r.log;
      ticket = r.ticket;
      serving = r.serving;
      marks = marks';
      words = ap (λ (ws : List ℕ). set ws (n + 2) 1) r.words ∙ ap (λ k. set (r.ticket ∷ r.serving ∷ r.marks) k 1) up;
      wide = length-set r.marks n 1 ∙ r.wide;
      order = r.order;
      each = each_set (Fits b r.log r.ticket r.serving marks') s.views id w mine (λ j d _ p. marks_same j d p);
      one_ticket = one_ticket_set s.views id w r.one_ticket (λ j d _ _ e. absurd (false≢true (sym waits' ∙ e)));
      one_name = one;
      over = over;
      unmarked = λ m e. r.unmarked m (still_none m e);
      sound = r.sound;
      object = object_stays history fixed legal fits b s r id v w at turn turn';
    }

  -- the mark of a name is set by a seat that has none
  pub names_keep : (slots id n : ℕ) (me : Me O V) → me.0.named ≡ false → me.0.turn ≡ false → n < b.names →
      Allows Rule slots id me (n + 2) (λ _. 1) (TakesName legal fits (step slots (n + 2) 1 0 none) me)
  names_keep slots id n me unnamed turn small s r _ at _ = let v = me.0 in let f =
      r.each id v at in let back : (n + 2) - 2 ≡ n = omega arith in dite (ℕ_discrete (get_or s.words (n + 2) 0) 0)
      (λ hit. let free : get_or r.marks n 0 ≡ 0 = sym (word_is s r n small) ∙ hit in let w : V = named_view n v in
      let silent_log = r.unmarked n free in let own0 = f.unnamed unnamed in
      let silent_front : calls_of n v.front ≡ [] =
      nil_of-append (calls_of n v.front) (calls_of n f.front.0) (sym (calls_of-append n v.front f.front.0)
      ∙ (ap (calls_of n) f.front.1 ∙ silent_log)) in
      let mine : Fits b r.log r.ticket r.serving (marks' s r n small) w = record {
        started = f.started;
        front = f.front;
        waits = λ e. absurd (false≢true e);
        whole = λ e. absurd (false≢true e);
        turn = λ e. absurd (false≢true e);
        named = λ _. let l = marks_wide s r n small in let k =
            fits_marks s r n small in (
              set_now s r n small,
              omega arith,
              silent_front
                  ∙ sym own0,
              silent_log ∙ sym own0,
            );
        unnamed = λ e. absurd (true≢false e);
        ended = λ i z l. let p = f.ended i z l in (still_set s r n small _ p.0, p.1, p.2);
        taken = λ i z l. still_set s r n small _ (f.taken i z l);
        below = λ i z l. absurd (omega arith);
      } in (
        named_view ((n + 2) - 2) v,
        keeps,
        tt,
        subst (λ k. Rule (stepped s (n + 2) 1 id me.1 (named_view k v) keeps)) (sym back)
            (marked s r n small id me.1 v w at turn refl refl mine
            (one_name_set s.views id w r.one_name
            (λ j d _ p _ e same. ((r.each j d p).named e).0 (ap (λ k. get_or r.marks k 0) (sym same) ∙ free)))
            (over_set s.views id w r.over (λ _ i z l e. (f.ended i z l).0 (ap (λ k. get_or r.marks k 0) e ∙ free))
            (λ j d _ p. (
              (λ _ i z l e. ((r.each j d p).ended i z l).0 (ap (λ k. get_or r.marks k 0) e ∙ free)),
              λ e. r.over j id d v p at e,
            )))),
        (
          (λ _. (
            refl,
            unnamed,
            subst (λ k. All (λ m. m ≢ k) v.taken) (sym back)
                (λ i z l same. f.taken i z l (ap (λ m. get_or r.marks m 0) same ∙ free)),
            λ c is. subst (λ k. Knows legal fits c (named_view k v)) (sym back)
                (knows_of history fixed legal fits b s r (marks' s r n small) w c (length-set r.marks n 1
                ∙ r.wide) mine is),
          )),
          λ miss. absurd (miss hit),
        ),
      ))
      (λ miss. let w : V = refused_view n v in (
        refused_view ((n + 2) - 2) v,
        keeps,
        tt,
        subst (λ k. Rule (stepped s (n + 2) 1 id me.1 (refused_view k v) keeps)) (sym back)
            (marked s r n small id me.1 v w at turn refl refl
            record {
              started = f.started;
              front = f.front;
              waits = λ e. absurd (false≢true e);
              whole = λ e. absurd (false≢true e);
              turn = λ e. absurd (false≢true e);
              named = λ e. absurd (false≢true (sym unnamed ∙ e));
              unnamed = f.unnamed;
              ended = λ i z l. let p = f.ended i z l in (still_set s r n small _ p.0, p.1, p.2);
              taken =
                  All-cons (λ k. get_or (marks' s r n small) k 0 ≢ 0) n v.taken (set_now s r n small)
                  (λ i z l. still_set s r n small _ (f.taken i z l));
              below = λ i z l. absurd (omega arith);
            }
            (one_name_back s.views (set s.views id w) (back_set s.views id v w at (refl, refl, refl)) r.one_name)
            (over_back s.views (set s.views id w) (back_set s.views id v w at (refl, refl, refl)) r.over)),
        ((λ hit. absurd (miss hit)), λ _. refl),
      ))

  -- a view is spent
  spends : (s : St) (r : Rule s) (id : ℕ) (v : V) → get_elem? s.views id ≡ some v → v.turn ≡ false →
      Rule record { words = s.words; homes = s.homes; views = set s.views id spent_view }
  spends s r id v at turn = let w : V = spent_view in record {
    log = r.log;
    ticket = r.ticket;
    serving = r.serving;
    marks = r.marks;
    words = r.words;
    wide = r.wide;
    order = r.order;
    each = each_set (Fits b r.log r.ticket r.serving r.marks) s.views id w record {
      started = inl refl;
      front = (r.log, refl);
      waits = λ e. absurd (false≢true e);
      whole = λ e. absurd (false≢true e);
      turn = λ e. absurd (false≢true e);
      named = λ e. absurd (false≢true e);
      unnamed = λ _. refl;
      ended = λ k z l. absurd (omega arith);
      taken = λ k z l. absurd (omega arith);
      below = λ k z l. absurd (omega arith);
    } (λ j d _ p. r.each j d p);
    one_ticket = one_ticket_set s.views id w r.one_ticket (λ j d _ _ e. absurd (false≢true e));
    one_name = one_name_set s.views id w r.one_name (λ j d _ _ e. absurd (false≢true e));
    over =
        over_set s.views id w r.over (λ e. absurd (false≢true e))
        (λ j d _ _. ((λ e. absurd (false≢true e)), λ _ k z l. absurd (omega arith)));
    unmarked = r.unmarked;
    sound = r.sound;
    object = object_stays history fixed legal fits b s r id v w at turn refl;
  }

  -- a view takes another in
  pub joins_keep : (id : ℕ) (v : V) (other : ℕ) (w : V) → v.turn ≡ false → w.turn ≡ false →
      Joins Rule id v other w (joined_view v w) spent_view
  unfolding spends
  joins_keep id v other w turn turn' s r at apart there' =
      let u : V = joined_view v w in
      let there : get_elem? s.views other ≡ some w = sym (set_else s.views id other u apart) ∙ there' in
      let rs = spends s r other w there turn' in let vs : List V = set s.views other spent_view in
      let at' : get_elem? vs id ≡ some v = set_else s.views other id spent_view (λ e. apart (sym e)) ∙ at in
      let f = r.each id v at in let g = r.each other w there in
      let begins = longer_begins v.front w.front r.log f.front g.front in
      -- a named view other than these two
      let third : (j : ℕ) (d : V) → j ≢ id → get_elem? vs j ≡ some d → d.named ≡ true →
      (j ≢ other) × (get_elem? s.views j ≡ some d) = (λ j d _ p e. ⊎_elim
      (λ (t : (j ≡ other) × (spent_view ≡ d)). absurd (false≢true (ap (λ (x : V). x.named) t.1 ∙ e)))
      (λ (t : (j ≢ other) × (get_elem? s.views j ≡ some d)). t) (at_set s.views other j spent_view d p)) in
      let calm : Unlike u u = (λ e. All-append (λ x. x.0 ≢ v.name) v.ended (ended_with w) (r.over id id v v at at e)
      (All_with_name (λ x. x.0 ≢ v.name) w (λ k same. apart (r.one_name other id w v there at k e same))
      (r.over id other v w at there e))) in
      subst (λ l. Rule record { words = s.words; homes = s.homes; views = l })
      (set_swap s.views other id spent_view u (λ e. apart e)) record {
        log = r.log;
        ticket = r.ticket;
        serving = r.serving;
        marks = r.marks;
        words = r.words;
        wide = r.wide;
        order = r.order;
        each = each_set (Fits b r.log r.ticket r.serving r.marks) vs id u record {
          started = f.started;
          front = begins.2;
          waits = λ e. absurd (false≢true e);
          whole = λ e. absurd (false≢true e);
          turn = λ e. absurd (false≢true e);
          named = λ e. let k =
              f.named e in (k.0, k.1, within v.name v.own v.front u.front r.log begins.0 begins.2 k.2 k.3, k.3);
          unnamed = f.unnamed;
          ended =
              All-append (λ x. (get_or r.marks x.0 0 ≢ 0) × (calls_of x.0 u.front ≡ x.1)
              × (calls_of x.0 r.log ≡ x.1)) v.ended (ended_with w)
              (λ k z l. let p = f.ended k z l in
              (p.0, within _ _ v.front u.front r.log begins.0 begins.2 p.1 p.2, p.2))
              (All_with_name (λ x. (get_or r.marks x.0 0 ≢ 0) × (calls_of x.0 u.front ≡ x.1)
              × (calls_of x.0 r.log ≡ x.1)) w
              (λ e. let k = g.named e in
              (k.0, within w.name w.own w.front u.front r.log begins.1 begins.2 k.2 k.3, k.3))
              (λ k z l. let p = g.ended k z l in
              (p.0, within _ _ w.front u.front r.log begins.1 begins.2 p.1 p.2, p.2)));
          taken = All-append (λ n. get_or r.marks n 0 ≢ 0) v.taken w.taken f.taken g.taken;
          below =
              All-cons (λ xs. IsPrefix xs u.front) v.front (w.front ∷ []) begins.0
              (All-cons (λ xs. IsPrefix xs u.front) w.front [] begins.1 (All-nil (λ xs. IsPrefix xs u.front)));
        } (λ j d _ p. rs.each j d p);
        one_ticket = one_ticket_set vs id u rs.one_ticket (λ j d _ _ e. absurd (false≢true e));
        one_name =
            one_name_set vs id u rs.one_name (λ j d ne p e k same. ne (rs.one_name j id d v p at' k e (sym same)));
        over = over_set vs id u rs.over calm (λ j d ne p. (
          (λ e. rs.over id j v d at' p e),
          λ e. let t =
              third j d ne p e in All-append (λ x. x.0 ≢ d.name) v.ended (ended_with w) (r.over j id d v t.1 at e)
              (All_with_name (λ x. x.0 ≢ d.name) w (λ k same. t.0 (r.one_name j other d w t.1 there e k (sym same)))
              (r.over j other d w t.1 there e)),
        ));
        unmarked = r.unmarked;
        sound = r.sound;
        object =
            object_stays history fixed legal fits b record {
              words = s.words;
              homes = s.homes;
              views = vs;
            } rs id v u at' turn refl;
      }

  -- a seat with no name goes back
  pub backs_keep : (id : ℕ) (v : V) (other : ℕ) (w : V) → v.turn ≡ false → w.turn ≡ false →
      Joins Rule id v other w (returned_view v w) spent_view
  unfolding spends
  backs_keep id v other w turn turn' s r at apart there' =
      let u : V = returned_view v w in
      let there : get_elem? s.views other ≡ some w = sym (set_else s.views id other u apart) ∙ there' in
      let rs = spends s r other w there turn' in let vs : List V = set s.views other spent_view in
      let at' : get_elem? vs id ≡ some v = set_else s.views other id spent_view (λ e. apart (sym e)) ∙ at in
      let f = r.each id v at in let g = r.each other w there in
      subst (λ l. Rule record { words = s.words; homes = s.homes; views = l })
      (set_swap s.views other id spent_view u (λ e. apart e)) record {
        log = r.log;
        ticket = r.ticket;
        serving = r.serving;
        marks = r.marks;
        words = r.words;
        wide = r.wide;
        order = r.order;
        each = each_set (Fits b r.log r.ticket r.serving r.marks) vs id u record {
          started = f.started;
          front = f.front;
          waits = λ e. absurd (false≢true e);
          whole = λ e. absurd (false≢true e);
          turn = λ e. absurd (false≢true e);
          named = f.named;
          unnamed = f.unnamed;
          ended = f.ended;
          taken =
              All-append (λ n. get_or r.marks n 0 ≢ 0) (first_seen w.taken) v.taken
              (All-first_of (λ n. get_or r.marks n 0 ≢ 0) w.taken g.taken) f.taken;
          below = λ i z l. absurd (omega arith);
        } (λ j d _ p. rs.each j d p);
        one_ticket = one_ticket_set vs id u rs.one_ticket (λ j d _ _ e. absurd (false≢true e));
        one_name = one_name_back vs (set vs id u) (back_set vs id v u at' (refl, refl, refl)) rs.one_name;
        over = over_back vs (set vs id u) (back_set vs id v u at' (refl, refl, refl)) rs.over;
        unmarked = r.unmarked;
        sound = r.sound;
        object =
            object_stays history fixed legal fits b record {
              words = s.words;
              homes = s.homes;
              views = vs;
            } rs id v u at' turn refl;
      }

-- the words that a turnstile starts with
pub first_words : (n : ℕ) → 1 ≤ n → (marks : List ℕ) × (set (replicate (n + 2) 0) 2 1 ≡ 0 ∷ 0 ∷ marks)
    × (length marks ≡ n) × (get_or marks 0 0 ≢ 0)
first_words zero h = absurd (omega arith)
first_words (suc k) h = let e : suc k + 2 ≡ suc (suc (suc k)) = omega arith in
    (1 ∷ replicate k 0, ap (λ m. set (replicate m 0) 2 1) e, ap suc (length-replicate k 0), λ z. omega arith)
