-- The steps of a turn keep the rule.
use Rattle.std.proofs.Common.{◌≡◌, ◌≢◌, ℕ, ◌+◌, ◌<◌, eqb, Bool, true, false, List, [], ◌∷◌, ◌++◌, length, drop, get_or}
use Rattle.std.proofs.Common.{set, Some, None, refl, sym, ap, ◌∙◌, subst, inl, inr, ⊎_elim, arith, append_assoc}
use Rattle.std.proofs.Common.{append-nil, true≢false, le_refl}
use mathlib.Core.Option as maybe
use mathlib.Core.Option.{some, none, some-injective}
use mathlib.Core.List.{IsPrefix}
use mathlib.Core.Logic.{dite}
use native.Mathlib.Decide.{ℕ_discrete}
use lib.ListN.{get_elem?}
use lib.Seq.{set-get_or, drop_at}
use prog.Atomic.{either}
use Rattle.atomic_table.specs.Table.{State, Me, Act, Valid, carried_after, step, keeps, takes, gives, stepped, Allows}
use Rattle.atomic_table.specs.Table.{Final, Seen}
use Rattle.atomic_table.proofs.Lists.{set_else, exchanged}
use Rattle.std.proofs.lemmas.Option.{none-some, same_Some}
use Rattle.std.proofs.lemmas.Bool.{cases_Bool}
use Rattle.std.proofs.lemmas.List.Elements.{All-push}
use Rattle.turnstile.specs.TurnHistory.{entries, calls_of, turns_of}
use Rattle.turnstile.specs.TurnObject.{IsGain}
use Rattle.turnstile.specs.Start.{history_after, IsLawful}
use Rattle.turnstile.specs.View.{pass_view, ticket_view, served_view, view_after}
use Rattle.turnstile.specs.Rule.{Fits, IsAtStep, IsHome, IsAway, IsRuled}
use Rattle.turnstile.specs.Steps.{Knows, DrawsTicket, added_since, EndsTurn, Sees, SeesTurn, SeesLastTurn, Carries}
use Rattle.turnstile.specs.Steps.{HasActed}
use Rattle.turnstile.proofs.Views.{false≢true, set_at, back_set, one_name_back, over_back, each_set, one_ticket_set}
use Rattle.turnstile.proofs.Views.{refit, refit_same}
use Rattle.turnstile.proofs.Ruled.{same_state, object_stays}
use Rattle.turnstile.specs.Pass.{Closes}
use Rattle.atomic_table.specs.Seated.{TableId}
use Rattle.turnstile.specs.declared.view.Start.{Start}
use Rattle.turnstile.specs.declared.view.View.{View}
use Rattle.turnstile.proofs.Logs.{prefix_self, prefix_snoc, calls_of-append, calls_of-own, calls_of-other, silent}
use Rattle.turnstile.proofs.Logs.{between, entries-append, entries-own}

module _ {O E F : Type 0} (history : O → List E) (fixed : O → F) (legal : F → List E →
    Type 0) (fits : ℕ → E → Type 0) (b : Start E F) where
  abbrev V : Type 0
  V = View E F

  abbrev St : Type 0
  St = State O V

  abbrev Rule : St → Type 0
  Rule = IsRuled history fixed legal fits b

  -- if a view has the ticket that is served and is not on turn, the object is home
  home_of : (s : St) (r : Rule s) (id : ℕ) (v : V) → get_elem? s.views id ≡ some v → v.waits ≡ true → v.turn ≡ false →
      v.ticket ≡ r.serving → IsHome history fixed b r.log s.homes s.views
  home_of s r id v at waits turn mine = ⊎_elim (λ (h : IsHome history fixed b r.log s.homes s.views). h)
      (λ (a : IsAway s.homes s.views). let j = a.1.0 in let w = a.1.1 in
      let f = r.each j w a.1.2 in let k = f.whole (f.turn a.1.3) in
      let is : j ≡ id = r.one_ticket j id w v a.1.2 at k.0 waits (k.1 ∙ sym mine) in
      let same : w ≡ v = some-injective w v (sym a.1.2 ∙ (ap (get_elem? s.views) is ∙ at)) in
      absurd (true≢false (sym a.1.3 ∙ (ap (λ (x : V). x.turn) same ∙ turn)))) r.object

  at_ticket : (s : St) (r : Rule s) → get_or s.words 0 0 ≡ r.ticket
  at_ticket s r = ap (λ (ws : List ℕ). get_or ws 0 0) r.words

  at_serving : (s : St) (r : Rule s) → get_or s.words 1 0 ≡ r.serving
  at_serving s r = ap (λ (ws : List ℕ). get_or ws 1 0) r.words

  -- a ticket is drawn
  pub draws_keep : (slots id old : ℕ) (me : Me O V) → me.0.turn ≡ false →
      Allows Rule slots id me 0 (λ n. either (eqb n old) (old + 1) n)
      (DrawsTicket (step slots 0 old (old + 1) none) me)
  draws_keep slots id old me turn s r _ at _ = exchanged (get_or s.words 0 0) old (old + 1)
      (λ n. (w : V) × (a : Act O) × Valid s.homes me.1 a × Rule (stepped s 0 n id me.1 w a)
      × DrawsTicket (step slots 0 old (old + 1) none) me (get_or s.words 0 0) (w, carried_after me.1 a))
      (λ hit. let w : V = ticket_view old me.0 in let is : r.ticket ≡ old = sym (at_ticket s r) ∙ hit in
      let f = r.each id me.0 at in let ord = r.order in (
        w,
        keeps,
        tt,
        record {
          log = r.log;
          ticket = old + 1;
          serving = r.serving;
          marks = r.marks;
          words = ap (λ (ws : List ℕ). set ws 0 (old + 1)) r.words;
          wide = r.wide;
          order = omega arith;
          each = each_set (Fits b r.log (old + 1) r.serving r.marks) s.views id w record {
            started = f.started;
            front = f.front;
            waits = λ _. (omega arith, omega arith);
            whole = λ e. absurd (false≢true e);
            turn = λ e. absurd (false≢true e);
            named = f.named;
            unnamed = f.unnamed;
            ended = f.ended;
            taken = f.taken;
            below = λ k z l. absurd (omega arith);
          } (λ j d _ p. let g = r.each j d p in
              refit_same b r.log r.ticket r.serving (old + 1) r.serving r.marks r.marks d g (λ e. let k = g.waits e in
              let l = k.1 in (k.0, omega arith)) (λ e. (g.whole e).1) (λ _ z. z) (le_refl (length r.marks)));
          one_ticket =
              one_ticket_set s.views id w r.one_ticket
              (λ j d _ p _ e same. let l = ((r.each j d p).waits e).1 in omega arith);
          one_name =
              one_name_back s.views (set s.views id w) (back_set s.views id me.0 w at (refl, refl, refl)) r.one_name;
          over = over_back s.views (set s.views id w) (back_set s.views id me.0 w at (refl, refl, refl)) r.over;
          unmarked = r.unmarked;
          sound = r.sound;
          object =
              ⊎_elim (λ (h : IsHome history fixed b r.log s.homes s.views). inl
              (h.0, h.1, h.2, each_set (λ (x : V). x.turn ≡ false) s.views id w refl (λ j d _ p. h.3 j d p)))
              (λ (a : IsAway s.homes s.views). let other : a.1.0 ≢ id =
              (λ e. true≢false (sym a.1.3
              ∙ (ap (λ (x : V). x.turn) (some-injective a.1.1 me.0 (sym a.1.2 ∙ (ap (get_elem? s.views) e ∙ at)))
              ∙ turn))) in
              inr (a.0, (a.1.0, a.1.1, set_else s.views id a.1.0 w other ∙ a.1.2, a.1.3))) r.object;
        },
        ((λ _. refl), λ miss. absurd (miss hit)),
      ))
      (λ miss. (
        me.0,
        keeps,
        tt,
        same_state history fixed legal fits b s r 0 id me.1 me.0 at,
        ((λ hit. absurd (miss hit)), λ _. refl),
      ))

  -- the view whose ticket is served fits, and what it says is true
  served_fits : (s : St) (r : Rule s) (turn : Bool) (v : V) → Fits b r.log r.ticket r.serving r.marks v →
      v.waits ≡ true → v.ticket ≡ r.serving → Fits b r.log r.ticket r.serving r.marks (served_view turn r.log v)
  served_fits s r turn v f waits mine = record {
    started = f.started;
    front = prefix_self r.log;
    waits = λ _. f.waits waits;
    whole = λ _. (refl, mine, refl);
    turn = λ _. refl;
    named = λ e. let k = f.named e in (k.0, k.1, k.3, k.3);
    unnamed = f.unnamed;
    ended = λ k z l. let p = f.ended k z l in (p.0, p.2, p.2);
    taken = f.taken;
    below = λ k z l. absurd (omega arith);
  }

  served_knows : (s : St) (r : Rule s) (turn : Bool) (v : V) (c : Start E F) → v.start ≡ Some c →
      Fits b r.log r.ticket r.serving r.marks v → Knows legal fits b (served_view turn r.log v)
  served_knows s r turn v c is f = record {
    started =
        ⊎_elim (λ (e : v.start ≡ None). absurd (none-some c (sym e ∙ is))) (λ (e : v.start ≡ Some b). e) f.started;
    sound = r.sound;
    own = λ e. let k = f.named e in let w = r.wide in let l = k.1 in (omega arith, k.3);
    ended = λ k z l. (f.ended k z l).2;
  }

  -- the object comes out to the seat whose ticket is served
  sees_keep : (s : St) (r : Rule s) (id : ℕ) (me : Me O V) (c : Start E F) → get_elem? s.views id ≡ some me.0 →
      me.0.start ≡ Some c → me.0.waits ≡ true → me.0.turn ≡ false → me.0.ticket ≡ r.serving
      → (w : V) × (a : Act O) × Valid s.homes me.1 a × Rule (stepped s 1 (get_or s.words 1 0) id me.1 w a)
      × Sees history fixed legal fits (λ x. (0, x) ∷ me.1) me (w, carried_after me.1 a)
  sees_keep s r id me c at is waits turn mine = let h = home_of s r id me.0 at waits turn mine in let x =
      h.0 in let w : V = served_view true r.log me.0 in let f = r.each id me.0 at in (
        w,
        takes 0 x,
        ap (λ (hs : List (maybe.Option O)). get_elem? hs 0) h.1,
        subst (λ (ws : List ℕ). Rule record { words = ws; homes = set s.homes 0 none; views = set s.views id w })
            (sym (set-get_or s.words 1 0)) record {
              log = r.log;
              ticket = r.ticket;
              serving = r.serving;
              marks = r.marks;
              words = r.words;
              wide = r.wide;
              order = r.order;
              each =
                  each_set (Fits b r.log r.ticket r.serving r.marks) s.views id w
                  (served_fits s r true me.0 f waits mine) (λ j d _ p. r.each j d p);
              one_ticket =
                  one_ticket_set s.views id w r.one_ticket
                  (λ j d other p _ e same. other (r.one_ticket j id d me.0 p at e waits (sym same)));
              one_name =
                  one_name_back s.views (set s.views id w) (back_set s.views id me.0 w at (refl, refl, refl))
                  r.one_name;
              over = over_back s.views (set s.views id w) (back_set s.views id me.0 w at (refl, refl, refl)) r.over;
              unmarked = r.unmarked;
              sound = r.sound;
              object =
                  inr (
                    ap (λ (hs : List (maybe.Option O)). set hs 0 none) h.1,
                    (id, w, set_at s.views id me.0 w at, refl),
                  );
            },
        (
          b,
          r.log,
          f.front.0,
          x,
          refl,
          f.front.1,
          (λ e. let k = f.named e in
              silent me.0.name f.front.0 (between me.0.name me.0.own me.0.front r.log f.front k.2 k.3)),
          h.2,
          served_knows s r true me.0 c is f,
        ),
      )

  pub looks_keep : (slots id : ℕ) (me : Me O V) (c : Start E F) →
      me.0.start ≡ Some c → me.0.waits ≡ true → me.0.turn ≡ false
      → Allows Rule slots id me 1 (λ n. n) (SeesTurn history fixed legal fits (step slots 1 0 0 none) me)
  looks_keep slots id me c is waits turn s r _ at _ = dite (ℕ_discrete (get_or s.words 1 0) me.0.ticket)
      (λ hit. let t = sees_keep s r id me c at is waits turn (sym hit ∙ at_serving s r) in
      (t.0, t.1, t.2, t.3, ((λ _. t.4), λ miss. absurd (miss hit))))
      (λ miss. (
        me.0,
        keeps,
        tt,
        same_state history fixed legal fits b s r 1 id me.1 me.0 at,
        ((λ hit. absurd (miss hit)), λ _. refl),
      ))

  sound_after : (log : List (ℕ × E)) (n : ℕ) (es : List E) → IsLawful legal fits b log → n < b.names →
      IsGain fits n es → legal b.fixed (history_after b (log ++ turns_of n es)) →
      IsLawful legal fits b (log ++ turns_of n es)
  sound_after log n es f small adds lawful = ⊎_elim
      (λ (none : es ≡ []). subst (λ l. IsLawful legal fits b (log ++ turns_of n l)) (sym none)
      (subst (IsLawful legal fits b) (sym (append-nil log)) f))
      (λ (one : (e : E) × fits n e × (es ≡ e ∷ [])). let lawful' : legal b.fixed
      (history_after b (log ++ (n, one.0) ∷ [])) =
      subst (λ l. legal b.fixed (history_after b (log ++ turns_of n l))) one.2 lawful in
      subst (λ l. IsLawful legal fits b (log ++ turns_of n l)) (sym one.2) record {
        pairs = All-push (λ p. (p.0 < b.names) × fits p.0 p.1) log (n, one.0) f.pairs (small, one.1);
        lawful =
            λ xs p. ⊎_elim (λ (q : IsPrefix xs log). f.lawful xs q)
            (λ (e : xs ≡ log ++ (n, one.0) ∷ []). subst (λ l. legal b.fixed (history_after b l)) (sym e) lawful')
            (prefix_snoc xs log (n, one.0) p);
      })
      adds

  own_after : (n : ℕ) (log : List (ℕ × E)) (own es : List E) → calls_of n log ≡ own →
      calls_of n (log ++ turns_of n es) ≡ own ++ es
  own_after n log own es e = calls_of-append n log (turns_of n es) ∙ ((λ i. e i ++ calls_of-own n es i))

  others_after : (n m : ℕ) (log : List (ℕ × E)) (own es : List E) → m ≢ n → calls_of n log ≡ own →
      calls_of n (log ++ turns_of m es) ≡ own
  others_after n m log own es other e =
      calls_of-append n log (turns_of m es) ∙ ((λ i. e i ++ calls_of-other n m es other i) ∙ append-nil own)

  not_on : (d : V) → (d.turn ≡ true → ⊥) → d.turn ≡ false
  not_on d never = ⊎_elim (λ (e : d.turn ≡ true). absurd (never e)) (λ (e : d.turn ≡ false). e) (cases_Bool d.turn)

  homes_home : (s : St) (r : Rule s) (x : O) → set s.homes 0 (some x) ≡ some x ∷ []
  homes_home s r x =
      ⊎_elim (λ (h : IsHome history fixed b r.log s.homes s.views). ap
      (λ (hs : List (maybe.Option O)). set hs 0 (some x)) h.1)
      (λ (a : IsAway s.homes s.views). ap (λ (hs : List (maybe.Option O)). set hs 0 (some x)) a.0) r.object

  -- the object goes home with one entry more or none, and the next ticket is served
  pub ends_keep : (slots id : ℕ) (v : V) (x : O) (es : List E) (new : ℕ) → v.start ≡ Some b →
      v.turn ≡ true → v.named ≡ true → new ≡ v.ticket + 1
      → fixed x ≡ b.fixed → history x ≡ history_after b (v.front ++ turns_of v.name es) →
      added_since history v.start v.front x ≡ es → IsGain fits v.name es →
      legal b.fixed (history_after b (v.front ++ turns_of v.name es))
      → Allows Rule slots id (v, (0, x) ∷ []) 1 (λ _. new)
      (λ _. EndsTurn history legal fits (step slots 1 new 0 none) (v, (0, x) ∷ []) new)
  ends_keep slots id v x es new is turn named next same_fixed after gain adds lawful s r _ at _ =
      let f = r.each id v at in let k = f.whole (f.turn turn) in let w : V = view_after es v in let nm =
      f.named named in let lim = (f.waits k.0).1 in let wide = r.wide in let len = nm.1 in
      let whole : v.front ≡ r.log = k.2 in let mine : v.ticket ≡ r.serving = k.1 in
      let log' : List (ℕ × E) = v.front ++ turns_of v.name es in
      let sound' : IsLawful legal fits b log' =
      sound_after v.front v.name es (subst (IsLawful legal fits b) (sym whole) r.sound) (omega arith) adds lawful in
      let own' = own_after v.name v.front v.own es nm.2 in
      let still : (i : ℕ) (z : ℕ × List E) → i < length v.ended →
      calls_of (get_or v.ended i z).0 log' ≡ (get_or v.ended i z).1 =
      (λ i z l. let other = r.over id id v v at at named i z l in
      others_after _ v.name v.front _ es (λ e. other (sym e)) (f.ended i z l).1) in
      let knows : Knows legal fits b w =
      record { started = is; sound = sound'; own = λ _. (omega arith, own'); ended = still } in
      let apart : (j : ℕ) (d : V) → j ≢ id → get_elem? s.views j ≡ some d → d.waits ≡ true → d.ticket ≢ r.serving =
      (λ j d other p e same. other (r.one_ticket j id d v p at e k.0 (same ∙ sym mine))) in
      let unlike : (j : ℕ) (d : V) → j ≢ id → get_elem? s.views j ≡ some d → d.named ≡ true → v.name ≢ d.name =
      (λ j d other p e same. other (r.one_name j id d v p at e named (sym same))) in (
        view_after (added_since history v.start v.front x) v,
        gives,
        tt,
        subst (λ l. Rule record {
          words = set s.words 1 new;
          homes = set s.homes 0 (some x);
          views = set s.views id (view_after l v);
        }) (sym gain) record {
          log = log';
          ticket = r.ticket;
          serving = new;
          marks = r.marks;
          words = ap (λ (ws : List ℕ). set ws 1 new) r.words;
          wide = r.wide;
          order = omega arith;
          each = each_set (Fits b log' r.ticket new r.marks) s.views id w record {
            started = f.started;
            front = prefix_self log';
            waits = λ e. absurd (false≢true e);
            whole = λ e. absurd (false≢true e);
            turn = λ e. absurd (false≢true e);
            named = λ _. (nm.0, nm.1, own', own');
            unnamed = λ e. absurd (true≢false (sym named ∙ e));
            ended = λ i z l. let own = still i z l in ((f.ended i z l).0, own, own);
            taken = f.taken;
            below = λ k z l. absurd (omega arith);
          } (λ j d other p. let g = r.each j d p in let more : IsPrefix r.log log' =
              subst (λ l. IsPrefix l log') whole (turns_of v.name es, refl) in
              refit b r.log log' r.ticket r.serving r.ticket new r.marks r.marks d g more
              (λ e. let t = g.waits e in let t0 = t.0 in let ne = apart j d other p e in (grind arith, t.1))
              (λ e. let t = g.whole e in absurd (apart j d other p t.0 t.1))
              (λ _ z. z) (le_refl (length r.marks))
              (λ e. others_after d.name v.name v.front d.own es (unlike j d other p e)
              (ap (calls_of d.name) whole ∙ (g.named e).3))
              (λ i z l. let q = g.ended i z l in let ne = r.over id j v d at p named i z l in
              others_after _ v.name v.front _ es (λ e. ne (sym e)) (ap (calls_of _) whole ∙ q.2)));
          one_ticket = one_ticket_set s.views id w r.one_ticket (λ j d _ _ e. absurd (false≢true e));
          one_name =
              one_name_back s.views (set s.views id w) (back_set s.views id v w at (refl, refl, refl)) r.one_name;
          over = over_back s.views (set s.views id w) (back_set s.views id v w at (refl, refl, refl)) r.over;
          unmarked = λ n e. others_after n v.name v.front [] es (λ same. nm.0 (ap (λ m. get_or r.marks m 0) same ∙ e))
              (ap (calls_of n) whole ∙ r.unmarked n e);
          sound = sound';
          object =
              inl (
                x,
                homes_home s r x,
                (same_fixed, after),
                each_set (λ (z : V). z.turn ≡ false) s.views id w refl (λ j d other p. let g = r.each j d p in
                    not_on d (λ e. let t = g.whole (g.turn e) in apart j d other p t.0 t.1)),
              );
        },
        (
          refl,
          λ b' is'. subst (λ l. Knows legal fits b' (view_after l v)) (sym gain)
              (subst (λ z. Knows legal fits z w) (same_Some b b' (sym is ∙ is')) knows),
          refl,
        ),
      )

  pub history_after_turn : (log : List (ℕ × E)) (n : ℕ) (es : List E) →
      history_after b log ++ es ≡ history_after b (log ++ turns_of n es)
  history_after_turn log n es = append_assoc b.opening (entries log) es
      ∙ ap (λ l. b.opening ++ l) (sym (entries-append log (turns_of n es)
      ∙ ap (λ l. entries log ++ l) (entries-own n es)))

  pub added_is : (v : V) (x : O) (es : List E) → v.start ≡ Some b → history x ≡ history_after b v.front ++ es →
      added_since history v.start v.front x ≡ es
  added_is v x es is e = ap (λ z. added_since history z v.front x) is
      ∙ (ap (drop (length (history_after b v.front))) e
      ∙ drop_at (history_after b v.front) es (length (history_after b v.front)) refl)

  after_here : (slots id : ℕ) (v : V) (c : List (ℕ × O)) (new : ℕ) → v.start ≡ Some b → v.turn ≡ true →
      v.named ≡ true → new ≡ v.ticket + 1 → Carries c (λ y. HasActed history fixed legal fits b v y)
      → Allows Rule slots id (v, c) 1 (λ _. new)
      (λ _. EndsTurn history legal fits (step slots 1 new 0 none) (v, c) new)
  after_here slots id v c new is turn named next (x, e, (same, lawful, (es, adds, grown))) = let after =
      grown ∙ history_after_turn v.front v.name es in
      subst (λ c. Allows Rule slots id (v, c) 1 (λ _. new)
      (λ _. EndsTurn history legal fits (step slots 1 new 0 none) (v, c) new)) (sym e)
      (ends_keep slots id v x es new is turn named next same after (added_is v x es is grown) adds
      (subst (legal b.fixed) after lawful))

  -- the start that a view knows is that of the table
  start_is : (s : St) (r : Rule s) (id : ℕ) (v : V) (c : Start E F) →
      get_elem? s.views id ≡ some v → v.start ≡ Some c → c ≡ b
  start_is s r id v c at is =
      ⊎_elim (λ (e : v.start ≡ None). absurd (none-some c (sym e ∙ is)))
      (λ (e : v.start ≡ Some b). same_Some c b (sym is ∙ e)) (r.each id v at).started

  pub after_keeps : (slots id : ℕ) (v : V) (c : List (ℕ × O)) (new : ℕ) (a : Start E F) → v.start ≡ Some a →
      v.turn ≡ true → v.named ≡ true → new ≡ v.ticket + 1 → Carries c (λ y. HasActed history fixed legal fits a v y)
      → Allows Rule slots id (v, c) 1 (λ _. new)
      (λ _. EndsTurn history legal fits (step slots 1 new 0 none) (v, c) new)
  after_keeps slots id v c new a is turn named next carries s r long at small = let same = start_is s r id v a at is in
      after_here slots id v c new (subst (λ z. v.start ≡ Some z) same is) turn named next
      (subst (λ z. Carries c (λ y. HasActed history fixed legal fits z v y)) same carries) s r long at small

  -- the look of the last turn, in which the object stays home
  pub closes_keep : (slots id : ℕ) (me : Me O V) → me.0.waits ≡ true → me.0.turn ≡ false →
      Allows Rule slots id me 1 (λ n. n) (SeesLastTurn (step slots 1 0 0 none) me)
  closes_keep slots id me waits turn s r _ at _ = dite (ℕ_discrete (get_or s.words 1 0) me.0.ticket)
      (λ hit. let w : V = served_view false r.log me.0 in let f = r.each id me.0 at in
      let mine : me.0.ticket ≡ r.serving = sym hit ∙ at_serving s r in (
        w,
        keeps,
        tt,
        subst (λ (ws : List ℕ). Rule record { words = ws; homes = s.homes; views = set s.views id w })
            (sym (set-get_or s.words 1 0)) record {
              log = r.log;
              ticket = r.ticket;
              serving = r.serving;
              marks = r.marks;
              words = r.words;
              wide = r.wide;
              order = r.order;
              each =
                  each_set (Fits b r.log r.ticket r.serving r.marks) s.views id w
                  (served_fits s r false me.0 f waits mine) (λ j d _ p. r.each j d p);
              one_ticket =
                  one_ticket_set s.views id w r.one_ticket
                  (λ j d other p _ e same. other (r.one_ticket j id d me.0 p at e waits (sym same)));
              one_name =
                  one_name_back s.views (set s.views id w) (back_set s.views id me.0 w at (refl, refl, refl))
                  r.one_name;
              over = over_back s.views (set s.views id w) (back_set s.views id me.0 w at (refl, refl, refl)) r.over;
              unmarked = r.unmarked;
              sound = r.sound;
              object = object_stays history fixed legal fits b s r id me.0 w at turn refl;
            },
        ((λ _. (r.log, refl, f.front)), λ miss. absurd (miss hit)),
      ))
      (λ miss. (
        me.0,
        keeps,
        tt,
        same_state history fixed legal fits b s r 1 id me.1 me.0 at,
        ((λ hit. absurd (miss hit)), λ _. refl),
      ))

  -- the object that a closed turnstile gives
  pub closed_ends : (turnstile : TableId) (words : List ℕ) (items : List O) (id k : ℕ) (v u : V) (log : List (ℕ × E))
      (x : O) (a : Start E F) → Knows legal fits a v → Final (Seen Rule id u) words items →
      u ≡ served_view false log (ticket_view k v) → get_elem? items 0 ≡ some x
      → IsPrefix v.front log → v.named ≡ true → Closes history fixed legal fits (pass_view turnstile v) x
  closed_ends turnstile words items id k v u log x a knows (s, (r, seen), _, _, there) last is more named = let w : V =
      served_view false log (ticket_view k v) in let at : get_elem? s.views id ≡ some w =
      seen ∙ ap (λ (z : V). some z) last in let f = r.each id w at in let t = f.whole refl in
      let h = home_of s r id w at refl refl t.1 in let same : h.0 ≡ x =
      some-injective h.0 x (sym (there 0 h.0 (ap (λ (hs : List (maybe.Option O)). get_elem? hs 0) h.1)) ∙ is) in
      let at_end = subst (IsAtStep history fixed b r.log) same h.2 in record {
        start = b;
        started = subst (λ z. v.start ≡ Some z) (start_is s r id w a at knows.started) knows.started;
        turns = r.log;
        begins = subst (IsPrefix v.front) t.2 more;
        sound = r.sound;
        fixed_part = at_end.0;
        whole = at_end.1;
        own = (f.named named).3 ∙ sym (knows.own named).1;
        ended = λ i z l. (f.ended i z l).2;
      }
