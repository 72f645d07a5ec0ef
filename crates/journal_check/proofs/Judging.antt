-- The verdict on lines, over any machine in which each actor has one step.
use Rattle.std.proofs.Common.{◌≡◌, ◌≢◌, ℕ, zero, suc, ◌+◌, ◌<◌, ◌≤◌, Bool, true, false, List, [], ◌∷◌, ◌++◌, length}
use Rattle.std.proofs.Common.{take, Option, Some, None}
use Rattle.std.proofs.lemmas.List.{append_assoc, append-nil, take-take}
use Rattle.program_rules.specs.Verdicts.TextLines.{alike_lines as alike}
use Rattle.journal_check.proofs.Lines.{take-past, alike-front, alike-breaks}
use Rattle.std.proofs.Common.{◌⊎◌, inl, inr, refl, sym, ap, ◌∙◌, arith, subst, length-append}

module _ {W A E : Type 0} (actor : E → A) (step_entry : W → A → Option E) (after : W → A → W)
    (line : ℕ → E → List ℕ) where
  abbrev pub Leads : W → List E → W → Type 0
  Leads w [] end = w ≡ end
  Leads w (e ∷ es) end = (step_entry w (actor e) ≡ Some e) × Leads (after w (actor e)) es end

  abbrev pub lines_from : ℕ → List E → List (List ℕ)
  lines_from n [] = []
  lines_from n (e ∷ es) = line n e ∷ lines_from (n + 1) es

  abbrev pub IsAtRest : W → Type 0
  IsAtRest w = (a : A) → step_entry w a ≡ None

  -- entries that lead on, if a longer list has the same first lines
  record Goes (n : ℕ) (u v : W) (es ks : List E) (m : ℕ) (xs ys : List (List ℕ)) : Type 0 where
    more : List E
    is : ks ≡ es ++ more
    leads : Leads u more v
    rest : take m xs ≡ take m (lines_from n more ++ ys)

  module _ (Well : W → Type 0) (keeps : (w : W) (a : A) → Well w → Well (after w a))
      (one : (n : ℕ) (w : W) (e f : E) → Well w → step_entry w (actor e) ≡ Some e → step_entry w (actor f) ≡ Some f
      → line n e ≡ line n f → e ≡ f) where
    within : (es ks : List E) (n n' k m : ℕ) (w u v : W) (xs ys : List (List ℕ)) → n' ≡ n + length es →
        k ≡ length es + m → Well w → Leads w es u → Leads w ks v → IsAtRest v →
        take k (lines_from n es ++ xs) ≡ take k (lines_from n ks ++ ys) → Goes n' u v es ks m xs ys
    within [] ks n n' k m w u v xs ys en ek well p q rest h =
        let a : n ≡ n' = omega (arith, en) in
        let b : k ≡ m = omega (arith, ek) in
        record {
          more = ks;
          is = refl;
          leads = subst (λ x. Leads x ks v) p q;
          rest = subst (λ i. take m xs ≡ take m (lines_from i ks ++ ys)) a
              (subst (λ j. take j xs ≡ take j (lines_from n ks ++ ys)) b h);
        }
    within (e ∷ es) [] n n' k m w u v xs ys en ek well p q rest h =
        let none : step_entry w (actor e) ≡ None = subst (λ x. step_entry x (actor e) ≡ None) (sym q)
        (rest (actor e)) in
        let clash : Some e ≡ None = sym p.0 ∙ none in
        absurd (cc)
    within (e ∷ es) (f ∷ ks) n n' zero m w u v xs ys en ek well p q rest h = absurd (omega (arith, ek))
    within (e ∷ es) (f ∷ ks) n n' (suc k) m w u v xs ys en ek well p q rest h =
        let same : line n e ≡ line n f = cc in
        let tails : take k (lines_from (n + 1) es ++ xs) ≡ take k (lines_from (n + 1) ks ++ ys) = cc in
        let is : e ≡ f = one n w e f well p.0 q.0 same in
        let others : Leads (after w (actor e)) ks v = subst (λ x. Leads (after w (actor x)) ks v) (sym is) q.1 in
        let g = within es ks (n + 1) n' k m (after w (actor e)) u v xs ys (omega (arith, en)) (omega (arith, ek))
        (keeps w (actor e) well) p.1 others rest tails in
        record {
          more = g.more;
          is = ap (λ x. x ∷ ks) (sym is) ∙ ap (λ t. e ∷ t) g.is;
          leads = g.leads;
          rest = g.rest;
        }

    -- ---- what each definition of the verdict says

    leads-keep : (w : W) (es : List E) (u : W) → Well w → Leads w es u → Well u
    leads-keep w [] u well p = subst Well p well
    leads-keep w (e ∷ es) u well p = leads-keep (after w (actor e)) es u (keeps w (actor e) well) p.1

    leads-append : (w u v : W) (es more : List E) → Leads w es u → Leads u more v → Leads w (es ++ more) v
    leads-append w u v [] more p q = subst (λ x. Leads x more v) (sym p) q
    leads-append w u v (e ∷ es) more p q = (p.0, leads-append (after w (actor e)) u v es more p.1 q)

    length-lines : (n : ℕ) (es : List E) → length (lines_from n es) ≡ length es
    length-lines n [] = refl
    length-lines n (e ∷ es) = ap suc (length-lines (n + 1) es)

    lines-append : (n n' : ℕ) (es more : List E) → n' ≡ n + length es →
        lines_from n (es ++ more) ≡ lines_from n es ++ lines_from n' more
    lines-append n n' [] more e = let a : n ≡ n' = omega (arith, e) in ap (λ i. lines_from i more) a
    lines-append n n' (e ∷ es) more h = ap (λ t. line n e ∷ t) (lines-append (n + 1) n' es more (omega (arith, h)))

    module _ (closing : W → List E → List (List ℕ)) (start : W) (open_well : Well start)
        (extends : (w : W) → Well w → (more : List E) × (end : W) × Leads w more end × IsAtRest end) where
      -- the text of a legal journal, as lines
      abbrev pub whole : W → List E → List (List ℕ)
      whole w es = lines_from 0 es ++ closing w es

      -- the first lines are those of entries that lead on, and these are left
      pub record Follows (ls : List (List ℕ)) : Type 0 where
        pub entries : List E
        pub world : W
        pub rest : List (List ℕ)
        pub leads : Leads start entries world
        pub lines : ls ≡ lines_from 0 entries ++ rest

      -- a line is that of an actor's step
      abbrev pub IsNext : ℕ → W → List ℕ → Type 0
      IsNext n w text = (e : E) × (step_entry w (actor e) ≡ Some e) × (text ≡ line n e)

      -- there is no next line, or it is no actor's step
      abbrev pub IsWrong : ℕ → W → List (List ℕ) → Type 0
      IsWrong n w [] = Unit {0}
      IsWrong n w (text ∷ rest) = IsNext n w text → ⊥

      pub record StopsWithin (ls : List (List ℕ)) (at : ℕ) : Type 0 where
        pub right : Follows ls
        pub goes_on : (e : E) × (step_entry right.world (actor e) ≡ Some e)
        pub wrong : IsWrong (length right.entries) right.world right.rest
        pub place : at ≡ length right.entries + 1

      pub record StopsAtEnd (ls : List (List ℕ)) (at : ℕ) : Type 0 where
        pub right : Follows ls
        pub still : IsAtRest right.world
        pub other : right.rest ≡ closing right.world right.entries → ⊥
        pub place : at ≡ length right.entries + alike right.rest (closing right.world right.entries) + 1

      -- up to the line before it the lines are those of a legal journal, and with it they are not
      pub record Breaks (ls : List (List ℕ)) (at : ℕ) : Type 0 where
        pub before : ℕ
        pub place : at ≡ before + 1
        pub entries : List E
        pub world : W
        pub leads : Leads start entries world
        pub still : IsAtRest world
        pub front : take before ls ≡ take before (whole world entries)
        pub breaks : (es : List E) (w : W) → Leads start es w → IsAtRest w → take at ls ≡ take at (whole w es) → ⊥

      can-step : (u v : W) → u ≡ v → IsAtRest v → (e : E) → step_entry u (actor e) ≡ Some e → ⊥
      can-step u v same still e is =
          let none : step_entry u (actor e) ≡ None = subst (λ x. step_entry x (actor e) ≡ None) (sym same)
          (still (actor e)) in
          let clash : Some e ≡ None = sym is ∙ none in
          absurd (cc)

      wrong-next : (n : ℕ) (u v : W) (rest : List (List ℕ)) (more : List E) (cl : List (List ℕ)) →
          ((e : E) × (step_entry u (actor e) ≡ Some e)) → IsWrong n u rest → Leads u more v → IsAtRest v →
          take 1 rest ≡ take 1 (lines_from n more ++ cl) → ⊥
      wrong-next n u v rest [] cl goes wrong p still h = can-step u v p still goes.0 goes.1
      wrong-next n u v [] (f ∷ more) cl goes wrong p still h = absurd (cc)
      wrong-next n u v (l ∷ rest) (f ∷ more) cl goes wrong p still h =
          let same : l ≡ line n f = cc in wrong (f, p.0, same)

      pub within-breaks : (ls : List (List ℕ)) (at : ℕ) → StopsWithin ls at → Breaks ls at
      within-breaks ls at s =
          let es : List E = s.right.entries in
          let u : W = s.right.world in
          let n : ℕ = length es in
          let well : Well u = leads-keep start es u open_well s.right.leads in
          let x = extends u well in
          let count : length (lines_from 0 es) ≡ n = length-lines 0 es in
          record {
            before = n;
            place = s.place;
            entries = es ++ x.0;
            world = x.1;
            leads = leads-append start u x.1 es x.0 s.right.leads x.2;
            still = x.3;
            front = ap (take n) s.right.lines ∙ take-past (lines_from 0 es) s.right.rest 0 n (omega (arith, count))
                ∙ sym (take-past (lines_from 0 es) (lines_from n x.0 ++ closing x.1 (es ++ x.0)) 0 n
                (omega (arith, count)))
                ∙ ap (take n) (sym (append_assoc (lines_from 0 es) (lines_from n x.0) (closing x.1 (es ++ x.0)))
                ∙ ap (λ t. t ++ closing x.1 (es ++ x.0)) (sym (lines-append 0 n es x.0 (omega arith))));
            breaks = λ ks v q still h.
                let g = within es ks 0 n at 1 start u v s.right.rest (closing v ks) (omega arith)
                (omega (arith, s.place))
                open_well s.right.leads q still (sym (ap (take at) s.right.lines) ∙ h) in
                wrong-next n u v s.right.rest g.more (closing v ks) s.goes_on s.wrong g.leads still g.rest;
          }

      pub end-breaks : (ls : List (List ℕ)) (at : ℕ) → StopsAtEnd ls at → Breaks ls at
      end-breaks ls at s =
          let es : List E = s.right.entries in
          let u : W = s.right.world in
          let cl : List (List ℕ) = closing u es in
          let m : ℕ = alike s.right.rest cl in
          let count : length (lines_from 0 es) ≡ length es = length-lines 0 es in
          record {
            before = length es + m;
            place = s.place;
            entries = es;
            world = u;
            leads = s.right.leads;
            still = s.still;
            front = ap (take (length es + m)) s.right.lines
                ∙ take-past (lines_from 0 es) s.right.rest m (length es + m) (omega (arith, count))
                ∙ ap (λ t. lines_from 0 es ++ t) (alike-front s.right.rest cl)
                ∙ sym (take-past (lines_from 0 es) cl m (length es + m) (omega (arith, count)));
            breaks = λ ks v q still h.
                let g = within es ks 0 (length es) at (m + 1) start u v s.right.rest (closing v ks) (omega arith)
                (omega (arith, s.place)) open_well s.right.leads q still (sym (ap (take at) s.right.lines) ∙ h) in
                last es u cl s.right.rest s.still s.other ks v g.more g.is g.leads g.rest;
          }
        where
          last : (es : List E) (u : W) (cl rest : List (List ℕ)) → IsAtRest u → (rest ≡ closing u es → ⊥) →
              (ks : List E) (v : W) (more : List E) → ks ≡ es ++ more → Leads u more v →
              take (alike rest (closing u es) + 1) rest
              ≡ take (alike rest (closing u es) + 1) (lines_from (length es) more ++ closing v ks) → ⊥
          last es u cl rest still other ks v [] is p h =
              let same : ks ≡ es = is ∙ append-nil es in
              alike-breaks rest (closing u es) other
              (h ∙ ap (λ c. take (alike rest (closing u es) + 1) c)
              (ap (closing v) same ∙ ap (λ x. closing x es) (sym p)))
          last es u cl rest still other ks v (f ∷ more) is p h = can-step u u refl still f p.0

      -- ---- there is one verdict

      pub one-line : (ls : List (List ℕ)) (a b : ℕ) → Breaks ls a → Breaks ls b → (a < b) → ⊥
      one-line ls a b x y less =
          let e : take a (take y.before ls) ≡ take a (take y.before (whole y.world y.entries)) = ap (take a) y.front in
          x.breaks y.entries y.world y.leads y.still
          (sym (take-take a y.before ls (omega (arith, less, y.place))) ∙ e
          ∙ take-take a y.before (whole y.world y.entries) (omega (arith, less, y.place)))

      pub not-both : (ls : List (List ℕ)) (a : ℕ) (es : List E) (w : W) → Breaks ls a → Leads start es w → IsAtRest w →
          ls ≡ whole w es → ⊥
      not-both ls a es w x p still is = x.breaks es w p still (ap (take a) is)

      -- two legal journals with the same lines are the same
      pub one-whole : (es ks : List E) (u v : W) → Leads start es u → IsAtRest u → Leads start ks v → IsAtRest v →
          whole u es ≡ whole v ks → (ks ≡ es) × (u ≡ v)
      one-whole es ks u v p still q quiet h =
          let g = within es ks 0 (length es) (length es) 0 start u v (closing u es) (closing v ks) (omega arith)
          (omega arith) open_well p q quiet (ap (take (length es)) h) in
          same g.more g.is g.leads
        where
          same : (more : List E) → ks ≡ es ++ more → Leads u more v → (ks ≡ es) × (u ≡ v)
          same [] is p = (is ∙ append-nil es, p)
          same (f ∷ more) is p = absurd (can-step u u refl still f p.0)

  -- if an actor that can step is found whenever there is one, and each step leaves less to do, a world leads
  -- to one at rest
  module _ (Well : W → Type 0) (keeps : (w : W) (a : A) → Well w → Well (after w a)) (left : W → ℕ)
      (falls : (w : W) (e : E) → Well w → step_entry w (actor e) ≡ Some e → left (after w (actor e)) < left w)
      (decide : (w : W) → Well w → IsAtRest w ⊎ ((e : E) × (step_entry w (actor e) ≡ Some e))) where
    abbrev pub Rests : W → Type 0
    Rests w = (more : List E) × (end : W) × Leads w more end × IsAtRest end

    rests-by : (w : W) → Well w → ((e : E) → step_entry w (actor e) ≡ Some e → Rests (after w (actor e)))
        → IsAtRest w ⊎ ((e : E) × (step_entry w (actor e) ≡ Some e)) → Rests w
    rests-by w well next (inl still) = ([], w, refl, still)
    rests-by w well next (inr goes) =
        let r = next goes.0 goes.1 in (goes.0 ∷ r.0, r.1, (goes.1, r.2), r.3)

    rests : (most : ℕ) (w : W) → Well w → left w ≤ most → Rests w
    rests zero w well few =
        rests-by w well (λ e is. let f = falls w e well is in absurd (omega (arith, f, few))) (decide w well)
    rests (suc most) w well few =
        rests-by w well (λ e is. let f = falls w e well is in
        rests most (after w (actor e)) (keeps w (actor e) well) (omega (arith, f, few))) (decide w well)

    pub each-rests : (w : W) → Well w → Rests w
    each-rests w well = rests (left w) w well (omega arith)
