-- What the rule gives at any step.
use Rattle.std.proofs.Common.{◌≡◌, ◌≢◌, ◌⊎◌, ℕ, ◌<◌, false, List, length, get_or, set, Some, None, sym, ap, ◌∙◌, subst}
use Rattle.std.proofs.Common.{inl, inr, ⊎_elim, arith, true≢false}
use mathlib.Core.Option.{some, some-injective}
use lib.ListN.{get_elem?}
use lib.Seq.{set-get_or}
use Rattle.atomic_table.specs.Table.{State, keeps, stepped}
use Rattle.atomic_table.proofs.Lists.{set_else, set_again}
use Rattle.std.proofs.lemmas.Option.{none-some, same_Some}
use Rattle.turnstile.specs.Rule.{Fits, IsHome, IsAway, IsRuled}
use Rattle.turnstile.specs.Steps.{Knows}
use Rattle.turnstile.proofs.Views.{each_set}
use Rattle.turnstile.specs.declared.view.Start.{Start}
use Rattle.turnstile.specs.declared.view.View.{View}
use Rattle.turnstile.proofs.Logs.{prefix_then, All_prefix}

module _ {O E F : Type 0} (history : O → List E) (fixed : O → F) (legal : F → List E →
    Type 0) (fits : ℕ → E → Type 0) (b : Start E F) where
  abbrev V : Type 0
  V = View E F

  abbrev St : Type 0
  St = State O V

  abbrev Rule : St → Type 0
  Rule = IsRuled history fixed legal fits b

  -- a step that changes no word and no view
  pub same_state : (s : St) → Rule s → (i id : ℕ) (cs : List (ℕ × O)) (v : V) → get_elem? s.views id ≡ some v →
      Rule (stepped s i (get_or s.words i 0) id cs v keeps)
  same_state s r i id cs v at =
      subst (λ (z : List ℕ × List V). Rule record { words = z.0; homes = s.homes; views = z.1 })
      (λ k. (sym (set-get_or s.words i 0) k, sym (set_again s.views id v at) k)) r

  pub knows_of : (s : St) (r : Rule s) (m : List ℕ) (v : V) (c : Start E F) → length m ≡ b.names →
      Fits b r.log r.ticket r.serving m v → v.start ≡ Some c → Knows legal fits c v
  knows_of s r m v c wide f is = let mine : v.start ≡ Some b =
      ⊎_elim (λ (e : v.start ≡ None). absurd (none-some c (sym e ∙ is))) (λ (e : v.start ≡ Some b). e) f.started in
      subst (λ z. Knows legal fits z v) (same_Some b c (sym mine ∙ is)) record {
        started = mine;
        sound =
            record {
              pairs = All_prefix (λ p. (p.0 < b.names) × fits p.0 p.1) v.front r.log r.sound.pairs f.front;
              lawful = λ xs p. r.sound.lawful xs (prefix_then xs v.front r.log p f.front);
            };
        own = λ e. let k = f.named e in let l = k.1 in (omega arith, k.2);
        ended = λ k z l. (f.ended k z l).1;
      }

  -- the object stays in its place if neither view has it
  pub object_stays : (s : St) (r : Rule s) (id : ℕ) (v w : V) → get_elem? s.views id ≡ some v → v.turn ≡ false →
      w.turn ≡ false → IsHome history fixed b r.log s.homes (set s.views id w) ⊎ IsAway s.homes (set s.views id w)
  object_stays s r id v w at turn turn' =
      ⊎_elim (λ (h : IsHome history fixed b r.log s.homes s.views). inl
      (h.0, h.1, h.2, each_set (λ (x : V). x.turn ≡ false) s.views id w turn' (λ j d _ p. h.3 j d p)))
      (λ (a : IsAway s.homes s.views). let other : a.1.0 ≢ id =
      (λ e. true≢false (sym a.1.3
      ∙ (ap (λ (x : V). x.turn) (some-injective a.1.1 v (sym a.1.2 ∙ (ap (get_elem? s.views) e ∙ at))) ∙ turn))) in
      inr (a.0, (a.1.0, a.1.1, set_else s.views id a.1.0 w other ∙ a.1.2, a.1.3))) r.object
