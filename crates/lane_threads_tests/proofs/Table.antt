-- The states of lane 0 in the worked table.
use Rattle.std.proofs.Common.{◌≡◌, ℕ, List, [], ◌∷◌, ◌++◌, Option, None, IsTrue}
use Rattle.std.proofs.Common.{refl, sym, ap, subst}
use Rattle.busdma_machine.specs.declared.tags.tag.TagLimits.{TagLimits}
use Rattle.busdma_machine.specs.Tags.Tag.{could_bounce}
use Rattle.lane_agreement.specs.View.{View, OwnMap, Return, SeenStage, Idle, Loaded, Returning}
use Rattle.lane_agreement.specs.View.{view_staged, unloaded, gone}
use Rattle.lane_agreement.specs.View.{view_given_back, view_restaged, queued_back}
use Rattle.lane_threads_tests.specs.Knowing.{HasMaps, is_known_in_zone}

-- a tag that could bounce where the frames end below 0x1010
pub bounces : (t : TagLimits) (n : ℕ) → n ≡ 0x1010 → IsTrue (could_bounce t 0x1010) → IsTrue (could_bounce t n)
bounces t n is here = subst (λ k. IsTrue (could_bounce t k)) (sym is) here

module _ (one two : Option OwnMap) (returns : List Return) (l : View) (h : HasMaps one two returns l) where
  -- the first map is in another stage
  pub first_in : (z : ℕ) (s : SeenStage) → HasMaps (is_known_in_zone z s) two returns (view_staged l 1 z s)
  first_in z s = record {
    maxmem = h.maxmem;
    one = refl;
    two = h.two;
    three = h.three;
    four = h.four;
    returns = h.returns;
  }

  -- the second is
  pub second_in : (z : ℕ) (s : SeenStage) → HasMaps one (is_known_in_zone z s) returns (view_staged l 2 z s)
  second_in z s = record {
    maxmem = h.maxmem;
    one = h.one;
    two = refl;
    three = h.three;
    four = h.four;
    returns = h.returns;
  }

  pub first_gone : HasMaps None two returns (gone l 1)
  first_gone = record {
    maxmem = h.maxmem;
    one = refl;
    two = h.two;
    three = h.three;
    four = h.four;
    returns = h.returns;
  }

-- a page of the first map that is to be given back
abbrev pub back : ℕ → Return
back page = record { map = 1; zone = 0; page = page }

-- both pages are to be given back, then the second, and then none
pub first_unloaded : (p q : ℕ) (two : Option OwnMap) (l : View)
    → HasMaps (is_known_in_zone 0 (Loaded (p ∷ q ∷ []))) two [] l
    → HasMaps (is_known_in_zone 0 Returning) two (back p ∷ back q ∷ []) (unloaded l 1 0 (p ∷ q ∷ []))
first_unloaded p q two l h = record {
  maxmem = h.maxmem;
  one = refl;
  two = h.two;
  three = h.three;
  four = h.four;
  returns = ap (λ rs. rs ++ queued_back 1 0 (p ∷ q ∷ [])) h.returns;
}

pub one_back : (p q : ℕ) (two : Option OwnMap) (l : View)
    → HasMaps (is_known_in_zone 0 Returning) two (back p ∷ back q ∷ []) l
    → HasMaps (is_known_in_zone 0 Returning) two (back q ∷ []) (view_given_back l (back p ∷ back q ∷ []))
one_back p q two l h = record {
  maxmem = h.maxmem;
  one = ap (λ o. view_restaged o Returning) h.one;
  two = h.two;
  three = h.three;
  four = h.four;
  returns = refl;
}

pub both_back : (q : ℕ) (two : Option OwnMap) (l : View) → HasMaps (is_known_in_zone 0 Returning) two (back q ∷ []) l
    → HasMaps (is_known_in_zone 0 Idle) two [] (view_given_back l (back q ∷ []))
both_back q two l h = record {
  maxmem = h.maxmem;
  one = ap (λ o. view_restaged o Idle) h.one;
  two = h.two;
  three = h.three;
  four = h.four;
  returns = refl;
}
