-- The operation that makes a name, by its place in the index.
use Rattle.std.proofs.Common.{◌≡◌, ℕ, ◌+◌, List, [], ◌∷◌, ◌++◌, length, Bool, true, false, Option, Some, None}
use Rattle.std.proofs.Common.{refl, sym, ap, ◌∙◌, arith, if◌then◌else◌, ◌&&◌, is_some, slice_get, String}
use Rattle.std.specs.BTreeMap.{BTreeMap, get_by_text}
use Rattle.std.specs.List.{list_any}
use Rattle.std.specs.Option.{option_map_or}
use Rattle.std.specs.Str.{bytes_eq}
use Rattle.std.proofs.lemmas.Bool.{false_from_ne_true}
use Rattle.std.proofs.lemmas.Slice.Eq.{bytes_eq-Decides}
use Rattle.busdma_base.specs.declared.scenarios.operations.NameUse.{NameUse}
use Rattle.busdma_base.specs.declared.scenarios.script.Op.{Op}
use Rattle.busdma_base.specs.Scenarios.Names.{MakesNewName, accepts, makes, makes_for, makes_used}
use Rattle.busdma_base.specs.Scenarios.Operations.{Made, about}
use Rattle.script_fields.specs.NamedOps.{IsIndex, IsMadeAt}
use Rattle.scenario_format.specs.Parts.Names.{first_operation_place}
use Rattle.script_fields.proofs.FirstPlaces.{passes, none_passes, one_passes, any_passes}
use Rattle.script_fields.proofs.FirstPlaces.{last_passes, still_passes, end_passes, one_of_them}

from_zero : (k : ℕ) → Some (0 + k) ≡ Some k
from_zero k = ap Some (omega arith)

same : (i k : ℕ) → Some i ≡ Some k → i ≡ k
same i k e = cc

same_bytes : (xs ys : List ℕ) → bytes_eq xs ys ≡ true → xs ≡ ys
same_bytes xs ys e = (bytes_eq-Decides xs ys).0 e

-- an operation that makes a name for a use makes the name, and makes a thing that can be used in this way
both : (a b : Bool) → (a && b) ≡ true → (a ≡ true) × (b ≡ true)
both true true e = (refl, refl)
both true false e = cc
both false b e = cc

made_as : (u : NameUse) (name : List ℕ) (made : Option Made)
    → option_map_or (λ (m : Made). accepts u m.kind && bytes_eq m.name name) made false ≡ true
    → (option_map_or (λ (m : Made). accepts u m.kind) made false ≡ true)
    × (option_map_or (λ (m : Made). bytes_eq m.name name) made false ≡ true)
made_as u name None e = cc
made_as u name (Some m) e = both (accepts u m.kind) (bytes_eq m.name name) e

made_by : (u : NameUse) (name : List ℕ) (o : Option Op) → option_map_or (makes_for u name) o false ≡ true
    → (option_map_or (makes_used u) o false ≡ true) × (option_map_or (makes name) o false ≡ true)
made_by u name None e = cc
made_by u name (Some o) e = made_as u name (about o).makes e

pub is_used : (u : NameUse) (name : List ℕ) (ops : List Op) (i : ℕ)
    → passes (makes_for u name) ops i ≡ true → passes (makes_used u) ops i ≡ true
is_used u name ops i e = (made_by u name (slice_get ops i) e).0

is_made : (u : NameUse) (name : List ℕ) (ops : List Op) (i : ℕ)
    → passes (makes_for u name) ops i ≡ true → IsMadeAt ops name i
is_made u name ops i e = (made_by u name (slice_get ops i) e).1

module _ {Y : Type 0} (places : BTreeMap (String Y) ℕ) (ops : List Op) (index : IsIndex places ops)
    (name : List ℕ) where
  only : (i k : ℕ) → IsMadeAt ops name i → get_by_text places name ≡ Some k → i ≡ k
  only i k made found = same i k (sym (index.has name i made) ∙ found)

  never : (i : ℕ) → get_by_text places name ≡ None → IsMadeAt ops name i → ⊥
  never i found made = let e : Some i ≡ None = sym (index.has name i made) ∙ found in cc

  -- a name that the index has is one that an operation makes
  first : (r : Option ℕ) → get_by_text places name ≡ r → first_operation_place (makes name) 0 ops ≡ r
  first None found = none_passes (makes name) 0 ops (λ i. false_from_ne_true _ (never i found))
  first (Some k) found =
      one_passes (makes name) 0 k ops (index.made name k found) (λ i made. only i k made found) ∙ from_zero k

  pub known : is_some (get_by_text places name) ≡ list_any (makes name) ops
  known = ap is_some (sym (first _ refl)) ∙ sym (any_passes (makes name) 0 ops)

  module _ (u : NameUse) where
    -- no operation makes a name that is not in the index
    pub unknown : get_by_text places name ≡ None → first_operation_place (makes_for u name) 0 ops ≡ None
    unknown found =
        none_passes (makes_for u name) 0 ops
        (λ i. false_from_ne_true _ (λ e. never i found (is_made u name ops i e)))

    -- if another operation has the name, it makes no thing for this use
    pub other : (k : ℕ) → get_by_text places name ≡ Some k → passes (makes_for u name) ops k ≡ false
        → first_operation_place (makes_for u name) 0 ops ≡ None
    other k found fails =
        none_passes (makes_for u name) 0 ops
        (λ i. false_from_ne_true _
        (λ e. let at : i ≡ k = only i k (is_made u name ops i e) found in let holds : passes (makes_for u name) ops k
        ≡ true =
        rw (← at) e in cc))

    pub maker : (k : ℕ) → get_by_text places name ≡ Some k → passes (makes_for u name) ops k ≡ true
        → first_operation_place (makes_for u name) 0 ops ≡ Some k
    maker k found holds =
        one_passes (makes_for u name) 0 k ops holds (λ i e. only i k (is_made u name ops i e) found) ∙ from_zero k

-- a new name is none of those that an operation makes
apart : (ops : List Op) (name : List ℕ) (place : ℕ) (m : Option Made) → MakesNewName ops m → IsMadeAt ops name place
    → option_map_or (λ (x : Made). bytes_eq x.name name) m false ≡ false
apart ops name place None new made = refl
apart ops name place (Some m) new made =
    false_from_ne_true _ (λ e.
    let is : m.name ≡ name = same_bytes m.name name e in
    let any : list_any (makes name) ops ≡ true = one_of_them (makes name) ops place made in
    let none : list_any (makes name) ops ≡ false = rw is at new.fresh in
    cc)

module _ {Y : Type 0} (old new : BTreeMap (String Y) ℕ) (ops : List Op) (o : Op) (index : IsIndex old ops)
    (is_new : MakesNewName ops (about o).makes)
    (put : (name : List ℕ) → get_by_text new name
    ≡ (if makes name o then Some (length ops) else get_by_text old name)) where
  has_by : (name : List ℕ) (place : ℕ) (b : Bool) → passes (makes name) ops place ≡ b
      → IsMadeAt (ops ++ o ∷ []) name place → get_by_text new name ≡ Some place
  has_by name place true before made =
      let fails : makes name o ≡ false = apart ops name place (about o).makes is_new before in
      put name ∙ rw fails (index.has name place before)
  has_by name place false before made =
      let last : (place ≡ length ops) × (makes name o ≡ true) = last_passes (makes name) ops o place before made in
      put name ∙ rw last.1 (ap Some (sym last.0))

  made_by_last : (name : List ℕ) (place : ℕ) (b : Bool) → makes name o ≡ b → get_by_text new name ≡ Some place
      → IsMadeAt (ops ++ o ∷ []) name place
  made_by_last name place true is found =
      let at : length ops ≡ place = same (length ops) place (sym (put name ∙ rw is refl) ∙ found) in
      rw (← at) (end_passes (makes name) ops o is)
  made_by_last name place false is found =
      still_passes (makes name) ops o place (index.made name place (sym (put name ∙ rw is refl) ∙ found))

  pub index_more : IsIndex new (ops ++ o ∷ [])
  index_more = record {
    has = λ name place made. has_by name place _ refl made;
    made = λ name place found. made_by_last name place _ refl found;
  }
