-- The header of an input.
use Rattle.std.proofs.Common.{◌≡◌, ℕ, suc, ◌+◌, ◌<◌, ◌≤◌, ◌==◌, ◌&&◌, Bool, true, false, cond, List, [], ◌∷◌, ◌++◌}
use Rattle.std.proofs.Common.{length, take, drop}
use Rattle.std.proofs.Common.{Option, Some, None, refl, sym, ap, ◌∙◌, arith, rules, nat_eq, nat_le, nat_lt}
use Rattle.std.proofs.Common.{if◌then◌else◌, codes, length-append, ◌^◌, ◌≢◌, subst, Bor, MatchOption}
use Rattle.std.proofs.lemmas.Bool.Decides.{nat_tests, Decides-eqb}
use Rattle.std.proofs.lemmas.Fmt.{decimal_is_IsNumeral}
use Rattle.std.proofs.lemmas.List.{append_assoc, take_at, drop_at, length-take-le, take-append-drop, append_cancel_left}
use Rattle.std.proofs.lemmas.Option.{same_Some}
use Rattle.std.proofs.lemmas.Slice.Eq.{starts_is}
use Rattle.std.specs.Fmt.{decimal}
use Rattle.std.specs.List.{before_first, starts_with}
use Rattle.std.specs.Str.Parse.{digits_value}
use Rattle.program_rules.specs.Verdicts.Header.{Cut, cut_behind_header as cut_at, cut_of, header, is_headed, size_of}
use Rattle.journal_check.specs.Header.{IsCut}
use Rattle.journal_check.proofs.FirstLine.{first, first-behind}
use Rattle.journal_check.proofs.Lines.{and-both}
use Rattle.journal_check.proofs.Words.{number-high}

-- an input with the header with this number, and what follows it
pub record Headed (input : List ℕ) (n : ℕ) (rest : List ℕ) : Type 0 where
  pub few : n < 100000000
  pub is : input ≡ decimal n ++ 10 ∷ rest
  pub enough : n ≤ length rest

header-joined : (n : ℕ) (rest : List ℕ) → header n ++ rest ≡ decimal n ++ 10 ∷ rest
header-joined n rest = append_assoc (decimal n) (10 ∷ []) rest

length-header : (n : ℕ) → length (header n) ≡ length (decimal n) + 1
length-header n = length-append (decimal n) (10 ∷ [])

-- ---- what the test says

starts : (input : List ℕ) (n : ℕ) → (starts_with nat_eq input (header n) ≡ true → input ≡ header n
    ++ drop (length (header n)) input)
    × ((rest : List ℕ) → input ≡ header n ++ rest → starts_with nat_eq input (header n) ≡ true)
starts input n = starts_is Decides-eqb input (header n) (starts_with nat_eq input (header n)) refl

headed-is : (input : List ℕ) (n : ℕ) → is_headed input n ≡ true → Headed input n (drop (length (header n)) input)
headed-is input n h =
    let few = and-both (nat_lt n 100000000) (starts_with nat_eq input (header n) && nat_le (length (header n) + n)
    (length input)) h in
    let both = and-both (starts_with nat_eq input (header n)) (nat_le (length (header n) + n) (length input)) few.1 in
    let f : nat_lt n 100000000 ≡ true = few.0 in
    let e : nat_le (length (header n) + n) (length input) ≡ true = both.1 in
    let rest : List ℕ = drop (length (header n)) input in
    let whole : input ≡ header n ++ rest = (starts input n).0 both.0 in
    let long : length input ≡ length (header n) + length rest = ap length whole ∙ length-append (header n) rest in
    record {
      few = grind (arith, nat_tests);
      is = whole ∙ header-joined n rest;
      enough = grind (arith, nat_tests);
    }

is-headed : (input rest : List ℕ) (n : ℕ) → Headed input n rest → is_headed input n ≡ true
is-headed input rest n h =
    let whole : input ≡ header n ++ rest = h.is ∙ sym (header-joined n rest) in
    let long : length input ≡ length (header n) + length rest = ap length whole ∙ length-append (header n) rest in
    let few : n < 100000000 = h.few in
    let enough : n ≤ length rest = h.enough in
    let f : nat_lt n 100000000 ≡ true = grind (arith, nat_tests) in
    let e : nat_le (length (header n) + n) (length input) ≡ true = grind (arith, nat_tests) in
    rw f (rw ((starts input n).1 rest whole) e)

-- ---- the number and the parts

size-of : (input rest : List ℕ) (n : ℕ) → Headed input n rest → size_of input ≡ n
size-of input rest n h =
    let few : n < 100000000 = h.few in
    let place : first 10 input ≡ length (decimal n) =
    ap (first 10) h.is ∙ first-behind 10 (decimal n) rest (number-high 10 n (omega arith)) in
    let word : before_first (λ b. b == 10) input ≡ decimal n =
    ap (λ k. take k input) place
    ∙ (ap (take (length (decimal n))) h.is ∙ take_at (decimal n) (10 ∷ rest) (length (decimal n)) refl) in
    ap (digits_value 10) word ∙ (decimal_is_IsNumeral n (omega (arith, few))).1

cut-at : (input rest : List ℕ) (n : ℕ) → Headed input n rest →
    cut_at input n ≡ record { scenario = take n rest; report = drop n rest }
cut-at input rest n h =
    let behind : drop (length (header n)) input ≡ rest =
    ap (drop (length (header n))) (h.is ∙ sym (header-joined n rest)) ∙ drop_at (header n) rest (length (header n))
    refl in
    ap (λ (t : List ℕ). record { scenario = take n t; report = drop n t }) behind

chosen : (b : Bool) (c : Cut) → b ≡ true → (if b then Some c else None) ≡ Some c
chosen true c h = refl
chosen false c h = absurd (cc)

pub cut-of : (input rest : List ℕ) (n : ℕ) → Headed input n rest →
    cut_of input ≡ Some (record { scenario = take n rest; report = drop n rest })
cut-of input rest n h =
    ap (λ k. if is_headed input k then Some (cut_at input k) else None) (size-of input rest n h)
    ∙ (chosen (is_headed input n) (cut_at input n) (is-headed input rest n h) ∙ ap Some (cut-at input rest n h))

pub none-of : (input : List ℕ) → ((rest : List ℕ) (n : ℕ) → Headed input n rest → ⊥) → cut_of input ≡ None
none-of input none = by (is_headed input (size_of input)) refl
  where
    by : (b : Bool) → is_headed input (size_of input) ≡ b →
        (if b then Some (cut_at input (size_of input)) else None) ≡ None
    by true e = absurd (none (drop (length (header (size_of input))) input) (size_of input)
        (headed-is input (size_of input) e))
    by false e = refl

-- ---- the parts by their definition

its-parts : (input rest : List ℕ) (n : ℕ) → Headed input n rest →
    IsCut input (record { scenario = take n rest; report = drop n rest })
its-parts input rest n h =
    let size : length (take n rest) ≡ n = length-take-le n rest h.enough in
    let few : n < 100000000 = h.few in
    record {
      short = omega (arith, size, few);
      bytes = h.is ∙ (sym (header-joined n rest) ∙ (ap (λ t. header n ++ t) (sym (take-append-drop n rest))
          ∙ ap (λ k. header k ++ (take n rest ++ drop n rest)) (sym size)));
    }

pub cut-is : (input : List ℕ) (cut : Cut) → cut_of input ≡ Some cut → IsCut input cut
cut-is input cut h = by (is_headed input (size_of input)) refl h
  where
    by : (b : Bool) → is_headed input (size_of input) ≡ b →
        (if b then Some (cut_at input (size_of input)) else None) ≡ Some cut → IsCut input cut
    by true e k =
        let own = headed-is input (size_of input) e in
        subst (IsCut input) (same_Some (cut_at input (size_of input)) cut k)
        (its-parts input (drop (length (header (size_of input))) input) (size_of input) own)
    by false e k = absurd (cc)

pub is-cut : (input : List ℕ) (cut : Cut) → IsCut input cut → cut_of input ≡ Some cut
is-cut input cut h =
    let n : ℕ = length cut.scenario in
    let rest : List ℕ = cut.scenario ++ cut.report in
    let long : length rest ≡ n + length cut.report = length-append cut.scenario cut.report in
    let own : Headed input n rest =
    record { few = h.short; is = h.bytes ∙ header-joined n rest; enough = omega (arith, long) } in
    cut-of input rest n own
    ∙ (ap (λ t. Some (record { scenario = t; report = drop n rest })) (take_at cut.scenario cut.report n refl)
    ∙ ap (λ t. Some (record { scenario = cut.scenario; report = t })) (drop_at cut.scenario cut.report n refl))

-- ---- what follows a header

-- what is left after a front is stripped
abbrev pub Stripped : List ℕ → List ℕ → Option (Bor (List ℕ)) → Type 0
Stripped text front r = MatchOption r ((rest : List ℕ) → text ≢ front ++ rest) (λ x. text ≡ front ++ x.now)

-- without the number there is no header
pub no-number : (input digits : List ℕ) (n : ℕ) → digits ≡ decimal n → Stripped input digits None →
    Stripped input (header n) None
no-number input digits n own off = λ rest h.
    off (10 ∷ rest) (h ∙ (header-joined n rest ∙ ap (λ d. d ++ 10 ∷ rest) (sym own)))

-- after the number, the line feed decides
pub behind-number : (input digits behind : List ℕ) (n : ℕ) (r : Option (Bor (List ℕ))) → digits ≡ decimal n →
    input ≡ digits ++ behind → Stripped behind (10 ∷ []) r → Stripped input (header n) r
behind-number input digits behind n None own first off = λ rest h.
    off rest (append_cancel_left digits behind (10 ∷ rest) (sym first ∙ (h ∙ (header-joined n rest
    ∙ ap (λ d. d ++ 10 ∷ rest) (sym own)))))
behind-number input digits behind n (Some x) own first next =
    first ∙ (ap (λ t. digits ++ t) next ∙ (ap (λ d. d ++ 10 ∷ x.now) own ∙ sym (header-joined n x.now)))

-- a header's number is the one that was read
pub same-number : (input rest : List ℕ) (n k : ℕ) (told : Option ℕ) → told ≡ Some k →
    ((n : ℕ) (rest : List ℕ) → n < 2 ^ 32 → input ≡ decimal n ++ 10 ∷ rest → told ≡ Some n) → Headed input n rest → k
    ≡ n
same-number input rest n k told is tells h =
    let few : n < 100000000 = h.few in
    same_Some k n (sym is ∙ tells n rest (omega (arith, few)) h.is)

-- what follows a header is what was found there
pub same-rest : (input own rest : List ℕ) (n k : ℕ) → k ≡ n → input ≡ header k ++ own → Headed input n rest → own ≡ rest
same-rest input own rest n k same is h =
    append_cancel_left (header n) own rest
    (ap (λ i. header i ++ own) (sym same) ∙ (sym is ∙ (h.is ∙ sym (header-joined n rest))))

pub not-behind : (input rest : List ℕ) (n k : ℕ) → k ≡ n → Stripped input (header k) None → Headed input n rest → ⊥
not-behind input rest n k same off h =
    off rest (h.is ∙ (sym (header-joined n rest) ∙ ap (λ i. header i ++ rest) (sym same)))

pub headed-by : (input rest : List ℕ) (n : ℕ) → n ≤ 99999999 → input ≡ header n ++ rest → n ≤ length rest →
    Headed input n rest
headed-by input rest n few is enough =
    record { few = omega (arith, few); is = is ∙ header-joined n rest; enough = enough }
