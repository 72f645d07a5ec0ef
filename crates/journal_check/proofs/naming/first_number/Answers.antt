use Rattle.std.proofs.Common.{rules, ◌≡◌, ◌<◌, ◌^◌, ◌∙◌, ◌++◌, ◌∷◌, ap, sym, subst, arith, ℕ, List, Option, Some, None}
use Rattle.std.proofs.Common.{take, length}
use Rattle.std.proofs.lemmas.Option.{same_Some}
use Rattle.std.proofs.lemmas.Fmt.{parse-decimal, IsAscii-decimal}
use Rattle.std.proofs.lemmas.Str.{IsUtf8-from_ascii}
use Rattle.std.specs.Fmt.{decimal}
use Rattle.std.specs.Result.{result_ok}
use Rattle.std.specs.Str.{IsUtf8}
use Rattle.journal_check.proofs.Words.{number-word, number-there}
use Rattle.journal_check.proofs.naming.first_number.Goals as goal

pub returns-in_err-place_of : goal.returns-in_err-place_of
returns-in_err-place_of c = λ n rest less is.
    let there : c.place_of.result ≡ Some (length (decimal n)) =
    c.place_of.ensures.first ∙ number-there c.args.text.now rest c.args.end n c.requires is in
    let none : c.place_of.result ≡ None = c.in_err-place_of.was in
    let clash : None ≡ Some (length (decimal n)) = sym none ∙ there in
    absurd (cc)

pub returns-in_err-ok : goal.returns-in_err-ok
returns-in_err-ok c = λ n rest less is.
    let word : c.split_at.result.0.now ≡ decimal n =
    number-word c.args.text.now c.split_at.result.0.now rest c.args.end n c.in_ok-place_of.field-0 c.requires
    c.split_at.ensures.front
    (sym c.place_of.ensures.first ∙ c.in_ok-place_of.was) is in
    let bad : IsUtf8 c.split_at.result.0.now → ⊥ = search rules in
    absurd (bad (subst IsUtf8 (sym word) (IsUtf8-from_ascii (decimal n) (IsAscii-decimal n (omega (arith, less))))))

pub returns : goal.returns
returns c = λ n rest less is.
    let word : c.split_at.result.0.now ≡ decimal n =
    number-word c.args.text.now c.split_at.result.0.now rest c.args.end n c.in_ok-place_of.field-0 c.requires
    c.split_at.ensures.front
    (sym c.place_of.ensures.first ∙ c.in_ok-place_of.was) is in
    let text : c.in_ok-ok.field-0.now ≡ c.split_at.result.0.now = search rules in
    c.ok-2.ensures.value
    ∙ ap result_ok (parse-decimal 32 n c.in_ok-ok.field-0.now c.parse.result less (omega (arith, less)) (text ∙ word)
    c.parse.ensures.value.0)
