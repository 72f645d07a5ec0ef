-- A text that comes or goes in pieces.
use Rattle.std.proofs.Common.{ℕ, ◌+◌, List, ◌++◌, length, take, drop, length-append, Option, Some, None, refl, sym, ap}
use Rattle.std.proofs.Common.{◌∙◌, append_assoc, arith}
use Rattle.std.proofs.Math.Seq.{take-add}
use Rattle.std.proofs.lemmas.List.{drop_at}
use Rattle.std.specs.Io.KnownBytes.{Consumes, Appends}
use Rattle.io_edge.specs.Reading.{Takes}

-- two pieces that were taken one after the other are one piece
pub takes_more : (first second : List ℕ) (before between after : Option (List ℕ))
    → Consumes before between first → Consumes between after second
    → Consumes before after (first ++ second)
takes_more first second None between after was more = tt
takes_more first second (Some left) None after was more = absurd was
takes_more first second (Some left) (Some rest) None was more = absurd more
takes_more first second (Some left) (Some rest) (Some end) was more =
    was ∙ ap (λ r. first ++ r) more ∙ sym (append_assoc first second end)

-- what was taken is a front of what was left
pub takes_front : (bytes : List ℕ) (before after : Option (List ℕ))
    → Consumes before after bytes → Takes (length bytes) before after
takes_front bytes None after was = tt
takes_front bytes (Some left) None was = absurd was
takes_front bytes (Some left) (Some rest) was =
    rw was (
      omega (arith, length-append bytes rest),
      ap Some (sym (drop_at bytes rest (length bytes) refl)),
    )

-- a front of a text and then the next piece of it are a longer front
pub appends_more : (done n : ℕ) (text : List ℕ) (before between after : Option (List ℕ))
    → Appends before between (take done text) → Appends between after (take n (drop done text))
    → Appends before after (take (done + n) text)
appends_more done n text None between after was more = tt
appends_more done n text (Some held) None after was more = absurd was
appends_more done n text (Some held) (Some mid) None was more = absurd more
appends_more done n text (Some held) (Some mid) (Some end) was more =
    let front = take done text in
    let piece = take n (drop done text) in
    more ∙ ap (λ h. h ++ piece) was ∙ append_assoc held front piece
    ∙ ap (λ all. held ++ all) (sym (take-add done n text))
