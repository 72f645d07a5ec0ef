use Rattle.ideal_laws.proofs.Landing.{judged-byte}
use Rattle.ideal_laws.proofs.wire_laws.raw_accesses_land_where_they_are_judged.Goals as goal

pub returns : goal.returns
returns c = λ l t a unlent refusal stands laid spaced mapped fine. judged-byte l stands laid spaced mapped unlent
    refusal t a fine
