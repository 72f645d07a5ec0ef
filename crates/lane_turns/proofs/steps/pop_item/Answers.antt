use Rattle.std.proofs.Common.{Option, None, Some, refl}
use Rattle.std.specs.Prelude.{IfNone}
use Rattle.lane_turns.proofs.SameHoldings.{same-all}
use Rattle.lane_turns.proofs.steps.pop_item.Goals as goal

none-map : {X : Type 0} {P Q : Type 0} (o : Option X) → (P → Q) → IfNone o P → IfNone o Q
none-map None f p = f p
none-map (Some x) f p = tt

pub returns-clause-same : goal.returns-clause-same
returns-clause-same c =
    none-map c.pop.result (same-all c.args.holdings.now _ (record {
      most = record {
        script = refl;
        pages = refl;
        id = refl;
        maxmem = refl;
        memory = refl;
        memories = refl;
        rings = refl;
        loans = refl;
        shares = refl;
        due = refl;
      };
      tags = refl;
      maps = refl;
    }))
    c.pop.ensures.none
