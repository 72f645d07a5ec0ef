use Rattle.std.proofs.Common.{◌≤◌, ◌<◌, ◌-◌, get_or, arith}
use Rattle.run_set.proofs.Lines.{counted_below, counted_above}
use Rattle.run_set.proofs.edges.split_here.Goals as goal

pub returns : goal.returns
returns c =
    let edges = c.args.edges.now.items in
    let last = c.args.start - 1 in
    record {
      small = c.in_ok-below.ensures.small;
      large = c.in_ok-to.ensures.small;
      before = λ k d p.
          let x : get_or edges k d ≤ last =
          counted_below 0 edges last k d c.requires (omega (arith, c.in_ok-below.ensures.is)) in
          omega arith;
      from = λ k d p q.
          let x : last < get_or edges k d =
          counted_above 0 edges last k d c.requires (omega (arith, c.in_ok-below.ensures.is)) q in
          omega arith;
      upto = λ k d p. counted_below 0 edges c.args.end k d c.requires (omega (arith, c.in_ok-to.ensures.is));
      above = λ k d p q. counted_above 0 edges c.args.end k d c.requires (omega (arith, c.in_ok-to.ensures.is)) q;
    }
