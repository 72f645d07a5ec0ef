use Rattle.std.proofs.Common.{◌+◌, arith, leb}
use Rattle.std.proofs.lemmas.List.{length-map}
use Rattle.std.proofs.lemmas.List.Sums.{count_by-le-length}
use Rattle.busdma_machine.specs.Machine.PageList.{page_address, page_addresses}
use Rattle.bounce_zone.proofs.zone.Zone.grow.Goals as goal

pub take_lowest-requires : goal.take_lowest-requires
take_lowest-requires c =
    omega (
      arith,
      count_by-le-length (λ f. leb (f + 4095) c.self.inside.lowaddr.0) (page_addresses c.args.bank.now.pages),
      length-map c.args.bank.now.pages page_address,
    )
