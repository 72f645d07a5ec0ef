use Rattle.std.proofs.Common.{◌≡◌, ap, sym, ◌∙◌, arith}
use Rattle.std.proofs.lemmas.List.{take_all}
use Rattle.busdma_machine.specs.Machine.Wire.{stretch}
use Rattle.run_set.specs.Edges.{member}
use Rattle.loan_table.specs.Table.{extent_count}
use Rattle.loan_table.proofs.PlacedBytes.{bytes_between, length-placed}
use Rattle.loan_table.proofs.row.LoanRow.extents.Goals as goal

pub returns-then-len : goal.returns-then-len
returns-then-len c =
    let r = member c.self.inside.to_read.edges in
    let w = member c.self.inside.to_write.edges in
    let buffer = c.self.inside.buffer in
    let range = rw (← c.self.view_is) at c.requires in
    let first : c.args.off ≡ 0 = omega (arith, range, length-placed r w 0 buffer, c.len.ensures, c.if-len.true) in
    let all : stretch 0 c.args.len buffer ≡ buffer =
    take_all c.args.len buffer (omega (arith, c.len.ensures, c.if-len.true)) in
    rw (← c.self.view_is) (c.self.invariant.parted
    ∙ sym (ap extent_count (bytes_between r w c.args.off c.args.len buffer ∙ ap (λ k. stretch k c.args.len buffer) first
    ∙ all)))

pub extent_count-requires : goal.extent_count-requires
extent_count-requires c =
    let range = rw (← c.self.view_is) at c.requires in
    omega (
      arith,
      range,
      length-placed (member c.self.inside.to_read.edges) (member c.self.inside.to_write.edges) 0
          c.self.inside.buffer,
    )

pub returns : goal.returns
returns c =
    rw (← c.self.view_is) (c.extent_count.ensures
    ∙ sym (ap extent_count (bytes_between (member c.self.inside.to_read.edges) (member c.self.inside.to_write.edges)
    c.args.off c.args.len c.self.inside.buffer)))
