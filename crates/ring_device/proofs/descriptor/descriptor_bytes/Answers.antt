use Rattle.std.proofs.Common.{rules, ◌≡◌}
use Rattle.std.proofs.lemmas.Nat.{from_le_bytes-to_le_bytes_4, from_le_bytes-to_le_bytes_8}
use Rattle.busdma_rules.specs.Rings.Descriptors.{descriptor_of, descriptor_bytes}
use Rattle.ring_device.proofs.descriptor.descriptor_bytes.Goals as goal

pub returns-clause-read_again : goal.returns-clause-read_again
returns-clause-read_again c =
    let d = c.args.descriptor.now in
    let is : descriptor_of (descriptor_bytes d) ≡ d =
    λ i. record {
      addr = from_le_bytes-to_le_bytes_8 d.addr (search rules) i;
      len = from_le_bytes-to_le_bytes_4 d.len (search rules) i;
      kind = d.kind;
      fill = d.fill;
      owner = d.owner;
      status = d.status;
    } in
    rw (c.to_le_bytes.ensures, c.to_le_bytes-2.ensures) is
