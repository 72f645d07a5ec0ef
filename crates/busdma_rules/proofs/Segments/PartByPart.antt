-- One part of a stream after the other.
use Rattle.std.proofs.Common.{◌≡◌, ◌∷◌, false, refl, ap, ◌∙◌, arith, append-nil}
use Rattle.std.specs.Prelude.{Option, Some, None, is_some}
use Rattle.std.specs.Option.{option_to_list}
use Rattle.busdma_machine.specs.declared.machine.address.Pa.{Pa}
use Rattle.busdma_machine.specs.declared.machine.chunk.Chunk.{Chunk}
use Rattle.busdma_machine.specs.declared.tags.tag.TagLimits.{TagLimits}
use Rattle.busdma_machine.specs.Runs.{byte_count, run_of}
use Rattle.busdma_rules.specs.Segments.Building.{IsPlaceable}
use Rattle.busdma_rules.specs.Segments.Trace.{bus_addresses, chunk_len}

-- a chunk that is not bounced lies on the bus where its bytes are
pub own_run : (t : TagLimits) (c : Chunk) → IsPlaceable t c → c.bounced ≡ false →
    bus_addresses c ≡ run_of c.first.pa.0 (chunk_len c)
own_run t c h b =
    let own = h.own b in
    let len : chunk_len c ≡ c.first.len =
    ap (λ r. byte_count (c.first ∷ option_to_list r)) (own.single b) ∙ omega arith in
    rw (no_page c.page (own.paged ∙ b), own.single b, append-nil (run_of c.first.pa.0 c.first.len))
    (ap (λ n. run_of c.first.pa.0 n) (omega arith))
  where
    no_page : (o : Option Pa) → is_some o ≡ false → o ≡ None
    no_page None e = refl
    no_page (Some x) e = absurd cc
