-- No byte of a memory's load is bounced.
use Rattle.std.proofs.Common.{◌≡◌, ℕ, zero, suc, ◌+◌, ◌*◌, Bool, true, false, ◌&&◌, ◌||◌, not, List, [], ◌∷◌, ap, refl}
use Rattle.std.proofs.Common.{◌==◌, ◌%◌, ◌∙◌, length, cond, drop, arith}
use Rattle.std.specs.List.{AllByRecursion}
use Rattle.std.proofs.lemmas.Bool.{le-ltb}
use Rattle.busdma_machine.specs.declared.machine.address.Pa.{Pa}
use Rattle.busdma_machine.specs.declared.machine.chunk.Chunk.{Chunk}
use Rattle.busdma_machine.specs.declared.machine.chunk.Entry.{Entry}
use Rattle.busdma_machine.specs.declared.tags.tag.TagLimits.{TagLimits}
use Rattle.busdma_machine.specs.Machine.Entry.{entry_addresses}
use Rattle.busdma_machine.specs.Runs.{byte_count}
use Rattle.busdma_machine.specs.Tags.Tag.{excluded, needs_bounce}
use Rattle.busdma_rules.specs.Segments.Chunks.{bounced_of, chunk_limit, chunks_from, chunks_of_bytes, chunks_within}
use Rattle.busdma_rules.specs.Segments.Trace.{in_page, first_page, chunks_in_pages}
use Rattle.busdma_rules.proofs.Segments.Sound.{all_append}
use Rattle.memory_load.specs.MemoryLoad.{unaligned}

abbrev pub IsUnbounced : Chunk → Type 0
IsUnbounced c = c.bounced ≡ false

never : (t : TagLimits) (a : ℕ) → needs_bounce (unaligned t) 0 a ≡ false
never t a =
    ap (λ b. (b || false) && (excluded t a || not (a % 1 == 0))) (le-ltb t.lowaddr.0 0 (omega arith))

within : (n : ℕ) (t : TagLimits) (r : Bool) (at : ℕ) (bytes : List ℕ) →
    AllByRecursion IsUnbounced (chunks_within n (unaligned t) 0 r at bytes)
within zero t r at bytes = tt
within (suc n) t r at [] = tt
within (suc n) t r at (a ∷ bs) =
    let most = chunk_limit (unaligned t) 0 r a in
    (never t _, within n t r (at + most) (drop most (a ∷ bs)))

-- no chunk of entries is bounced
pub unbounced : (t : TagLimits) (at : ℕ) (es : List Entry) →
    AllByRecursion IsUnbounced (chunks_from (unaligned t) 0 at es)
unbounced t at [] = tt
unbounced t at (e ∷ es) =
    all_append IsUnbounced (chunks_of_bytes (unaligned t) 0 e.rounded at (entry_addresses e))
    (chunks_from (unaligned t) 0 (at + byte_count e.parts) es)
    (within (length (entry_addresses e)) t e.rounded at (entry_addresses e))
    (unbounced t (at + byte_count e.parts) es)

-- no chunk of unbounced chunks is counted
pub none_bounced : (cs : List Chunk) → AllByRecursion IsUnbounced cs → bounced_of cs ≡ []
none_bounced [] h = refl
none_bounced (c ∷ cs) h = let own = h.0 in rw own (none_bounced cs h.1)

-- unbounced chunks need no page
pub stay_placed : (keep : Bool) (cs : List Chunk) (pages : List Pa) → AllByRecursion IsUnbounced cs →
    chunks_in_pages keep cs pages ≡ cs
stay_placed keep [] pages h = refl
stay_placed keep (c ∷ cs) pages h =
    let own = h.0 in
    ap (λ b. cond b (in_page keep (first_page pages) c ∷ chunks_in_pages keep cs (drop 1 pages))
    (c ∷ chunks_in_pages keep cs pages)) own
    ∙ ap (λ xs. c ∷ xs) (stay_placed keep cs pages h.1)
