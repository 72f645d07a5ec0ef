use Rattle.std.proofs.Common.{◌≡◌, ◌+◌, ◌∷◌, ◌++◌, List, drop, subst, ap, sym, ◌∙◌, append_assoc, append-nil, arith}
use Rattle.std.proofs.Common.{Vec, Global}
use Rattle.std.specs.Option.{option_to_list}
use Rattle.std.specs.List.{AllByRecursion}
use Rattle.std.proofs.lemmas.List.{drop_more, drop_all}
use Rattle.std.proofs.lemmas.List.Sums.{sum_by-cons}
use Rattle.busdma_machine.specs.declared.machine.chunk.Chunk.{Chunk}
use Rattle.busdma_machine.specs.declared.machine.chunk.Entry.{Entry}
use Rattle.busdma_machine.specs.Machine.Entry.{IsEntry, entries_bytes, entry_parts, parts_of}
use Rattle.busdma_machine.specs.Runs.{byte_count}
use Rattle.busdma_rules.specs.Segments.Chunks.{chunks_of}
use Rattle.segment_build.specs.Cutting.{cut_after as after, closed, uncut}
use Rattle.segment_build.proofs.Chunking.{after_append, closed_append, entries_cut, with_last}
use Rattle.segment_build.proofs.chunk.chunks.Goals as goal
use Rattle.segment_build.proofs.chunk.chunks.Goals.{in-Some+in_ok-push, in_default}

pub loop-entry-preserved : goal.loop-entry-preserved
loop-entry-preserved c =
    let t = c.args.tag.now in
    let m = c.args.maxmem in
    let l = c.loop-entry in
    let e : Entry = c.entry-item.result in
    let rest : List Entry = drop (l.entry-index + 1) c.args.entries.now in
    let cut = c.in_ok-cut_entry.ensures in
    let at_first = ap (λ (x : Entry). x ∷ rest) (sym c.entry-item.is) in
    let first = drop_more c.args.entries.now l.entry-index e c.loop-entry-test.true ∙ at_first in
    let was = rw first at l.invariant.after in
    record {
      after = ap (λ s. after t m s (parts_of rest)) cut.after
          ∙ (sym (after_append t m l.cutter (entry_parts e) (parts_of rest)) ∙ was);
      closed = ap (λ cs. cs ++ closed t m c.cut_entry.new.cutter (parts_of rest)) cut.closed
          ∙ (append_assoc l.chunks.items (closed t m l.cutter (entry_parts e))
          (closed t m c.cut_entry.new.cutter (parts_of rest))
          ∙
          (ap (λ s. l.chunks.items ++ (closed t m l.cutter (entry_parts e) ++ closed t m s (parts_of rest)))
          cut.after
          ∙ (ap (λ cs. l.chunks.items ++ cs) (sym (closed_append t m l.cutter (entry_parts e) (parts_of rest)))
          ∙ rw first at l.invariant.closed)));
      at =
          omega (
            arith,
            cut.at,
            ap entries_bytes first,
            sum_by-cons (λ (x : Entry). byte_count x.parts) e rest,
            l.invariant.at,
          );
      entries = (subst (AllByRecursion IsEntry) first l.invariant.entries).1;
    }

pub returns : goal.returns
returns c =
    let t = c.args.tag.now in
    let l = c.loop-entry in
    let none = drop_all l.entry-index c.args.entries.now c.loop-entry-test.false in
    let done : l.chunks.items ≡ closed t c.args.maxmem uncut (parts_of c.args.entries.now) =
    sym (append-nil l.chunks.items) ∙ rw none at l.invariant.closed in
    let last : l.cutter ≡ after t c.args.maxmem uncut (parts_of c.args.entries.now) = rw none at l.invariant.after in
    let all = entries_cut t c.args.maxmem c.args.entries.now c.tag_is_effective.ensures c.requires.entries in
    let whole =
    with_last t c.args.maxmem (parts_of c.args.entries.now) l.chunks.items
    (chunks_of t c.args.maxmem c.args.entries.now) l.cutter done last all in
    c.new.ensures ∙ (elim c.match-cutter.branch [
      | in-Some+in_ok-push w ↦ ap (λ (v : Vec Chunk Global). v.items) w.chunks-is
          ∙ (w.in_ok-push.ensures.items ∙ (ap (λ o. l.chunks.items ++ option_to_list o) (sym w.in-Some.is) ∙ whole))
      | in_default w ↦ ap (λ (v : Vec Chunk Global). v.items) w.chunks-is
          ∙ (sym (append-nil l.chunks.items)
          ∙ (ap (λ o. l.chunks.items ++ option_to_list o) (sym w.in_default.is) ∙ whole))
    ])
