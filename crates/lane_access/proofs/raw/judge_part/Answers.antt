use Rattle.std.proofs.Common.{◌≡◌, true, option_map, is_some, sym, ap, ◌∙◌, arith}
use Rattle.busdma_machine.specs.declared.machine.address.Pa.{Pa}
use Rattle.busdma_machine.specs.declared.report.Judged.TheVariants.{Refused}
use Rattle.busdma_rules.specs.Iommu.Space.{translated}
use Rattle.lane_state.specs.Ideal.{ideal_of}
use Rattle.lane_access.specs.Raw.{IsStanding}
use Rattle.lane_access.proofs.RawLoads.{short-of, stands-there}
use Rattle.lane_access.proofs.RawParts.{in-load, in-none}
use Rattle.lane_access.proofs.raw.judge_part.Goals as goal

pub find_raw-lying-requires-clause-short : goal.find_raw-lying-requires-clause-short
find_raw-lying-requires-clause-short c =
    let h = c.args.holdings.now in
    let some : is_some (translated ((ideal_of h).spaces c.args.tag) c.args.addr) ≡ true =
    ap is_some (sym c.translate.ensures) ∙ ap (λ o. is_some (option_map (λ (p : Pa). p.0) o)) c.in-Some.is in
    short-of h c.requires.wired c.args.tag c.args.addr some c.buffers_are_short.ensures

pub judge_lent-judged-requires-clause-range : goal.judge_lent-judged-requires-clause-range
judge_lent-judged-requires-clause-range c =
    let h = c.args.holdings.now in
    let some : is_some (translated ((ideal_of h).spaces c.args.tag) c.args.addr) ≡ true =
    ap is_some (sym c.translate.ensures) ∙ ap (λ o. is_some (option_map (λ (p : Pa). p.0) o)) c.in-Some.is in
    let standing : IsStanding h.maps.map c.args.tag c.in-Some-place.place c.find_raw-lying.result.len =
    rw c.in-Some-place.is at c.find_raw-lying.ensures.standing in
    (stands-there h c.requires.wired c.args.tag c.args.addr some c.in-Some-place.place c.find_raw-lying.result.len
    c.find_raw-lying.ensures.some standing).range

pub judge_lent-judged-requires-clause-there : goal.judge_lent-judged-requires-clause-there
judge_lent-judged-requires-clause-there c =
    let h = c.args.holdings.now in
    let some : is_some (translated ((ideal_of h).spaces c.args.tag) c.args.addr) ≡ true =
    ap is_some (sym c.translate.ensures) ∙ ap (λ o. is_some (option_map (λ (p : Pa). p.0) o)) c.in-Some.is in
    let standing : IsStanding h.maps.map c.args.tag c.in-Some-place.place c.find_raw-lying.result.len =
    rw c.in-Some-place.is at c.find_raw-lying.ensures.standing in
    (stands-there h c.requires.wired c.args.tag c.args.addr some c.in-Some-place.place c.find_raw-lying.result.len
    c.find_raw-lying.ensures.some standing).there

pub returns-in-Some-place-clause-is : goal.returns-in-Some-place-clause-is
returns-in-Some-place-clause-is c =
    let h = c.args.holdings.now in
    let n = c.find_raw-lying.result.len in
    let some : is_some (translated ((ideal_of h).spaces c.args.tag) c.args.addr) ≡ true =
    ap is_some (sym c.translate.ensures) ∙ ap (λ o. is_some (option_map (λ (p : Pa). p.0) o)) c.in-Some.is in
    let standing : IsStanding h.maps.map c.args.tag c.in-Some-place.place n =
    rw c.in-Some-place.is at c.find_raw-lying.ensures.standing in
    c.judge_lent-judged.ensures
    ∙ sym (in-load (ideal_of h) c.args.access c.args.tag c.args.addr n some (omega arith) (omega arith)
    c.find_raw-lying.result.place c.find_raw-lying.ensures.is c.in-Some-place.place c.in-Some-place.is
    (stands-there h c.requires.wired c.args.tag c.args.addr some c.in-Some-place.place n
    c.find_raw-lying.ensures.some standing).range)

pub returns-in-None-clause-is : goal.returns-in-None-clause-is
returns-in-None-clause-is c =
    let h = c.args.holdings.now in
    let some : is_some (translated ((ideal_of h).spaces c.args.tag) c.args.addr) ≡ true =
    ap is_some (sym c.translate.ensures) ∙ ap (λ o. is_some (option_map (λ (p : Pa). p.0) o)) c.in-Some.is in
    ap (λ name. Refused (record { name = name; at = 0 })) c.unlent.ensures
    ∙ in-none (ideal_of h) c.args.access c.args.tag c.args.addr c.find_raw-lying.result.len some (omega arith)
    (omega arith) c.find_raw-lying.result.place c.find_raw-lying.ensures.is c.in-None.is
    c.find_raw-lying.ensures.some
