use Rattle.std.proofs.Common.{◌≡◌, Some, sym, ◌∙◌}
use Rattle.std.specs.FinMap.{get}
use Rattle.lane_rings.proofs.HeadBytes.{low}
use Rattle.lane_rings.proofs.RingDone.{all-done, head-inside, head-there, idle-head, invalid-head, is-ring, no-memory}
use Rattle.lane_rings.proofs.RingDone.{no-ring, refused-head, ring-kept, then-coherent, then-readable, unread-head}
use Rattle.lane_rings.proofs.rings.ring_step.Goals as goal

pub returns-in_default : goal.returns-in_default
returns-in_default c =
    no-ring c.args.holdings.now c.args.ring c.report.result c.report.ensures (sym c.in_default.ensures)

pub returns-in_default-get : goal.returns-in_default-get
returns-in_default-get c =
    no-memory c.args.holdings.now c.args.ring c.requires.wired c.requires.stands c.in-Some.kept.now
    (sym c.in-Some.ensures) c.report-in_default-get.result c.report-in_default-get.ensures
    (sym c.in_default-get.ensures)

pub head_in-head-requires : goal.head_in-head-requires
head_in-head-requires c =
    low c.args.holdings.now c.requires.wired c.in-Some.kept.now.mem c.in-Some-get.memory.now (sym c.in-Some-get.ensures)

pub returns-in-Some-unread : goal.returns-in-Some-unread
returns-in-Some-unread c =
    unread-head c.args.holdings.now c.args.ring c.requires.wired c.requires.stands c.in-Some.kept.now
    (sym c.in-Some.ensures) c.in-Some-unread.refusal c.in-Some-unread.ensures.refused

pub read_descriptor-descriptor-requires-clause-there : goal.read_descriptor-descriptor-requires-clause-there
read_descriptor-descriptor-requires-clause-there c =
    head-there c.args.holdings.now c.args.ring c.requires.wired c.requires.stands c.in-Some.kept.now
    (sym c.in-Some.ensures) c.in-Some-get.memory.now (sym c.in-Some-get.ensures)
    c.in_default-unread.ensures.readable c.head_in-head.result.0 c.head_in-head.ensures

pub read_descriptor-descriptor-requires-clause-inside : goal.read_descriptor-descriptor-requires-clause-inside
read_descriptor-descriptor-requires-clause-inside c =
    head-inside c.args.holdings.now c.args.ring c.requires.wired c.requires.stands c.in-Some.kept.now
    (sym c.in-Some.ensures) c.in-Some-get.memory.now (sym c.in-Some-get.ensures)
    c.in_default-unread.ensures.readable c.head_in-head.result.0 c.head_in-head.ensures

pub returns-then-descriptor-ne1 : goal.returns-then-descriptor-ne1
returns-then-descriptor-ne1 c =
    idle-head c.args.holdings.now c.args.ring c.requires.wired c.requires.stands c.in-Some.kept.now
    (sym c.in-Some.ensures) c.in-Some-get.memory.now (sym c.in-Some-get.ensures)
    c.in_default-unread.ensures.readable c.head_in-head.result.0 c.head_in-head.ensures
    c.read_descriptor-descriptor.result c.read_descriptor-descriptor.ensures c.if-descriptor-ne1.true

pub returns-then-not-is_work : goal.returns-then-not-is_work
returns-then-not-is_work c =
    invalid-head c.args.holdings.now c.args.ring c.requires.wired c.requires.stands c.in-Some.kept.now
    (sym c.in-Some.ensures) c.in-Some-get.memory.now (sym c.in-Some-get.ensures)
    c.in_default-unread.ensures.readable c.head_in-head.result.0 c.head_in-head.ensures
    c.read_descriptor-descriptor.result c.read_descriptor-descriptor.ensures c.if-descriptor-ne1.false
    (sym c.is_work.ensures ∙ c.if-not-is_work.true)

pub returns-in-Refused : goal.returns-in-Refused
returns-in-Refused c =
    refused-head c.args.holdings.now c.args.ring c.requires.wired c.requires.stands c.in-Some.kept.now
    (sym c.in-Some.ensures) c.in-Some-get.memory.now (sym c.in-Some-get.ensures)
    c.in_default-unread.ensures.readable c.head_in-head.result.0 c.head_in-head.ensures
    c.read_descriptor-descriptor.result c.read_descriptor-descriptor.ensures c.if-descriptor-ne1.false
    (sym c.is_work.ensures ∙ c.if-not-is_work.false) c.in-Refused.refusal
    (sym c.in-Refused.is ∙ c.find_work.ensures.is)

pub retire-requires-clause-readable : goal.retire-requires-clause-readable
retire-requires-clause-readable c =
    then-readable c.args.holdings.now c.args.ring c.requires.wired c.requires.stands c.in-Some.kept.now
    (sym c.in-Some.ensures) c.in-Some-get.memory.now (sym c.in-Some-get.ensures)
    c.in_default-unread.ensures.readable c.head_in-head.result.0 c.head_in-head.ensures
    c.read_descriptor-descriptor.result c.read_descriptor-descriptor.ensures c.if-descriptor-ne1.false
    (sym c.is_work.ensures ∙ c.if-not-is_work.false) c.in-At.candidate (sym c.in-At.is ∙ c.find_work.ensures.is)
    c.access.new.holdings c.in_ok-answer.answer c.in_ok-answer.ensures.step

pub retire-requires-clause-coherent : goal.retire-requires-clause-coherent
retire-requires-clause-coherent c =
    then-coherent c.args.holdings.now c.args.ring c.requires.wired c.requires.stands c.in-Some.kept.now
    (sym c.in-Some.ensures) c.in-Some-get.memory.now (sym c.in-Some-get.ensures)
    c.in_default-unread.ensures.readable c.head_in-head.result.0 c.head_in-head.ensures
    c.read_descriptor-descriptor.result c.read_descriptor-descriptor.ensures c.if-descriptor-ne1.false
    (sym c.is_work.ensures ∙ c.if-not-is_work.false) c.in-At.candidate (sym c.in-At.is ∙ c.find_work.ensures.is)
    c.access.new.holdings c.in_ok-answer.answer c.in_ok-answer.ensures.step

pub move_on-requires-clause-there : goal.move_on-requires-clause-there
move_on-requires-clause-there c =
    ring-kept c.args.holdings.now c.args.ring c.requires.wired c.requires.stands c.in-Some.kept.now
    (sym c.in-Some.ensures) c.in-Some-get.memory.now (sym c.in-Some-get.ensures)
    c.in_default-unread.ensures.readable c.head_in-head.result.0 c.head_in-head.ensures
    c.read_descriptor-descriptor.result c.read_descriptor-descriptor.ensures c.if-descriptor-ne1.false
    (sym c.is_work.ensures ∙ c.if-not-is_work.false) c.in-At.candidate (sym c.in-At.is ∙ c.find_work.ensures.is)
    c.access.new.holdings c.in_ok-answer.answer c.in_ok-answer.ensures.step c.retire.new.holdings c.retire.ensures

pub move_on-requires-clause-head : goal.move_on-requires-clause-head
move_on-requires-clause-head c =
    let there : get c.args.holdings.now.rings.map c.args.ring ≡ Some c.in-Some.kept.now = sym c.in-Some.ensures in
    (is-ring c.args.holdings.now c.args.ring c.requires.wired c.requires.stands c.in-Some.kept.now there).head

pub move_on-requires-clause-few : goal.move_on-requires-clause-few
move_on-requires-clause-few c =
    let there : get c.args.holdings.now.rings.map c.args.ring ≡ Some c.in-Some.kept.now = sym c.in-Some.ensures in
    (is-ring c.args.holdings.now c.args.ring c.requires.wired c.requires.stands c.in-Some.kept.now there).few

pub returns : goal.returns
returns c =
    all-done c.args.holdings.now c.args.ring c.requires.wired c.requires.stands c.in-Some.kept.now
    (sym c.in-Some.ensures) c.in-Some-get.memory.now (sym c.in-Some-get.ensures)
    c.in_default-unread.ensures.readable c.head_in-head.result.0 c.head_in-head.ensures
    c.read_descriptor-descriptor.result c.read_descriptor-descriptor.ensures c.if-descriptor-ne1.false
    (sym c.is_work.ensures ∙ c.if-not-is_work.false) c.in-At.candidate (sym c.in-At.is ∙ c.find_work.ensures.is)
    c.access.new.holdings c.in_ok-answer.answer c.in_ok-answer.ensures.step c.retire.new.holdings c.retire.ensures
    c.move_on.new.holdings c.move_on.ensures
