use Rattle.std.proofs.Common.{◌≡◌, length, rules, sym}
use Rattle.busdma_rules.specs.Rings.Descriptors.{descriptor_bytes}
use Rattle.lane_rings.proofs.Postings.{post-absent, post-none, post-past, post-refused, post-unloaded, post-written}
use Rattle.lane_rings.proofs.posts.post.Goals as goal

pub returns-in_default : goal.returns-in_default
returns-in_default c =
    post-none c.args.holdings.now c.args.ring c.args.posting c.report.result c.report.ensures (sym c.in_default.ensures)

pub returns-in_default-get : goal.returns-in_default-get
returns-in_default-get c =
    post-absent c.args.holdings.now c.args.ring c.args.posting c.in-Some.kept.now (sym c.in-Some.ensures)
    c.report-in_default-get.result c.report-in_default-get.ensures (sym c.in_default-get.ensures)

pub returns-in-Some-unloaded : goal.returns-in-Some-unloaded
returns-in-Some-unloaded c =
    post-unloaded c.args.holdings.now c.args.ring c.args.posting c.in-Some.kept.now (sym c.in-Some.ensures)
    c.in-Some-get.field-0.now (sym c.in-Some-get.ensures) c.in-Some-unloaded.refusal c.in-Some-unloaded.ensures.refused

pub returns-in-Some-past_end : goal.returns-in-Some-past_end
returns-in-Some-past_end c =
    post-past c.args.holdings.now c.args.ring c.args.posting c.in-Some.kept.now (sym c.in-Some.ensures)
    c.in-Some-get.field-0.now (sym c.in-Some-get.ensures) c.in_default-unloaded.ensures.loaded
    c.in-Some-past_end.refusal c.in-Some-past_end.ensures.refused

pub returns-in_default-descriptor_of : goal.returns-in_default-descriptor_of
returns-in_default-descriptor_of c =
    post-refused c.args.holdings.now c.args.ring c.args.posting c.in-Some.kept.now (sym c.in-Some.ensures)
    c.in-Some-get.field-0.now (sym c.in-Some-get.ensures) c.in_default-unloaded.ensures.loaded
    c.in_default-past_end.ensures.range c.in_default-descriptor_of.ensures.unposted

pub returns : goal.returns
returns c =
    let d = c.in-Some-descriptor_of.descriptor in
    let size : length (descriptor_bytes d) ≡ 16 = search rules in
    post-written c.args.holdings.now c.args.ring c.args.posting c.in-Some.kept.now (sym c.in-Some.ensures)
    c.in-Some-get.field-0.now (sym c.in-Some-get.ensures) c.in_default-unloaded.ensures.loaded
    c.in_default-past_end.ensures.range d c.in-Some-descriptor_of.ensures.posted size c.descriptor_bytes.result
    c.descriptor_bytes.ensures.bytes c.cpu_write.new.holdings c.cpu_write.result c.cpu_write.ensures
