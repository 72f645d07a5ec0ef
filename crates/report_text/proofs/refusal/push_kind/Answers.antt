use Rattle.report_text.proofs.refusal.push_kind.Goals as goal

pub returns-in-FrameAbsent : goal.returns-in-FrameAbsent
returns-in-FrameAbsent g c = rw c.in-FrameAbsent.is c.push_str-in-FrameAbsent.ensures

pub returns-in-UnknownName : goal.returns-in-UnknownName
returns-in-UnknownName g c = rw c.in-UnknownName.is c.push_str-in-UnknownName.ensures
