use Rattle.report_text.proofs.Kept.{kept}
use Rattle.report_text.proofs.journal.report.Goals as goal

pub returns : goal.returns
returns c =
    kept _ _ _ _ _ c.text_sink-sink.ensures c.write_report-written.ensures.written
    c.whole_text.ensures.whole c.whole_text.ensures.written
