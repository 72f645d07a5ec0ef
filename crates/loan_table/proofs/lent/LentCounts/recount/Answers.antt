use Rattle.loan_table.specs.declared.row.Way.TheVariants.{ToWrite, ToRead}
use Rattle.loan_table.proofs.lent.LentCounts.recount.Goals as goal

pub recount_way-requires-clause-held : goal.recount_way-requires-clause-held
recount_way-requires-clause-held c a = c.requires.held ToWrite a

pub recount_way-requires-clause-room : goal.recount_way-requires-clause-room
recount_way-requires-clause-room c = c.requires.room ToWrite

pub recount_way-requires-2-clause-held : goal.recount_way-requires-2-clause-held
recount_way-requires-2-clause-held c a = c.requires.held ToRead a

pub recount_way-requires-2-clause-room : goal.recount_way-requires-2-clause-room
recount_way-requires-2-clause-room c = c.requires.room ToRead

pub returns-clause-counts : goal.returns-clause-counts
returns-clause-counts c ToWrite a = c.recount_way.ensures.counts a
returns-clause-counts c ToRead a = c.recount_way-2.ensures.counts a

pub returns-clause-room : goal.returns-clause-room
returns-clause-room c ToWrite = c.recount_way.ensures.room
returns-clause-room c ToRead = c.recount_way-2.ensures.room
