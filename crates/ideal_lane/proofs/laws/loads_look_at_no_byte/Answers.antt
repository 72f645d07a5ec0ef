use Rattle.ideal_lane.proofs.Unread.{bytes-unread, same-entries, same-judged}
use Rattle.ideal_lane.proofs.laws.loads_look_at_no_byte.Goals as goal

pub returns-clause-judged : goal.returns-clause-judged
returns-clause-judged c = λ m b memory l. same-judged memory l m b

pub returns-clause-entries : goal.returns-clause-entries
returns-clause-entries c = λ b memory l. same-entries memory l b

pub returns-clause-load : goal.returns-clause-load
returns-clause-load c = bytes-unread
