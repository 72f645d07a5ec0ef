use Rattle.busdma_machine.proofs.Accounts.LatePages.{overtakes-late, short-of, spare-late}
use Rattle.busdma_machine.proofs.bounce.zone_laws.waiting_zone_lacks_pages.Goals as goal

pub returns-clause-spare : goal.returns-clause-spare
returns-clause-spare c = λ a es z first rest opening sound is. spare-late z a es first rest opening sound is

pub returns-clause-lacks : goal.returns-clause-lacks
returns-clause-lacks c = λ a es z first rest opening sound is. short-of z a es first rest opening sound is

pub returns-clause-overtakes : goal.returns-clause-overtakes
returns-clause-overtakes c = λ a es z first rest m need nowait pages opening sound is got.
    overtakes-late z a es first rest opening sound is m need nowait pages got
