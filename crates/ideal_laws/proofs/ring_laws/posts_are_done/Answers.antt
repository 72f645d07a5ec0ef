use Rattle.ideal_laws.proofs.PostLaws.{post-by, post-in}
use Rattle.ideal_laws.proofs.ring_laws.posts_are_done.Goals as goal

pub returns-clause-driver : goal.returns-clause-driver
returns-clause-driver c = post-by

pub returns-clause-world : goal.returns-clause-world
returns-clause-world c = post-in
