use Rattle.segment_build.proofs.streamed.build_into.Goals as goal

pub build_within-few-requires-clause-stream : goal.build_within-few-requires-clause-stream
build_within-few-requires-clause-stream g c xs s y = (c.requires.room.fronts xs s y).stream

pub build_within-few-requires-clause-need : goal.build_within-few-requires-clause-need
build_within-few-requires-clause-need g c xs s y = (c.requires.room.fronts xs s y).need

pub unwrap-requires : goal.unwrap-requires
unwrap-requires g c =
    c.build_within-few.ensures.within (λ xs s y. (c.requires.room.fronts xs s y).fits)
    (λ xs s y. (c.requires.room.fronts xs s y).bounced_fit)
