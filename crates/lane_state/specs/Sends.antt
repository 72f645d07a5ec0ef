-- What a resend is to the ideal driver.
use Rattle.ideal_lane.specs.Sends.{Send}
use Rattle.lane_state.specs.declared.sends.Resend.{Resend}

-- the send that is loaded again by this resend
abbrev pub the_send : Resend → Send
the_send s = record { map = s.map; chain = s.chain.now; clusters = s.clusters.now; items = s.items.now }
