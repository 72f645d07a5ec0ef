pub mod AppendingLaws
mod LaneCalls
mod OneByte
mod OneStanding
mod OpeningLane
mod OpeningPages
mod OpensSmall
mod OpensWired
mod SameWires
