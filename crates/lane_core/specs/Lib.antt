pub mod Appending
pub mod Calls
pub mod LaneIdeal
pub mod OneProof
