pub mod AfterTurn
mod AwaitedMaps
mod CallbackTurns
pub mod KeepsWired
mod LoadsAt
pub mod MadeTurns
pub mod Promises
pub mod Providing
mod Queueing
mod ReturnTurns
mod SameHoldings
mod ScriptTurns
pub mod SmallLoads
mod StaysWired
mod TurnEnds
