pub mod TakenTurns
