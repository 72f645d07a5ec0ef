pub mod KeptMapped
pub mod KeptSpaces
pub mod MappedTurns
