pub mod EffectiveTags
pub mod KeptMaps
pub mod KeptTags
pub mod MachineOpens
pub mod MachineTurns
pub mod ServedMaps
