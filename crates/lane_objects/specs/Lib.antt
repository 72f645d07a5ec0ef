pub mod Making
pub mod TagPlan
