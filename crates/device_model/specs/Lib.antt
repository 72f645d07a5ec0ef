pub mod Access
pub mod AccessSteps
