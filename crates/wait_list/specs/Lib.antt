pub mod Ready
pub mod Reserved
