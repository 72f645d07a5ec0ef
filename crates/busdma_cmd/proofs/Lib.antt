pub mod CheckLaws
pub mod EndLaws
pub mod Printing
pub mod Taking
