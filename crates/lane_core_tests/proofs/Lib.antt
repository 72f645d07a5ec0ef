pub mod Coming
mod Popping
