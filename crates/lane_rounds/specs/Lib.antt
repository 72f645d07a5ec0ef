pub mod AtWork
