pub mod Cuts
pub mod Outcome
