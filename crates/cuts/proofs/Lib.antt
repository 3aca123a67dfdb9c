pub mod Divisions
pub mod Joined
pub mod Reached
pub mod Ready
pub mod Settled
pub mod Tallied
