pub mod Least
pub mod Named
pub mod Settled
