pub mod Cuts
pub mod Paths
pub mod Words
