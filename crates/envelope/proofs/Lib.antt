pub mod Named
pub mod Along
pub mod Chains
pub mod Prices
pub mod Turns
pub mod Written
pub mod Begins
