pub mod Answered
pub mod Put
pub mod Theorems
