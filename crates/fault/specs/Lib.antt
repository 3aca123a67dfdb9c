pub mod Number
pub mod Refusal
pub mod Name
