pub mod Texts
pub mod Back
mod Turns
mod Formed
