pub mod Best
pub mod Calls
pub mod Held
