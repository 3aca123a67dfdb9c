pub mod Examples
pub mod Problem
