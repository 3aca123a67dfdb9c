pub mod Path
pub mod Theorems
pub mod Next
