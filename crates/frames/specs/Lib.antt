pub mod Numbers
pub mod Size
pub mod Asked
pub mod Readings
pub mod Theorems
