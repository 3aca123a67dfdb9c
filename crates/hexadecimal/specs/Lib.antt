pub mod Digits
pub mod Line
pub mod Text
pub mod Theorems
