pub mod Division
pub mod Marks
pub mod Order
pub mod Stretches
pub mod Theorems
pub mod Winner
