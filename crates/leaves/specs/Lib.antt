pub mod Readings
pub mod Theorems
pub mod Taking
pub mod Kept
pub mod Held
pub mod LeastLevel
pub mod Soundness
