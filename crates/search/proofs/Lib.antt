pub mod Filling
pub mod Optimal
pub mod Picking
pub mod Stretch
pub mod Tracing
