pub mod Numbers
mod Sizes
mod Line
pub mod Frames
mod Readings
