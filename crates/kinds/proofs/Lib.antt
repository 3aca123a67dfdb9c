pub mod Frames
mod Brought
