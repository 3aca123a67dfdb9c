pub mod Arms
pub mod Asked
pub mod Marked
pub mod Opening
pub mod Steps
pub mod Turns
pub mod Within
