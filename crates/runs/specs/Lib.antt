pub mod State
pub mod History
pub mod Best
pub mod Kept
pub mod Run
pub mod Opened
