pub mod Best
pub mod ByStretch
mod LastDifference
pub mod Listed
pub mod Order
pub mod Tested
