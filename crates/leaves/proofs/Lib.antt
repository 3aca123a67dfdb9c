pub mod Parts
pub mod Mean
pub mod Middle
pub mod Most
pub mod Grown
pub mod Admission
pub mod ManyReadings
pub mod Answered
