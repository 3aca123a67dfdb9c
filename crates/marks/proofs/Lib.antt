pub mod Laying
pub mod Length
pub mod Lifting
pub mod Order
pub mod Parts
pub mod Search
pub mod Sharing
pub mod Stand
