pub mod Words
pub mod Numbers
pub mod Said
pub mod Line
pub mod Theorems
