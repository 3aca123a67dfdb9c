mod Split
mod Counted
mod Gathered
mod Back
mod Printed
mod Spaced
mod ByName
