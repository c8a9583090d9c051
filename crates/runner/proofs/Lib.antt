pub mod Histories
pub mod Loops
