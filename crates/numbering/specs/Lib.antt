pub mod Kinds
pub mod Pointers
