pub mod Exact
pub mod Numbers
pub mod Splits
