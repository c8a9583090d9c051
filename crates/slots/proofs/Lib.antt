pub mod Places
pub mod Trims
pub mod Searches
