pub mod Written
pub mod Places
