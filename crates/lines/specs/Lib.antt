pub mod Call
pub mod Meaning
pub mod Script
pub mod Texts
pub mod Verb
