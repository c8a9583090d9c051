pub mod EachText
pub mod Texts
