pub mod Compressed
