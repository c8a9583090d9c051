pub mod Model
