pub mod Common
pub mod Hearings
pub mod Lines
pub mod Refused
mod Counting
