pub mod Common
pub mod Listeners
