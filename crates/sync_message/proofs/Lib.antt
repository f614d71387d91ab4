pub mod Bodies
pub mod ByLayout
pub mod Common
pub mod Readings
