pub mod Admitting
pub mod Bodies
pub mod Common
pub mod Directions
pub mod Frames
pub mod ByLayout
pub mod Readings
