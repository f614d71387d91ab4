pub mod Admitted
pub mod Channels
pub mod Common
pub mod HalfFrames
pub mod Laying
pub mod Layouts
pub mod Messages
pub mod Neighbors
pub mod Others
pub mod Reading
pub mod Spelling
pub mod System
mod Worked
