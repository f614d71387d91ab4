pub mod Frames
pub mod Laws
pub mod Slots
pub mod Worked
