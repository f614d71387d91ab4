pub mod Laws
pub mod ListedFrames
mod Worked
