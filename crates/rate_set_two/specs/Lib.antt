pub mod Laws
pub mod TrafficFrames
mod Worked
