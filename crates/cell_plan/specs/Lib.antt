pub mod Common
pub mod Pages
pub mod PageCycles
pub mod Plan
pub mod Sampled
pub mod Sendings
pub mod Signal
pub mod SomeMessage
pub mod Stated
pub mod TrafficFrames
pub mod Transmitter
mod Worked
