pub mod Progress
pub mod Softs
pub mod Clocks
pub mod Receiving
pub mod Sound
