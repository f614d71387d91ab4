pub mod Blocks
pub mod Channels
pub mod Continued
pub mod Kept
pub mod Running
