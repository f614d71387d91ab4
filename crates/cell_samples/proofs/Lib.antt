pub mod Blocks
pub mod Common
pub mod KeptBlocks
pub mod Running
pub mod SentFrames
pub mod TurnedChips
