pub mod Cycles
pub mod SlotFrames
