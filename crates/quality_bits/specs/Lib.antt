pub mod Capsules
pub mod Faults
pub mod Formats
pub mod Kinds
pub mod Pieces
pub mod Quality
pub mod TrafficCodewords
mod Worked
