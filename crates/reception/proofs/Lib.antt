pub mod Common
pub mod SoftSums
pub mod Descrambled
pub mod FingerLists
pub mod ClockSteps
pub mod Received
