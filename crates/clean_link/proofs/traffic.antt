-- The frames of traffic channels, and the messages in them.
pub mod Steady
pub mod Signs
pub mod Frames
pub mod Back
pub mod Received
pub mod HiddenCodewords
pub mod SharedFrames
pub mod DistinctPlan
