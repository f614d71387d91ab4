-- The frames of a stream.
pub mod Times
pub mod Scores
pub mod Heard
-- those of any channel that is sent
pub mod ChannelSigns
