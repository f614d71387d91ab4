-- The frames of a stream.
pub mod Times
-- those of any channel that is heard, of the sync channel, and of a paging channel after the mark
pub mod ChannelFrames
