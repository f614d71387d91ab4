pub mod Common
pub mod SyncReceiving
pub mod PagingReceiving
pub mod TrafficReceiving
pub mod AfterMark
pub mod FollowedChannels
pub mod SoundHandset
pub mod Standing
