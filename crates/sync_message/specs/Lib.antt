pub mod Common
pub mod Framing
pub mod Layouts
pub mod Reading
pub mod Rows
pub mod SyncMessage
pub mod Tails
mod Worked
