-- The messages of all channels.
pub mod EachChannel
pub mod Kinds
pub mod MessagesBack
