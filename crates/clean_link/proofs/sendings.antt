-- The transmissions of a sync channel.
pub mod Order
pub mod Heard
