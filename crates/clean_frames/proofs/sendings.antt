-- The transmissions of a sync channel.
pub mod Capsules
