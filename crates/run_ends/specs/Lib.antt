pub mod Flows
pub mod Make
pub mod Status
