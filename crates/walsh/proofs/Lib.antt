pub mod Carried
pub mod Common
pub mod Pairing
pub mod Partial
pub mod RowTable
pub mod Stages
