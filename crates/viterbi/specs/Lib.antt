pub mod Codewords
pub mod Best
pub mod Common
pub mod Signs
pub mod Laws
pub mod States
pub mod Survivors
pub mod Columns
pub mod Lanes
mod Worked
