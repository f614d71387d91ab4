pub mod First
pub mod Laws
pub mod Merging
pub mod Picks
pub mod Columns
