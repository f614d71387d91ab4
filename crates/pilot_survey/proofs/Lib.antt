pub mod Common
pub mod FirstPlaces
pub mod Orders
pub mod Parts
pub mod Phases
pub mod Ranked
pub mod Sorting
pub mod Strength
