pub mod Common
mod PartTexts
mod SaidTexts
mod TrafficTexts
pub mod Runs
pub mod TapLists
pub mod Texts
