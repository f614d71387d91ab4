pub mod CodeWindows
pub mod Despreading
pub mod RegisterChips
pub mod Signs
