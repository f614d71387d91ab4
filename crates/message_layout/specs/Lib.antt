pub mod Common
pub mod Contents
pub mod Plain
pub mod Reading
pub mod Shapes
pub mod Spelling
mod Worked
