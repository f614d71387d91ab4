pub mod StatedValues
pub mod Texts
