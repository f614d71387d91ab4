mod BinaryDigits
pub mod Common
pub mod Digits
pub mod Numerals
pub mod StatedTexts
