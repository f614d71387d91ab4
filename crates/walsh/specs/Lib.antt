pub mod Butterfly
pub mod Walsh
pub mod Worked
