pub mod ConvCode
pub mod Laws
mod Worked
