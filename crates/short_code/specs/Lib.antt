pub mod Despread
pub mod ShortCode
pub mod Worked
