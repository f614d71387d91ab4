pub mod Memory
pub mod Outside
pub mod SampleFile
pub mod Worked
