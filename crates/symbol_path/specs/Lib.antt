pub mod Scrambling
pub mod SentOrder
pub mod RatesTwo
pub mod SentOrderTwo
pub mod FormatSymbols
pub mod FramesTwo
pub mod Worked
