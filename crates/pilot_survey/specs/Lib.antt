pub mod Ranking
pub mod Survey
pub mod Worked
