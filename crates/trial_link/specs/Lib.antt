pub mod Trial
mod WorkedTrial
