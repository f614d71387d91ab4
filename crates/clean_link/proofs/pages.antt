-- The pages of a channel in a file, each when it is known.
pub mod Back
