-- The mark that a sync message sets.
pub mod MarksTrue
