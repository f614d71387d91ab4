-- One file with noise of the size of its margin.
pub mod FileAtMargin
pub mod MarginFile
