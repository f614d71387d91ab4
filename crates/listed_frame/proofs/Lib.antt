pub mod Common
pub mod FirstCodewords
pub mod Candidates
pub mod Choice
pub mod SentFrames
