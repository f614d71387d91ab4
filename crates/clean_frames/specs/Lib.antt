pub mod Common
pub mod SentFrames
pub mod WholePages
pub mod WholeSendings
