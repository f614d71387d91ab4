pub mod Agreement
pub mod Common
pub mod RateFormats
pub mod SentFrames
pub mod NothingHeard
