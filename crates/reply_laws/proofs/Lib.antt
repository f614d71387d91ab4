pub mod Common
pub mod MadeLinks
pub mod NoisyReplies
pub mod Required
pub mod SentLines
pub mod SignedReplies
pub mod SleepLaw
pub mod WholeFiles
