pub mod Common
pub mod TrialDraws
pub mod TrialFrames
pub mod TrialLengths
pub mod TrialPlans
