pub mod Common
pub mod BySigns
pub mod CleanLaws
pub mod CleanLink
pub mod DistinctFrames
pub mod DistinctPlan
pub mod HeardEach
pub mod HeardFrames
pub mod HeardPages
pub mod MarginFile
pub mod NoisyFile
pub mod ReceivedFrames
pub mod ReceivedLaws
pub mod SentEvents
pub mod SentSigns
pub mod TrafficLaws
mod FramesWorked
mod HeardWorked
mod SignalsWorked
mod Worked
