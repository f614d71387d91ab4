pub mod Common
mod ArgApps
mod ArgJobs
mod ArgTests
mod ArgTexts
mod ArgWalks
