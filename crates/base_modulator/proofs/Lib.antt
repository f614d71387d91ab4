pub mod GivenSamples
mod MadeFiles
