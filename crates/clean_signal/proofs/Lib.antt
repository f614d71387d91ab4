-- of any channel that is sent: what a finger on the path finds of it, and the plan's channels
pub mod Common
pub mod signal
-- what noise of a bounded size leaves of it
pub mod noise
-- of any stream that hears it: where its frames lie, and the codewords that their spans are
pub mod frames
