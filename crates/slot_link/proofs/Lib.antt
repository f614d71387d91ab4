-- what comes back of soft values: frames, whole slots, and the pages in their bits
-- in a file: its slots, and what is written of them
pub mod File
