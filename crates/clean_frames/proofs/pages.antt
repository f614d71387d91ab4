-- What frames of half-frames end.
pub mod Scans
-- runs of pages, heard from any half-frame on
pub mod RunsHeard
-- cycles of pages: their rounds and frames, how pages are laid, and what is heard of them
pub mod Laid
pub mod CyclesBack
