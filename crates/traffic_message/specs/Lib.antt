pub mod Admitted
pub mod Common
pub mod Handoff
pub mod InTraffic
pub mod Layouts
pub mod Messages
pub mod Multiplex
pub mod Neighbors
pub mod Reading
pub mod Widths
mod Worked
