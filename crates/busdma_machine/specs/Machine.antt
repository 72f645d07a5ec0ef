pub mod Entry
pub mod Page
pub mod PageList
pub mod Spans
pub mod VirtualPages
pub mod Wire
