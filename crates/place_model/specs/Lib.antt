pub mod Gaps
pub mod Placing
pub mod Marking
pub mod Settled
