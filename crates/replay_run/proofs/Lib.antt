pub mod Answered
pub mod Counts
pub mod Headline
pub mod Printed
pub mod Tallies
pub mod Told
