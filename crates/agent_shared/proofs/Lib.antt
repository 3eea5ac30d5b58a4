pub mod Takes
pub mod Completions
pub mod Told
pub mod Requests
pub mod Strays
pub mod Together
pub mod Fresh
pub mod Ends
