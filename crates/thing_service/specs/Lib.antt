pub mod Generator
pub mod Offers
pub mod ServiceTexts
pub mod Reading
pub mod Blocks
pub mod Asking
pub mod Answers
