pub mod Once
pub mod Laws
pub mod Followed
pub mod Counted
pub mod Home
pub mod Replies
pub mod Places
pub mod Worked
