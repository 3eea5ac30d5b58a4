pub mod Parts
pub mod Valid
pub mod Scan
pub mod Cursors
pub mod Exact
pub mod Names
pub mod Below
