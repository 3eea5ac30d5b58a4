mod Ranges
mod Pieces
mod Standing
mod Putting
mod Histories
