mod Lists
mod Cells
mod Notings
mod Sendings
mod Loops
