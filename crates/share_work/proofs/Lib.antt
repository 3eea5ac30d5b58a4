mod Coming
mod Holding
mod Over
mod Onward
mod Collecting
mod Stepping
mod Leaving
mod Parts
