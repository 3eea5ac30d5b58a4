mod Marks
mod Crashes
mod Slots
mod Stages
mod Frames
