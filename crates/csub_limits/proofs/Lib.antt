mod Above
mod Calls
mod Counting
mod Frames
mod Parts
