mod Finds
mod Keys
mod Stack
mod Counting
