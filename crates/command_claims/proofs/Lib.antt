mod Checking
mod Claims
mod Few
mod Lines
mod Reading
