mod Truths
mod Parts
