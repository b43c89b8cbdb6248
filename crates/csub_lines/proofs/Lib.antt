mod Numbers
mod Objects
mod Effects
