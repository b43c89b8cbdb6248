mod Placed
mod Made
mod Most
