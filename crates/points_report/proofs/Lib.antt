mod Numbers
mod Told
