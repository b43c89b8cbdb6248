mod Called
mod Fits
mod Places
mod Each
