mod Migrating
mod Within
mod Recorded
mod Carrying
