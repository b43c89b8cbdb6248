mod UnitSound
mod UnitLocal
mod UnitComplete
mod Whole
