pub mod Positions
pub mod Printed
pub mod Values
pub mod Contents
pub mod Lines
pub mod Programs
