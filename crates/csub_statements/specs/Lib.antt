pub mod Resolvable
