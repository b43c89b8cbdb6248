pub mod Migrations
pub mod Orders
pub mod Carried
pub mod Steps
