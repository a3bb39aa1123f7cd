pub mod Migrate
