pub mod MigrateLaws
mod Migrated
mod OldForm
mod Stops
