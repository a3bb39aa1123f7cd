pub mod AuditLaws
pub mod InitLaws
pub mod Refusing
pub mod Several
