pub mod AnsweredItem
pub mod Phase
pub mod Table
pub mod Team
pub mod Worker
