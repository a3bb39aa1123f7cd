pub mod LargeFigures
pub mod LargeRun
pub mod NewBallots
pub mod SessionFigures
pub mod SessionStates
