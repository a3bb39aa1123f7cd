pub mod BallotListKept
pub mod BallotLists
pub mod BallotNumbers
pub mod BallotSets
mod Barring
pub mod BuildLaws
pub mod CellCases
mod Counts
pub mod CellFormat
mod Fitting
mod FormatAnswers
mod FormatReading
mod FormatWriting
mod Fronts
mod Joining
mod LineAnswers
pub mod LineFronts
pub mod LineGroups
pub mod LineLaws
mod LineMarks
pub mod LineNumbers
mod LinePrints
mod LineRuns
mod LineSets
pub mod LineWhole
pub mod Lookups
pub mod MarkSets
pub mod OnStyle
mod Places
pub mod Reasons
pub mod ValidMarks
pub mod Versions
