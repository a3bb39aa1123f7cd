mod AllAccepted
mod Answered
mod CastGains
mod CastReplies
mod Closing
mod Digits
mod Effects
mod ExampleBallots
mod ExampleSets
mod Filling
mod Findings
pub mod GeneratedLines
mod Growing
mod Kept
mod LargePlays
pub mod LargeSets
mod Listed
mod Lists
mod Meant
mod Members
mod NoChoice
mod OneByOne
mod OnlyAccepted
mod PlayedPhases
mod RepliesDecide
mod Spelled
mod Steps
pub mod Summaries
mod Texts
mod Unheard
mod Waiting
mod Withdrawals
pub mod WholeReplies
mod OneList
mod OneWithdrawList
