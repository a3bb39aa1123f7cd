mod Media
mod OneElection
mod Rows
mod Runs
mod Texts
