mod TwoApps
mod EightApps
