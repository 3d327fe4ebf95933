pub mod Stages
pub mod Records
pub mod Turns
pub mod Shown
pub mod Accounts
pub mod Feeds
