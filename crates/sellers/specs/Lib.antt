-- Defines nothing itself: the definitions that the contracts of the sellers cite.
pub mod Bidders
pub mod Curves
pub mod Faults
pub mod Slots
pub mod Steps
pub mod Tiers
pub mod Reached
pub mod Stepped
