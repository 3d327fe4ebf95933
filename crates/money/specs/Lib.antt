-- Defines nothing itself: the definitions that the contracts of the money cite.
pub mod Money
