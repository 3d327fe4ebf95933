-- Defines nothing itself: the definitions that the worked cases are stated by.
pub mod Cases
