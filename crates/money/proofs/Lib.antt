-- The lemmas of the money.
pub mod Parts
