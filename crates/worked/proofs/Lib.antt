-- The lemmas of the worked cases.
pub mod Checked
