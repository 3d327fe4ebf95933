-- The lemmas of the sellers.
pub mod Pinned
pub mod Found
