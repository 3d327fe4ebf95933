-- The lemmas of the records.
pub mod Said
pub mod Within
pub mod RoundTrip
