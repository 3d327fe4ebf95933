pub mod Prices
pub mod Calls
pub mod Costs
