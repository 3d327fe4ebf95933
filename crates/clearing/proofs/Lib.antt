pub mod Offering
pub mod Cheap
pub mod Only
pub mod Standing
pub mod Reweighed
pub mod Halved
pub mod Calling
