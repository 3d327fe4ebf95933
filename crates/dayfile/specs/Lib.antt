pub mod Faults
pub mod Files
pub mod Account
pub mod Parts
pub mod Printed
