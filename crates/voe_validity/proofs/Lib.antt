pub mod AnyOf
pub mod Least
pub mod Once
