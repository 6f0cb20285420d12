-- Words of the adapters.
pub mod Reading
pub mod Writing
