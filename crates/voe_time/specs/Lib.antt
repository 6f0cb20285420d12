-- Words of times.
pub mod Stamp
