-- What Transport messages are.
pub mod Roles
pub mod Parts
pub mod Reading
pub mod Spelling
pub mod Rooted
pub mod Showing
pub mod Sizes
