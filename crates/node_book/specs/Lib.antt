-- What a book keeps, and how it fails.
pub mod Book
pub mod Fault
pub mod Index
pub mod Keeps
pub mod Making
pub mod Reading
pub mod Records
pub mod Ends
pub mod EndSteps
pub mod EndMaking
