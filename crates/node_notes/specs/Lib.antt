-- Payloads of configurations and notes.
pub mod Forms
pub mod Held
pub mod Open
pub mod Reading
pub mod Spelling
pub mod Tells
