-- What is wanted, and what holds of a run.
pub mod Places
pub mod SafeRuns
pub mod Wants
pub mod Ran
pub mod Judged
pub mod Choices
pub mod Rightness
pub mod Once
pub mod Origins
pub mod Counted
pub mod Sizes
pub mod Room
