-- Words of a broker's run.
pub mod Back
pub mod Course
pub mod Doors
pub mod Run
pub mod Talks
