-- What the program answers.
pub mod Racks
pub mod Lines
pub mod Outcomes
pub mod Documents
pub mod Inits
pub mod Matches
pub mod Nets
pub mod Lending
pub mod Hindered
pub mod Wanted
pub mod Safety
pub mod Answers
pub mod Prepared
