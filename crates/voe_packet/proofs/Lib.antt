pub mod Identifiers
pub mod ValidParts
pub mod Written
pub mod DraftTrees
pub mod Spelled
pub mod Short
