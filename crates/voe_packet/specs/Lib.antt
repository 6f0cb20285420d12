pub mod Words
pub mod Params
pub mod Parts
pub mod Shown
pub mod Drafts
pub mod DraftTokens
