-- An author.
pub mod Author
