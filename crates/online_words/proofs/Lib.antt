-- Lemmas on words that ask for something.
pub mod Asking
