-- Words that ask for something.
pub mod Network
pub mod Requests
