-- Words of tables of rows.
pub mod Sections
pub mod Cites
pub mod Meaning
