-- Words of remarks.
pub mod Remarks
pub mod Oddities
pub mod RemarkList
pub mod Judging
