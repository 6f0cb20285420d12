-- lemmas on links that were taken back
pub mod Backs
-- lemmas on the parts of a world over a run
pub mod Courses
-- a run that has served, put together
pub mod Served
-- the talk of a connection that was served
pub mod Talked
