-- the definitions of the network that code steps
pub mod Ends
pub mod Works
pub mod Counts
pub mod Owed
pub mod Parts
pub mod Index
pub mod Machine
pub mod Start
pub mod AtEnds
pub mod Steppers
pub mod Wires
pub mod Stops
pub mod Events
pub mod Report
pub mod Summary
