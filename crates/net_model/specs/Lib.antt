-- the definitions of the network
pub mod Rules
pub mod Notes
pub mod Steps
pub mod Nodes
pub mod Flights
pub mod Connections
pub mod Rounds
pub mod Runs
pub mod Laws
pub mod Draining
pub mod Shape
pub mod Traffic
