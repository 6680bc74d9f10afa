-- What each call comes to, that it gives the lowest number that applies, and that no call hands back a node that is not well formed.
pub mod Deliver
pub mod DeliverRead
pub mod Query
pub mod Start
pub mod Numbers
pub mod WellFormedNodes
pub mod QueryLowest
pub mod StartLowest
pub mod LeftSeats
pub mod DeliverApplies
pub mod DeliverLowest
pub mod Lowest
