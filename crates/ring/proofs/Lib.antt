pub mod Steps
pub mod EitherOrder
pub mod Laws
pub mod RingSet
