pub mod Wide
pub mod Chains
mod Found
pub mod PlansKnown
pub mod ElementPlaces
