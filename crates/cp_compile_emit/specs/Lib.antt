pub mod PlainNeeds
pub mod Emission
pub mod Arms
pub mod Drafts
pub mod Planning
pub mod Members
pub mod ComponentPlans
