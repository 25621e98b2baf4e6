pub mod After
pub mod Later
pub mod Rest
pub mod ListedParts
pub mod Laws
