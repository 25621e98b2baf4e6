pub mod Servers
pub mod Laws
