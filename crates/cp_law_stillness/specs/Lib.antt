pub mod Stillness
pub mod Laws
