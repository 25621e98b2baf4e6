pub mod Due
pub mod KernelOf
pub mod Turns
pub mod Promises
pub mod ChainOf
pub mod Fresh
