pub mod Number
pub mod Words
pub mod Values
pub mod Shapes
pub mod Flat
pub mod Laws
