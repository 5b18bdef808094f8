-- What the functions of this program cite.
pub mod Hex
pub mod Signed
