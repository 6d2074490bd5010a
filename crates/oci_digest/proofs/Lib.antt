pub mod Accepts
pub mod Algorithms
pub mod Compared
pub mod DigestLemmas
pub mod HashBytes
pub mod HexOrder
pub mod HexText
