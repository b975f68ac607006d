-- What the two checks of a packet are.

pub mod Checksum
pub mod Crc
