pub mod Figures
pub mod Judging
pub mod Plans
pub mod Wires
