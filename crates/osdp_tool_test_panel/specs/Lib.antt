pub mod Rules
pub mod Table
pub mod Lines
pub mod Faults
pub mod Tests
pub mod TheLine
