pub mod AtFault
pub mod Faults
pub mod Printing
pub mod Registers
pub mod Writes
