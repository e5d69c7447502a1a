-- Laws of the walk: a step along all the lines, the fault of a line, and what is left of the faults.
pub mod Steps
pub mod OneFault
pub mod Walk
