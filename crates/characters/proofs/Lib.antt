-- Laws of a walk along a line: the classes, the states and their table, runs of ASCII, a turn.
pub mod Laws
