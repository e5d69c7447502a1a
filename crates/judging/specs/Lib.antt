-- What a line's numbers say of each rule.
pub mod Judging
