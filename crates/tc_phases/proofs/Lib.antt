mod Unused
mod Removals
mod Outcomes
