-- The word of a shared pool: histories, the numbers of desks, each kind of step keeps the rule, and what seats know after it.
pub mod Histories
pub mod Numbers
pub mod Keeping
pub mod Seated
pub mod Desks
pub mod Served
