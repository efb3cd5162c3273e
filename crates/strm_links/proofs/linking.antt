-- Doubly linked lists in one arena: what each changing call of `Links` leaves.
pub mod Carried
pub mod StoredRows
pub mod Changes
pub mod TableCalls
