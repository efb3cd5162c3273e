-- Lists of node numbers, the links of one list, and chains of numbers. For callers too.
pub mod OneList
pub mod AllLists
pub mod Counting
pub mod ListLinks
pub mod Positions
