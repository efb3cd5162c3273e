mod Texts
mod Merges
mod Totals
mod Holding
mod Working
mod Serving
