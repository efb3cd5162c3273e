mod Constants
mod Words
mod Forms
mod Drafts
mod Scripts
mod Reports
