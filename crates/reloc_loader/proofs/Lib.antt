mod Order
mod Words
mod Images
mod Tables
mod Filling
mod Placed
mod RowLemmas
mod Cleared
