mod Bits
mod SameMarks
mod SameObject
