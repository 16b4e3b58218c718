mod Filling
mod Made
mod OctetLimbs
mod SameWords
mod Shifts
