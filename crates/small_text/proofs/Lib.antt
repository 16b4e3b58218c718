mod Cutting
mod Digits
mod PartCutting
mod PartPlaces
mod PartRuns
