pub mod Places
pub mod ReferencePlaces
pub mod UnusedPlaces
