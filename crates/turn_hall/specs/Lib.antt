pub mod Hands
pub mod Rule
pub mod Passes
pub mod Places
pub mod PlacesLaws
