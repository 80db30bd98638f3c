pub mod Turns
pub mod Detections
pub mod Agree
pub mod Coincidences
pub mod SoFar
pub mod Leaders
