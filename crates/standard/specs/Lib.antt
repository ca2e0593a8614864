pub mod Numbers
pub mod Channel
pub mod Detector
pub mod Mixing
pub mod Interpolation
pub mod Hybrid
pub mod Core
pub mod Isolation
