-- Interpretations.
pub mod Interpretation
