-- Lemmas on proof logs.
pub mod StepSound
pub mod DefinitionSound
pub mod StateSound
pub mod CheckSound
pub mod Walking
pub mod Firsts
