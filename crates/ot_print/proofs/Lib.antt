-- The pieces of texts that the printers put on a page.
pub mod Separating
pub mod Spelled
pub mod Pieces
-- The law: the text of a definition, followed by further bytes, gives back the definition and these bytes.
pub mod DefinitionParts
pub mod DefinitionLaw
pub mod AcceptedPremises
