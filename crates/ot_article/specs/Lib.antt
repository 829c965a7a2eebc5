-- What a written article does: it runs alone, exports the same, and has what is needed and nothing else.
pub mod Article
