-- What nodes of a kernel's types and terms stand for, and the binders around a term.
pub mod Nodes
pub mod Binders
