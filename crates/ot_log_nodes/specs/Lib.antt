-- What a reader of the contracts has to believe of the table of names, types and terms.
pub mod Items
pub mod Below
pub mod Table
pub mod Shapes
pub mod Changing
pub mod Lists
pub mod Places
pub mod Typing
