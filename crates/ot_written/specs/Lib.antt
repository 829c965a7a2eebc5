-- What a reader of the contracts has to believe: what exports need, and the text of their written article.
pub mod Same
pub mod Needed
pub mod Written
pub mod Uses
pub mod Bytes
pub mod Laws
