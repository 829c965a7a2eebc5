-- What a reader has to believe of the text of what a log proves.
pub mod Summaries
