-- What a reader of the contracts has to believe: the matches of a pattern among the exports of sources, and their
-- text.
pub mod Matches
pub mod Texts
