-- The program: lines of text, runs, logs, verdicts, and replies.
pub mod TextLemmas
pub mod Worlds
pub mod TaskEnds
pub mod InputLemmas
pub mod LimitLemmas
pub mod RunLemmas
pub mod SampleLemmas
pub mod LogLemmas
pub mod NotedLemmas
pub mod ReadingLemmas
pub mod FindingLemmas
pub mod VerdictLemmas
pub mod ReplyLemmas
pub mod Options
pub mod SoundAnswers
