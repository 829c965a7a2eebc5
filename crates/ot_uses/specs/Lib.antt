-- What a reader of the contracts has to believe: what each theorem of a run rests on, and its text.
pub mod Used
pub mod Sound
pub mod Suffices
pub mod Texts
pub mod Placing
pub mod Ready
pub mod Picked
