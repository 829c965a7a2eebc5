-- How the code of the writer makes the text.
mod Putting
mod Keys
mod Moving
mod Exports
mod Marking
mod ByCounts
mod Taking
