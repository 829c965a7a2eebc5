mod Lines
mod Counting
