pub mod Text
pub mod Lines
pub mod ReadTexts
pub mod Answers
pub mod Machine
pub mod Reading
