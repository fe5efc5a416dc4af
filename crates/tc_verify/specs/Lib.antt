pub mod Inputs
pub mod Verdicts
pub mod RunTexts
pub mod Texts
pub mod Judgements
