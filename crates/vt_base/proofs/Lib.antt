pub mod FieldWriting
mod ScoreTexts
