pub mod Framed
pub mod NamesIn
pub mod Numbers
pub mod ReadBack
pub mod RepliesBack
pub mod Strings
pub mod Writes
