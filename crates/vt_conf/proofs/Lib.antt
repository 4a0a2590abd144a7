pub mod AddressTexts
pub mod LineSettings
pub mod LineWords
pub mod Meanings
pub mod NumberTexts
pub mod SizeTexts
pub mod TextLines
