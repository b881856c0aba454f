pub mod AcceptsWritten
pub mod GoodReads
pub mod Numbers
pub mod Spans
pub mod Tables
pub mod WrittenNumbers
pub mod WrittenPlaces
pub mod WrittenStatements
