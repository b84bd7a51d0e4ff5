mod Words
pub mod HexWords
pub mod WordsLemmas
pub mod EventLaws
pub mod SpellingWords
pub mod SpellingLaws
