mod Words
mod Lines
mod TryByTry
