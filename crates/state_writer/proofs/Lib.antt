mod Words
mod Sequence
mod TellsOne
mod FirstFacts
mod Voids
mod AtNode
mod Walking
mod LetOut
