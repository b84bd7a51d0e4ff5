-- A fresh schedule, delivery by delivery.
pub mod Counted
pub mod Brought
pub mod Pair
pub mod Ground
pub mod Course
pub mod PairStages
pub mod PairAfter
pub mod PairSteps
pub mod Direct
pub mod PairBoards
pub mod First
pub mod FirstGround
pub mod FirstBoards
pub mod PairStart
pub mod Alone
