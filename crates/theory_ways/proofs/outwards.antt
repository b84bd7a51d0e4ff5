-- What NATs let out.
pub mod Latest
pub mod Asks
pub mod Same
pub mod Passed
pub mod Spared
pub mod NewOuts
pub mod LetOut
pub mod StillAsks
pub mod Fresh
pub mod Others
pub mod CameFrom
pub mod NoneOut
pub mod OpenNats
pub mod WentOut
pub mod Held
pub mod Lasting
