mod Words
mod VerdictViews
mod VerdictFacts
mod DisturbedFacts
mod WayViews
mod WayFacts
pub mod OriginViews
pub mod OriginFacts
pub mod DishonestFacts
mod StormViews
mod StormFacts
mod EasedFacts
mod FirstPacketViews
mod FirstPacketFacts
mod NativeViews
mod NotLate
mod NativeNodes
mod NativeFacts
mod UncarriedFacts
mod ToNativeViews
mod ToNativeFacts
mod UnbroughtFacts
mod NumberFacts
mod ReachFacts
mod FinerFacts
mod WordViews
mod ComingViews
mod WithinFacts
mod OtherwiseFacts
mod ShutFacts
mod MovedFacts
mod SenderViews
mod OutsideViews
mod OutsideFacts
mod ExplainFacts
