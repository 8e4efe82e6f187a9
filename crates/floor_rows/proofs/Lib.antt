mod CellsStayDrawn
mod KnownLater
mod LatestCalls
mod NothingKnown
mod SelectsOwnWaits
mod TwoCounters
mod WaitsBegun
