pub mod WaitsGo
pub mod SelectsGo
pub mod HandsOver
