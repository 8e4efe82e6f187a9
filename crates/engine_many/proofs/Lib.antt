pub mod Changed
pub mod NewTasks
pub mod TablesOfScripts
pub mod WholeFloors
