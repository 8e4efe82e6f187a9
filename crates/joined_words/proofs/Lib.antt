pub mod OrdersGoOn
pub mod PartsOfLists
pub mod PartsOfSteps
pub mod PartsOfTables
pub mod PointsOfAnOrder
