pub mod HistoriesGoOn
pub mod StatesStaySound
pub mod WordsTell
pub mod MayAct
pub mod PassesTell
pub mod NewGates
pub mod GateLaws
