pub mod PassesStayOwn
pub mod RangersHaveRoom
