pub mod Books
pub mod Items
