pub mod FirstRows
