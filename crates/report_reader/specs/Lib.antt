pub mod Words
pub mod Forms
pub mod Reports
pub mod Reading
