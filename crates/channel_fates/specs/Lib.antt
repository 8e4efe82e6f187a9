pub mod OneFate
pub mod Places
