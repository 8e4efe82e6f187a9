pub mod OneMore
pub mod LinesSame
pub mod AtRest
