pub mod Bare
pub mod Texts
pub mod Undo
pub mod Exact
pub mod Again
pub mod Grammar
pub mod Accepted
pub mod Promises
