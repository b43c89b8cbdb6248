pub mod Looks
pub mod Answers
pub mod ListDescent
pub mod ExprDescent
pub mod InitDescent
pub mod Laws
