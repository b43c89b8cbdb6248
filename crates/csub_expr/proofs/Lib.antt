pub mod LawsTokens
pub mod LawsAnswers
pub mod LawsLocal
pub mod LawsLists
pub mod LawsExpressions
mod SameWords
mod Taken
mod Places
mod Spelled
mod ExprSound
mod ExprLocal
mod ExprReads
mod UnaryComplete
mod ChainComplete
mod ExprComplete
mod Unrolled
mod InitLaws
