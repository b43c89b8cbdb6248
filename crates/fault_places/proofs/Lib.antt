mod Rising
mod Lists
mod SpelledExpressions
mod SpelledDeclarations
mod SpelledStatements
pub mod LawsSpelled
mod Told
mod ToldExpressions
mod ToldDeclarations
mod ToldStatements
mod ToldItems
pub mod LawsFaults
pub mod LawsPlaces
