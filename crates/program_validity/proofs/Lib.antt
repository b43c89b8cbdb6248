mod Lists
mod Converted
mod Contents
mod Numbers
mod Known
mod Declared
mod Members
mod Spelled
pub mod LawsLimits
pub mod LawsFunctions
pub mod LawsGlobals
pub mod LawsObjects
pub mod LawsTypes
pub mod LawsFields
pub mod LawsSpelled
mod Counted
mod Printing
mod Agreeing
mod Expressions
mod Calls
mod Parts
mod Inits
mod Effects
mod Undeclared
mod Seen
mod Cases
mod Marks
mod Statements
mod Files
mod Definitions
mod Heads
mod Programs
mod Limited
pub mod LawsBodies
pub mod LawsValid
mod Fitting
pub mod LawsWritten
pub mod LawsShort
pub mod LawsText
