pub mod LawsTakes
pub mod LawsSequences
pub mod LawsLoops
pub mod LawsDeclarations
pub mod LawsStatements
mod ExpressionEnds
mod BaseSound
mod DeclarationSound
mod DeclarationLocal
mod DeclarationOpens
mod DeclarationComplete
mod StatementShapes
mod StatementParts
mod StatementMade
mod StatementSound
mod StatementLocal
mod StatementOpens
mod StatementComplete
mod Plain
