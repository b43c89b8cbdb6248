pub use Rattle.csub_semantics.specs.Types
pub use Rattle.csub_semantics.specs.Trees
pub use Rattle.csub_semantics.specs.Labels
pub use Rattle.csub_semantics.specs.Syntax
pub use Rattle.csub_semantics.specs.Globals
pub use Rattle.csub_semantics.specs.Flows
pub mod Valid
