-- Declarations, members and parameters: what is read is spelled so, what is spelled so is read, and an answer depends on the tokens
-- taken and on the one after them. And what every spelling of one has.
-- a number type: what is read, what is spelled, what doesn't begin with one
pub use Rattle.csub_stmt.proofs.BaseSound.{numeric_sound}
pub use Rattle.csub_stmt.proofs.DeclarationOpens.{numeric_reads, number_opens}
-- spellings of types, declarations and members have tokens, and members don't begin with a closing brace
pub use Rattle.csub_stmt.proofs.BaseSound.{base_some, decl_some, field_some}
pub use Rattle.csub_stmt.proofs.DeclarationOpens.{field_opens}
-- where tokens begin, and the place from the first to the last
pub use Rattle.csub_stmt.proofs.BaseSound.{starts_at, span_from}
pub use Rattle.csub_stmt.proofs.DeclarationOpens.{span_again}
-- what is read is spelled so: a declaration behind its first name or its type, members, parameters
pub use Rattle.csub_stmt.proofs.DeclarationSound.{decl_after_sound, decl_behind_sound, field_sound, field_shorter, params_sound}
-- what is spelled so is read
pub use Rattle.csub_stmt.proofs.DeclarationComplete.{row_behind, decl_behind_reads, field_reads, params_reads}
-- an answer depends on the tokens taken and on the one after them
pub use Rattle.csub_stmt.proofs.DeclarationLocal.{same_begins_name, local_start, local_numeric, local_decl_after, local_decl_behind, local_field, local_params}
