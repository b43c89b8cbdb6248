use Rattle.std.proofs.Common.{◌∙◌, None, true≢false, sym}
use Rattle.std.proofs.lemmas.Result.{IfOk-weaker}
use Rattle.edge_label.specs.Uses.{Tags}
use Rattle.edge_label.proofs.KnownLemmas.{none_trusted}
use Rattle.edge_label.proofs.types.number_use.Goals as goal

-- nothing is declared
abbrev no_tags : Tags
no_tags tag = None

pub returns-clause-number : goal.returns-clause-number
returns-clause-number c =
    IfOk-weaker c.number_type.result _ _
    (λ n has sound. has no_tags (λ trusted. absurd (true≢false (sym trusted ∙ c.new-tags.ensures.trusted))) (none_trusted c.args.tables.now.structs no_tags _ c.new-tags.ensures.trusted sound.structs))
    c.number_type.ensures.number

pub returns-clause-sound : goal.returns-clause-sound
returns-clause-sound c = λ sound.
    let after = c.number_type.ensures.structs no_tags (λ trusted. absurd (true≢false (sym trusted ∙ c.new-tags.ensures.trusted))) (none_trusted c.args.tables.now.structs no_tags _ c.new-tags.ensures.trusted sound.structs) in
    record { structs = after.table; parts = c.number_type.ensures.once sound.parts }
