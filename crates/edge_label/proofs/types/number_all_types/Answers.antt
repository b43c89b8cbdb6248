use Rattle.std.proofs.Common.{subst₂, sym}
use Rattle.std.proofs.lemmas.Result.{IfOk-weaker}
use Rattle.edge_label.specs.declared.structs.TagNumbers.{TagNumbers}
use Rattle.edge_label.specs.Known.{AreStructs, AreKnown}
use Rattle.edge_label.specs.Tables.{AreTables}
use Rattle.edge_label.proofs.KnownLemmas.{none_known, no_tags}
use Rattle.edge_label.proofs.types.number_all_types.Goals as goal
use Rattle.edge_label.proofs.types.number_all_types.Goals.{After-drop-known-6}

-- no tag is known at first
abbrev tags : After-drop-known-6 → TagNumbers
tags c = c.new-3.result

structs : (c : After-drop-known-6) → AreTables c.args.tables.now → AreStructs c.requires.declared.0.by_tag c.args.tables.now.structs (tags c)
structs c sound = no_tags c.args.tables.now.structs c.requires.declared.0.by_tag (tags c) c.new-3.ensures.none sound.structs

pub returns-clause-typed : goal.returns-clause-typed
returns-clause-typed c =
    let d = c.requires.declared.0 in
    let known : AreKnown c.args.tables.now d c.new.result c.new-2.result.items =
    subst₂ (λ names numbers. AreKnown c.args.tables.now d names numbers) (sym c.new.ensures) (sym c.new-2.ensures.items) (none_known c.args.tables.now d) in
    IfOk-weaker c.type_labels.result _ _ (λ rows typed sound. typed d c.requires.declared.1 (structs c sound) known) c.type_labels.ensures.typed

pub returns-clause-sound : goal.returns-clause-sound
returns-clause-sound c = λ sound.
    let after = c.type_labels.ensures.structs c.requires.declared.0 c.requires.declared.1 (structs c sound) in
    record { structs = after.table; parts = c.type_labels.ensures.once sound.parts }
