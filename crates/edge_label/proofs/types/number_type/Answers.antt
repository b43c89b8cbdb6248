use Rattle.std.proofs.Common.{subst}
use Rattle.std.proofs.lemmas.Result.{IfOk-weaker}
use Rattle.edge_label.specs.declared.table.Tables.{Tables}
use Rattle.edge_label.specs.Structs.{AppendsType}
use Rattle.edge_label.specs.Uses.{use_tree}
use Rattle.edge_label.proofs.TableLemmas.{type_numbered, Extends-refl, Extends-added}
use Rattle.edge_label.proofs.types.number_type.Goals as goal

pub returns-clause-number : goal.returns-clause-number
returns-clause-number c =
    let structs = c.push_use.new.structs in
    let tables : Tables = record { structs = structs; parts = c.number.new.self } in
    let ctype = (use_tree c.args.used).ctype in
    let code = c.push_use.new.out.items in
    IfOk-weaker c.number.result _ _
    (λ n at by_tag tagged are. type_numbered tables ctype code n
    (subst (λ old. AppendsType structs ctype old code) c.new-code.ensures.items (c.in_ok-push_use.ensures.short by_tag tagged are)) at)
    c.number.ensures.number

pub returns-in_err-push_use-clause-grows : goal.returns-in_err-push_use-clause-grows
returns-in_err-push_use-clause-grows c = record { structs = c.in_err-push_use.ensures.grows; parts = Extends-refl c.args.tables.now.parts }

pub returns-clause-grows : goal.returns-clause-grows
returns-clause-grows c = record {
  structs = c.in_ok-push_use.ensures.grows;
  parts = Extends-added c.args.tables.now.parts c.number.new.self c.push_use.new.out.items c.number.ensures.adds;
}
