use Rattle.std.proofs.Common.{◌≡◌, ◌∙◌, ◌++◌, ap}
use Rattle.std.proofs.lemmas.Result.{IfOk-weaker}
use Rattle.csub_semantics.specs.Types.{global_tree}
use Rattle.edge_label.specs.declared.table.Tables.{Tables}
use Rattle.label_code.specs.Codes.{global_code, numbered, with_type}
use Rattle.edge_label.proofs.TableLemmas.{parts_extend, global_numbered, Extend-trans}
use Rattle.edge_label.proofs.globals.number_global.Goals as goal

pub returns-clause-number : goal.returns-clause-number
returns-clause-number c =
    let global = global_tree c.args.global.now in
    let typed = c.number_ctype.new.tables in
    let tables : Tables = record { structs = typed.structs; parts = c.number.new.self } in
    let code = global_code (with_type global (numbered c.in_ok-ctype.ctype)) in
    let is : c.push_global.new.out.items ≡ code = c.in_ok-push_global.ensures ∙ ap (λ old. old ++ code) c.new-code.ensures.items in
    IfOk-weaker c.number.result _ _
    (λ n at by_tag tagged structs. global_numbered typed tables global c.push_global.new.out.items c.in_ok-ctype.ctype n (parts_extend typed c.number.new.self c.push_global.new.out.items c.number.ensures.adds)
    (c.in_ok-ctype.ensures.number by_tag tagged structs) is at)
    c.number.ensures.number

pub returns-clause-grows : goal.returns-clause-grows
returns-clause-grows c =
    let typed = c.number_ctype.new.tables in
    let tables : Tables = record { structs = typed.structs; parts = c.number.new.self } in
    Extend-trans c.args.tables.now typed tables c.in_ok-ctype.ensures.grows (parts_extend typed c.number.new.self c.push_global.new.out.items c.number.ensures.adds)
