use Rattle.std.proofs.Common.{◌≡◌, ◌∙◌, sym, ap, cond, Some, is_some}
use Rattle.std.specs.Str.{bytes_eq}
use Rattle.csub_semantics.specs.Types.{global_tree}
use Rattle.edge_label.proofs.IndexLemmas.{number_of, first_stays, first_added}
use Rattle.edge_label.proofs.TableLemmas.{Extend-refl}
use Rattle.edge_label.proofs.globals.add_number.Goals as goal

pub returns-then-contains_key-clause-numbers : goal.returns-then-contains_key-clause-numbers
returns-then-contains_key-clause-numbers c = λ by_tag before tagged structs index.
    let held = number_of c.args.numbers.now.by_name.entries in
    let known : c.contains_key.result ≡ is_some (held c.args.global.now.name) = c.contains_key.ensures ∙ ap (λ name. is_some (held name)) c.bytes-name.ensures in
    first_stays before (global_tree c.args.global.now) c.args.tables.now held index (sym known ∙ c.if-contains_key.true)

pub returns-clause-numbers : goal.returns-clause-numbers
returns-clause-numbers c = λ by_tag before tagged structs index.
    let held = number_of c.args.numbers.now.by_name.entries in
    let known : c.contains_key.result ≡ is_some (held c.args.global.now.name) = c.contains_key.ensures ∙ ap (λ name. is_some (held name)) c.bytes-name.ensures in
    first_added before (global_tree c.args.global.now) c.args.tables.now c.number_global.new.tables c.in_ok-number.number held (number_of c.insert.new.self.entries)
    c.in_ok-number.ensures.grows (c.in_ok-number.ensures.number by_tag tagged structs) index (sym known ∙ c.if-contains_key.false)
    (λ name. c.in_ok-insert.ensures.updates.0 (record { ref_ptr = c.bytes-name.result.ref_ptr; now = name })
    ∙ ap (λ key. cond (bytes_eq key name) (Some c.in_ok-number.number) (held name)) c.bytes-name.ensures)

pub returns-then-contains_key-clause-grows : goal.returns-then-contains_key-clause-grows
returns-then-contains_key-clause-grows c = Extend-refl c.args.tables.now
