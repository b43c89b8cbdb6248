use Rattle.std.proofs.Common.{◌≡◌, ◌∙◌, ◌<◌, ◌≤◌, length, Some, ap, sym, subst, arith, rules, slice_get}
use Rattle.std.proofs.lemmas.Option.{slice_get-get_or}
use Rattle.edge_label.specs.Known.{named_code, AreKnown}
use Rattle.edge_label.specs.Uses.{use_tree}
use Rattle.edge_label.proofs.KnownLemmas.{number_of_use, use_number, found_number, still_known, now_known, known_stays}
use Rattle.edge_label.proofs.TableLemmas.{Extend-refl}
use Rattle.edge_label.proofs.types.find_number.Goals as goal

pub returns-then-place-len-clause-found : goal.returns-then-place-len-clause-found
returns-then-place-len-clause-found c = λ d declared structs known.
    let used = use_tree c.args.used in
    let numbers = c.args.known.now.numbers in
    let name = c.push_named.new.out.items in
    let at : c.in_ok-place.place < length numbers.items = omega (arith, c.if-place-len.true, c.len.ensures, numbers.ok.0) in
    let numbered : slice_get numbers.items c.in_ok-place.place ≡ Some c.index.result.now =
    slice_get-get_or numbers.items c.in_ok-place.place c.index.result.now at ∙ ap Some (sym c.index.ensures) in
    let same : name ≡ named_code c.args.function used.named = search rules in
    let found =
    found_number c.args.tables.now d c.args.known.now.names c.number.new.self numbers.items name c.in_ok-place.place known c.in_ok-place.ensures.adds c.in_ok-place.ensures.number c.index.result.now numbered in (
      number_of_use c.args.tables.now d c.args.function used name c.index.result.now same found declared.0,
      still_known c.args.tables.now d c.args.known.now.names c.number.new.self numbers.items name c.in_ok-place.place known c.in_ok-place.ensures.adds c.in_ok-place.ensures.number (c.in_ok-place.ensures.once known.once) at,
    )

pub returns-clause-found : goal.returns-clause-found
returns-clause-found c = λ d declared structs known.
    let used = use_tree c.args.used in
    let numbers = c.args.known.now.numbers in
    let name = c.push_named.new.out.items in
    let tables = c.number_type.new.tables in
    let past : length numbers.items ≤ c.in_ok-place.place = omega (arith, c.if-place-len.false, c.len.ensures, numbers.ok.0) in
    let same : name ≡ named_code c.args.function used.named = search rules in
    let still = known_stays c.args.tables.now tables d c.args.known.now.names numbers.items c.in_ok-number.ensures.grows known in
    let has = c.in_ok-number.ensures.number d.by_tag (λ _. declared.1) structs in
    let is = use_number tables d c.args.function used name c.in_ok-number.number same has declared.0 in
    let now = now_known tables d c.args.known.now.names c.number.new.self numbers.items name c.in_ok-place.place still c.in_ok-place.ensures.adds c.in_ok-place.ensures.number (c.in_ok-place.ensures.once known.once) past c.in_ok-number.number is in
    (has, subst (λ ns. AreKnown tables d c.number.new.self ns) (sym c.in_ok-push.ensures.items) now)

pub returns-clause-structs : goal.returns-clause-structs
returns-clause-structs c = λ d declared structs. c.in_ok-number.ensures.structs d.by_tag (λ _. declared.1) structs

pub returns-in_err-push_named-clause-grows : goal.returns-in_err-push_named-clause-grows
returns-in_err-push_named-clause-grows c = Extend-refl c.args.tables.now

pub returns-in_err-place-clause-grows : goal.returns-in_err-place-clause-grows
returns-in_err-place-clause-grows c = Extend-refl c.args.tables.now

pub returns-then-place-len-clause-grows : goal.returns-then-place-len-clause-grows
returns-then-place-len-clause-grows c = Extend-refl c.args.tables.now

pub returns-in_err-number-clause-structs : goal.returns-in_err-number-clause-structs
returns-in_err-number-clause-structs c = λ d declared structs. c.in_err-number.ensures.structs d.by_tag (λ _. declared.1) structs

pub returns-in_err-push-clause-structs : goal.returns-in_err-push-clause-structs
returns-in_err-push-clause-structs c = λ d declared structs. c.in_ok-number.ensures.structs d.by_tag (λ _. declared.1) structs
