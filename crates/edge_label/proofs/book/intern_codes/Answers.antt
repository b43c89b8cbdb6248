use Rattle.std.proofs.Common.{◌≡◌, ◌+◌, ◌∙◌, ◌++◌, ◌∷◌, [], sym, ap, subst, subst₂, map, take}
use Rattle.std.proofs.lemmas.List.{map_more, take_all}
use Rattle.csub_semantics.specs.Labels.{PointLabel, label_tree}
use Rattle.edge_label.specs.declared.types.Typed.{Typed}
use Rattle.edge_label.specs.Numbers.{HaveNumbers, whole}
use Rattle.edge_label.specs.Tables.{label_in, Grows}
use Rattle.edge_label.proofs.BookLemmas.{more_codes, one_more_code}
use Rattle.edge_label.proofs.CodeLemmas.{codes}
use Rattle.edge_label.proofs.KnownLemmas.{typed_at}
use Rattle.edge_label.proofs.book.intern_codes.Goals as goal

pub returns-in_err-number-clause-grows : goal.returns-in_err-number-clause-grows
returns-in_err-number-clause-grows c = λ tables globals typed index book.
    subst (λ keys. Grows tables (codes c.args.codes.now.keys) (codes keys)) (sym c.in_err-number.ensures.err) (c.loop-typed.invariant.grows tables globals typed index book)

pub returns-in_err-push-clause-grows : goal.returns-in_err-push-clause-grows
returns-in_err-push-clause-grows c = λ tables globals typed index book.
    let before = c.loop-typed.invariant.grows tables globals typed index book in
    let are = typed_at tables c.args.labels.now c.loop-typed.typed-index c.typed-item.result c.deref.result.now c.loop-typed-test.true c.typed-item.is c.deref.ensures.value typed in
    more_codes tables (codes c.args.codes.now.keys) (codes c.loop-typed.codes.keys) (codes c.intern_code.new.codes.keys) c.in_ok-number.number _ before (c.in_ok-number.ensures.interned tables globals are index before.book)

pub loop-typed-preserved : goal.loop-typed-preserved
loop-typed-preserved c = record {
  numbers = λ tables globals typed index book.
      let before = c.loop-typed.invariant.grows tables globals typed index book in
      let are = typed_at tables c.args.labels.now c.loop-typed.typed-index c.typed-item.result c.deref.result.now c.loop-typed-test.true c.typed-item.is c.deref.ensures.value typed in
      let label_of : Typed → PointLabel = λ t. whole globals (label_tree t.label.now) in
      let place = c.loop-typed.typed-index in
      let done = map label_of (take place c.args.labels.now) in
      let more : map label_of (take (place + 1) c.args.labels.now) ≡ done ++ label_of c.typed-item.result ∷ [] =
      map_more label_of c.args.labels.now place c.typed-item.result c.loop-typed-test.true ∙ ap (λ label. done ++ label_of label ∷ []) (sym c.typed-item.is) in
      subst₂ (λ numbers given. HaveNumbers (map (label_in tables) (codes c.intern_code.new.codes.keys)) numbers given) (sym c.in_ok-push.ensures.items) (sym more)
      (one_more_code tables (codes c.loop-typed.codes.keys) (codes c.intern_code.new.codes.keys) c.loop-typed.row.items done c.in_ok-number.number (label_of c.typed-item.result)
      (c.in_ok-number.ensures.interned tables globals are index before.book) (c.loop-typed.invariant.numbers tables globals typed index book));
  grows = λ tables globals typed index book.
      let before = c.loop-typed.invariant.grows tables globals typed index book in
      let are = typed_at tables c.args.labels.now c.loop-typed.typed-index c.typed-item.result c.deref.result.now c.loop-typed-test.true c.typed-item.is c.deref.ensures.value typed in
      more_codes tables (codes c.args.codes.now.keys) (codes c.loop-typed.codes.keys) (codes c.intern_code.new.codes.keys) c.in_ok-number.number _ before (c.in_ok-number.ensures.interned tables globals are index before.book);
}

pub returns-clause-numbers : goal.returns-clause-numbers
returns-clause-numbers c = λ tables globals typed index book.
    let label_of : Typed → PointLabel = λ t. whole globals (label_tree t.label.now) in
    subst (λ given. HaveNumbers (map (label_in tables) (codes c.loop-typed.codes.keys)) c.loop-typed.row.items (map label_of given)) (take_all c.loop-typed.typed-index c.args.labels.now c.loop-typed-test.false)
    (c.loop-typed.invariant.numbers tables globals typed index book)

pub returns-clause-grows : goal.returns-clause-grows
returns-clause-grows c = c.loop-typed.invariant.grows
