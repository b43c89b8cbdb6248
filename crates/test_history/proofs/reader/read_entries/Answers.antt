use Rattle.std.proofs.Common.{◌≡◌, ◌≢◌, ◌∙◌, ◌++◌, ◌∷◌, [], length, length-append, sym, ap, subst, arith}
use Rattle.std.specs.List.{AllPairs}
use Rattle.std.proofs.lemmas.List.Elements.{All-push}
use Rattle.test_history.specs.Faults.{IsGoodEntry}
use Rattle.test_history.specs.Histories.{names_of}
use Rattle.test_history.proofs.WholeLemmas.{entries_fault, more_entry, names_more, apart_more}
use Rattle.test_history.proofs.reader.read_entries.Goals as goal

pub returns-in-Err-clause-refusal : goal.returns-in-Err-clause-refusal
returns-in-Err-clause-refusal c =
    let count : c.loop-place.place ≡ length c.loop-place.entries.items = sym c.loop-place.invariant.count in
    rw (c.refusal_after.ensures, count)
    (entries_fault c.args.version c.args.text.now c.loop-place.rest.now c.args.edges c.args.tests c.loop-place.entries.items _ c.in-Err.fault c.loop-place.invariant.rest c.loop-place.invariant.good c.loop-place.invariant.apart
    (omega (arith, count, c.loop-place-test.true)) c.loop-place.invariant.names c.in-Err.ensures.fault)

pub loop-place-preserved : goal.loop-place-preserved
loop-place-preserved c =
    let new = rw c.loop-place.invariant.names at c.in-Ok.ensures.new in
    rw c.in-Ok-push.ensures.items (record {
      count = omega (arith, length-append c.loop-place.entries.items (c.in-Ok.entry ∷ []), c.loop-place.invariant.count);
      rest = more_entry c.args.version c.args.text.now c.loop-place.rest.now c.in-Ok.left.now c.loop-place.entries.items c.in-Ok.entry c.loop-place.invariant.rest c.in-Ok.ensures.rest;
      good = All-push (IsGoodEntry c.args.edges) c.loop-place.entries.items c.in-Ok.entry c.loop-place.invariant.good c.in-Ok.ensures.good;
      names = c.in-Ok.ensures.names ∙ ap (λ names. names ++ c.in-Ok.entry.test.name ∷ []) c.loop-place.invariant.names ∙ names_more c.loop-place.entries.items c.in-Ok.entry;
      apart = subst (AllPairs (λ name other. name ≢ other)) (names_more c.loop-place.entries.items c.in-Ok.entry)
          (apart_more (names_of c.loop-place.entries.items) c.in-Ok.entry.test.name c.loop-place.invariant.apart new);
    })
