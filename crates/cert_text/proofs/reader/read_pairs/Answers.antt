use Rattle.std.proofs.Common.{◌+◌, ◌∷◌, [], codes, length-append, None, sym, subst, arith}
use Rattle.std.specs.Fmt.{decimal}
use Rattle.std.proofs.lemmas.List.Elements.{All-push}
use Rattle.cert_text.specs.Certificates.{IsAfter, IsBefore, IsBelow}
use Rattle.cert_text.specs.CertificateTexts.{pair_line}
use Rattle.line_text.specs.Values.{value_line}
use Rattle.cert_text.specs.Rules.{IsFirstFault}
use Rattle.cert_text.proofs.ItemLemmas.{last_of, last_of-push, rise-push}
use Rattle.cert_text.proofs.PairLemmas.{pair_fault, lines_more}
use Rattle.cert_text.proofs.SameLemmas.{IsSmall}
use Rattle.cert_text.proofs.WholeLemmas.{pairs_count_fault}
use Rattle.cert_text.proofs.reader.read_pairs.Goals as goal

pub returns-in_default-clause-refusal : goal.returns-in_default-clause-refusal
returns-in_default-clause-refusal c = λ text says read. pairs_count_fault c.args.bounds text c.args.text.now c.args.edges says read c.in_default.ensures

pub returns-in_default-read_pair-clause-refusal : goal.returns-in_default-read_pair-clause-refusal
returns-in_default-read_pair-clause-refusal c = λ text says read.
    let small : IsSmall c.args.bounds = record { edges = c.requires.edges; old = omega arith; new = omega arith } in
    subst (λ n. IsFirstFault c.args.bounds text (6 + c.args.edges + n) 7) c.loop-place.invariant.count
    (pair_fault c.args.bounds text c.args.text.now c.loop-place.rest.now c.args.edges c.in-Some.count c.loop-place.pairs.items small says read c.loop-place.invariant.lines c.in-Some.ensures.0 (omega (arith, c.loop-place.invariant.count, c.loop-place-test.true))
    c.loop-place.invariant.below c.loop-place.invariant.rise
    (λ p below after. c.in_default-read_pair.ensures p below (subst (λ last. IsAfter IsBefore last p) (sym c.loop-place.invariant.last) after)))

pub loop-place-preserved : goal.loop-place-preserved
loop-place-preserved c =
    let after : IsAfter IsBefore (last_of None c.loop-place.pairs.items) c.in-Some-read_pair.pair = subst (λ last. IsAfter IsBefore last c.in-Some-read_pair.pair) c.loop-place.invariant.last c.in-Some-read_pair.ensures.1 in
    rw c.in-Ok.ensures.items (record {
      count = omega (arith, length-append c.loop-place.pairs.items (c.in-Some-read_pair.pair ∷ []), c.loop-place.invariant.count);
      last = sym (last_of-push None c.loop-place.pairs.items c.in-Some-read_pair.pair);
      below = All-push (IsBelow c.args.bounds) c.loop-place.pairs.items c.in-Some-read_pair.pair c.loop-place.invariant.below c.in-Some-read_pair.ensures.0;
      rise = rise-push IsBefore None c.loop-place.pairs.items c.in-Some-read_pair.pair c.loop-place.invariant.rise after;
      lines = lines_more (value_line (codes "pairs") (decimal c.in-Some.count)) pair_line c.loop-place.pairs.items c.in-Some-read_pair.pair c.args.text.now c.loop-place.rest.now c.in-Some-read_pair.left.now c.loop-place.invariant.lines c.in-Some-read_pair.ensures.2;
    })
