use Rattle.std.proofs.Common.{◌<◌, ◌+◌, ◌∙◌, ◌∷◌, [], true, false, codes, length-append, length-set, None, refl, sym, subst, arith}
use Rattle.std.specs.Fmt.{decimal}
use Rattle.std.proofs.lemmas.List.{length-replicate}
use Rattle.edge_trace.proofs.Laws.{has-replicate}
use Rattle.cert_text.specs.Certificates.{IsAfter}
use Rattle.edge_trace.specs.Rows.{numbers_of}
use Rattle.cert_text.specs.CertificateTexts.{edge_line}
use Rattle.line_text.specs.Values.{value_line}
use Rattle.cert_text.specs.Rules.{IsFirstFault}
use Rattle.cert_text.proofs.ItemLemmas.{last_of-push}
use Rattle.cert_text.proofs.PairLemmas.{edge_fault, one_more_number, clear_more, lines_more}
use Rattle.edge_trace.proofs.LawsOfNumbers.{numbers_of-empty}
use Rattle.cert_text.proofs.RowLemmas.{rise-numbers_of}
use Rattle.cert_text.proofs.SameLemmas.{danger_below}
use Rattle.cert_text.proofs.WholeLemmas.{count_fault}
use Rattle.cert_text.proofs.reader.read_danger.Goals as goal

pub returns-in_default-clause-refusal : goal.returns-in_default-clause-refusal
returns-in_default-clause-refusal c = λ text read. count_fault c.args.bounds text c.args.text.now read c.in_default.ensures

pub loop-place-init : goal.loop-place-init
loop-place-init c =
    let none = numbers_of-empty c.args.bounds.edges in
    rw c.in_ok-row.ensures (rw none (record {
      size = length-replicate c.args.bounds.edges false;
      count = refl;
      last = refl;
      clear = λ k after. has-replicate c.args.bounds.edges k;
      lines = c.in-Some.ensures.1;
    }))

pub returns-in_default-read_edge-clause-refusal : goal.returns-in_default-read_edge-clause-refusal
returns-in_default-read_edge-clause-refusal c = λ text read.
    subst (λ n. IsFirstFault c.args.bounds text (5 + n) 5) c.loop-place.invariant.count
    (edge_fault c.args.bounds text c.args.text.now c.loop-place.rest.now c.in-Some.count (numbers_of c.loop-place.row) c.requires read c.loop-place.invariant.lines c.in-Some.ensures.0 (omega (arith, c.loop-place.invariant.count, c.loop-place-test.true))
    (danger_below c.args.bounds c.loop-place.row c.loop-place.invariant.size) (rise-numbers_of c.loop-place.row)
    (λ e below after. c.in_default-read_edge.ensures e below (subst (λ last. IsAfter (λ a b. a < b) last e) (sym c.loop-place.invariant.last) after)))

pub loop-place-preserved : goal.loop-place-preserved
loop-place-preserved c =
    let grown = one_more_number c.loop-place.row c.loop-place.last c.in-Some-read_edge.edge c.loop-place.invariant.clear c.in-Some-read_edge.ensures.1 (omega (arith, c.loop-place.invariant.size, c.in-Some-read_edge.ensures.0)) in
    rw c.set.ensures (rw grown (record {
      size = length-set c.loop-place.row c.in-Some-read_edge.edge true ∙ c.loop-place.invariant.size;
      count = omega (arith, length-append (numbers_of c.loop-place.row) (c.in-Some-read_edge.edge ∷ []), c.loop-place.invariant.count);
      last = sym (last_of-push None (numbers_of c.loop-place.row) c.in-Some-read_edge.edge);
      clear = clear_more c.loop-place.row c.loop-place.last c.in-Some-read_edge.edge c.loop-place.invariant.clear c.in-Some-read_edge.ensures.1;
      lines = lines_more (value_line (codes "dangerous") (decimal c.in-Some.count)) edge_line (numbers_of c.loop-place.row) c.in-Some-read_edge.edge c.args.text.now c.loop-place.rest.now c.in-Some-read_edge.left.now c.loop-place.invariant.lines c.in-Some-read_edge.ensures.2;
    }))
