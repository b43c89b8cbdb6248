use Rattle.std.proofs.Common.{◌≡◌, ◌+◌, ◌∙◌, ◌∷◌, [], length, codes, sym, ap, subst, arith}
use Rattle.hex.specs.Hex.{encode_lower}
use Rattle.line_text.specs.Lines.{text_of_lines}
use Rattle.edge_trace.specs.Rows.{numbers_of}
use Rattle.cert_text.specs.CertificateTexts.{title, danger_lines, pairs_lines, text_before_end}
use Rattle.cert_text.specs.Faults.{IsReadTo, IsRefusalOf}
use Rattle.line_text.specs.Values.{value_line}
use Rattle.cert_text.specs.Rules.{SaysEdges}
use Rattle.cert_text.proofs.ReadLemmas.{at_line}
use Rattle.cert_text.proofs.SameLemmas.{IsSmall}
use Rattle.line_text.proofs.LawsOfTexts.{passed_err, front_is, three_parts}
use Rattle.cert_text.proofs.WholeLemmas.{head_read, edges_read, pairs_read}
use Rattle.cert_text.proofs.reader.read_lines.Goals as goal

pub returns-in_err-danger-clause-refusal : goal.returns-in_err-danger-clause-refusal
returns-in_err-danger-clause-refusal c =
    let head = head_read c.args.bounds c.args.bytes.now c.in_ok-head.head.old c.in_ok-head.head.new c.in_ok-head.head.rest.now c.in_ok-head.ensures.digests.0 c.in_ok-head.ensures.digests.1 c.in_ok-head.ensures.lines in
    passed_err c.from_residual-in_err-danger.result (IsRefusalOf c.args.bounds c.args.bytes.now) c.in_err-danger.field-0.0 c.from_residual-in_err-danger.ensures.1
    (c.in_err-danger.ensures.refusal c.args.bytes.now head)

pub returns-in_err-pairs-clause-refusal : goal.returns-in_err-pairs-clause-refusal
returns-in_err-pairs-clause-refusal c =
    let head = head_read c.args.bounds c.args.bytes.now c.in_ok-head.head.old c.in_ok-head.head.new c.in_ok-head.head.rest.now c.in_ok-head.ensures.digests.0 c.in_ok-head.ensures.digests.1 c.in_ok-head.ensures.lines in
    let edges = edges_read c.args.bounds c.args.bytes.now c.in_ok-head.head.rest.now c.in_ok-danger.danger.rest.now c.in_ok-danger.danger.row c.requires c.in_ok-danger.ensures.edges head c.in_ok-danger.ensures.lines in
    let count : length (numbers_of c.in_ok-danger.danger.row) ≡ c.in_ok-danger.danger.count = sym c.in_ok-danger.ensures.count.0 in
    passed_err c.from_residual-in_err-pairs.result (IsRefusalOf c.args.bounds c.args.bytes.now) c.in_err-pairs.field-0.0 c.from_residual-in_err-pairs.ensures.1
    (c.in_err-pairs.ensures.refusal c.args.bytes.now (subst (SaysEdges c.args.bounds c.args.bytes.now) count edges.0) (subst (λ n. IsReadTo c.args.bounds c.args.bytes.now (4 + n) c.in_ok-danger.danger.rest.now) count edges.1))

pub returns-in_err-sum-clause-refusal : goal.returns-in_err-sum-clause-refusal
returns-in_err-sum-clause-refusal c =
    let small : IsSmall c.args.bounds = record { edges = c.requires; old = omega arith; new = omega arith } in
    let head = head_read c.args.bounds c.args.bytes.now c.in_ok-head.head.old c.in_ok-head.head.new c.in_ok-head.head.rest.now c.in_ok-head.ensures.digests.0 c.in_ok-head.ensures.digests.1 c.in_ok-head.ensures.lines in
    let edges = edges_read c.args.bounds c.args.bytes.now c.in_ok-head.head.rest.now c.in_ok-danger.danger.rest.now c.in_ok-danger.danger.row c.requires c.in_ok-danger.ensures.edges head c.in_ok-danger.ensures.lines in
    let pairs = pairs_read c.args.bounds c.args.bytes.now c.in_ok-danger.danger.rest.now c.in_ok-pairs.pairs.rest.now (length (numbers_of c.in_ok-danger.danger.row)) c.in_ok-pairs.pairs.pairs.items small edges.0 edges.1 c.in_ok-pairs.ensures.lines
    c.in_ok-pairs.ensures.below c.in_ok-pairs.ensures.rise c.in_ok-pairs.ensures.few in
    passed_err c.from_residual-in_err-sum.result (IsRefusalOf c.args.bounds c.args.bytes.now) c.in_err-sum.field-0.0 c.from_residual-in_err-sum.ensures.1
    (c.in_err-sum.ensures.refusal c.args.bytes.now (length (numbers_of c.in_ok-danger.danger.row)) (length c.in_ok-pairs.pairs.pairs.items) pairs.0 (omega (arith, c.len.ensures, c.in_ok-danger.ensures.count.0))
    (at_line c.args.bounds c.args.bytes.now c.in_ok-pairs.pairs.rest.now _ _ (omega (arith, c.len.ensures, c.in_ok-danger.ensures.count.0)) pairs.1))

pub returns-clause-says : goal.returns-clause-says
returns-clause-says c =
    let one = text_of_lines (title ∷ value_line (codes "old") (encode_lower c.in_ok-head.head.old) ∷ value_line (codes "new") (encode_lower c.in_ok-head.head.new) ∷ []) in
    let whole = three_parts c.args.bytes.now one (text_of_lines (danger_lines c.in_ok-danger.danger.row)) (text_of_lines (pairs_lines c.in_ok-pairs.pairs.pairs.items)) c.in_ok-head.head.rest.now c.in_ok-danger.danger.rest.now c.in_ok-pairs.pairs.rest.now
    c.in_ok-head.ensures.lines c.in_ok-danger.ensures.lines c.in_ok-pairs.ensures.lines in
    rw c.new.ensures (record {
      readable = record {
        old = c.in_ok-head.ensures.digests.0;
        new = c.in_ok-head.ensures.digests.1;
        edges = c.in_ok-danger.ensures.edges;
        below = c.in_ok-pairs.ensures.below;
        within = record { rise = c.in_ok-pairs.ensures.rise; few = c.in_ok-pairs.ensures.few };
      };
      written = c.in_ok-sum.ensures.digest;
      is = rw c.in_ok-sum.ensures.line at whole;
    })

pub returns-clause-before : goal.returns-clause-before
returns-clause-before c =
    let one = text_of_lines (title ∷ value_line (codes "old") (encode_lower c.in_ok-head.head.old) ∷ value_line (codes "new") (encode_lower c.in_ok-head.head.new) ∷ []) in
    let whole = three_parts c.args.bytes.now one (text_of_lines (danger_lines c.in_ok-danger.danger.row)) (text_of_lines (pairs_lines c.in_ok-pairs.pairs.pairs.items)) c.in_ok-head.head.rest.now c.in_ok-danger.danger.rest.now c.in_ok-pairs.pairs.rest.now
    c.in_ok-head.ensures.lines c.in_ok-danger.ensures.lines c.in_ok-pairs.ensures.lines in
    front_is c.args.bytes.now _ c.in_ok-pairs.pairs.rest.now whole ∙ ap text_before_end (sym c.new.ensures)
