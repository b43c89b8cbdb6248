use Rattle.std.proofs.Common.{sym, subst, arith}
use Rattle.source_place.specs.Lines.{Lines, IsTableOf}
use Rattle.source_place.proofs.LineLemmas.{found}
use Rattle.source_place.proofs.table.LineTable.place_of.Goals as goal

pub index-requires : goal.index-requires
index-requires c =
    let table : Lines = record { begins = c.self.inside.begins.items; end = c.self.inside.end } in
    let line = found c.self.invariant.source table c.deref.result.now c.args.at.start c.min-start.result c.line_at-line.result
    c.self.invariant.is c.deref.ensures.value c.min-start.ensures c.line_at-line.ensures in
    omega (arith, line.within)

pub overflow_sub-result : goal.overflow_sub-result
overflow_sub-result c =
    let table : Lines = record { begins = c.self.inside.begins.items; end = c.self.inside.end } in
    let line = found c.self.invariant.source table c.deref.result.now c.args.at.start c.min-start.result c.line_at-line.result
    c.self.invariant.is c.deref.ensures.value c.min-start.ensures c.line_at-line.ensures in
    line.before c.index.result.now c.index.result.now c.index.ensures

pub returns : goal.returns
returns c source of =
    let table : Lines = record { begins = c.self.inside.begins.items; end = c.self.inside.end } in
    let line = found source table c.deref.result.now c.args.at.start c.min-start.result c.line_at-line.result
    (subst (IsTableOf source) (sym c.self.view_is) of) c.deref.ensures.value c.min-start.ensures c.line_at-line.ensures in
    line.is c.index.result.now c.index.result.now c.index.ensures
