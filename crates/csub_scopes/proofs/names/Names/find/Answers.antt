use Rattle.std.proofs.Common.{arith, ◌∙◌, ap, sym, option_map}
use Rattle.csub_scopes.specs.Meanings.{declared_of}
use Rattle.csub_scopes.specs.Scopes.{find}
use Rattle.csub_scopes.proofs.Finds.{name_of, found_name, no_name}
use Rattle.csub_scopes.proofs.Stack.{within}
use Rattle.csub_scopes.proofs.names.Names.find.Goals as goal

pub index-requires : goal.index-requires
index-requires c =
    let below = within name_of c.args.name.now c.self.inside.stack.items c.in_ok-place.place (sym (c.self.invariant.1 c.args.name.now) ∙ sym c.in_ok-place.ensures) in
    omega arith

pub returns : goal.returns
returns c =
    sym (ap (λ ds. find c.args.name.now ds) (sym c.self.view_is)
    ∙ found_name c.args.name.now c.self.inside.stack.items c.in_ok-place.place c.index.result.now
    (sym (c.self.invariant.1 c.args.name.now) ∙ sym c.in_ok-place.ensures) c.index.ensures)

pub returns-in_err-place : goal.returns-in_err-place
returns-in_err-place c =
    ap (λ o. option_map (λ declared. declared_of declared.now) o) c.from_residual.ensures
    ∙ sym (ap (λ ds. find c.args.name.now ds) (sym c.self.view_is)
    ∙ no_name c.args.name.now c.self.inside.stack.items (sym (c.self.invariant.1 c.args.name.now) ∙ sym c.in_err-place.ensures))
