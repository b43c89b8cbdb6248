use Rattle.std.proofs.Common.{arith, ◌∙◌, ap, sym, option_map}
use Rattle.csub_scopes.specs.Meanings.{tagged_of}
use Rattle.csub_scopes.specs.Scopes.{find_tag}
use Rattle.csub_scopes.proofs.Finds.{tag_of, found_tag, no_tag}
use Rattle.csub_scopes.proofs.Stack.{within}
use Rattle.csub_scopes.proofs.tags.Tags.find.Goals as goal

pub index-requires : goal.index-requires
index-requires c =
    let below = within tag_of c.args.tag.now c.self.inside.stack.items c.in_ok-place.place (sym (c.self.invariant c.args.tag.now) ∙ sym c.in_ok-place.ensures) in
    omega arith

pub returns : goal.returns
returns c =
    sym (ap (λ ds. find_tag c.args.tag.now ds) (sym c.self.view_is)
    ∙ found_tag c.args.tag.now c.self.inside.stack.items c.in_ok-place.place c.index.result.now
    (sym (c.self.invariant c.args.tag.now) ∙ sym c.in_ok-place.ensures) c.index.ensures)

pub returns-in_err-place : goal.returns-in_err-place
returns-in_err-place c =
    ap (λ o. option_map (λ tagged. tagged_of tagged.now) o) c.from_residual.ensures
    ∙ sym (ap (λ ds. find_tag c.args.tag.now ds) (sym c.self.view_is)
    ∙ no_tag c.args.tag.now c.self.inside.stack.items (sym (c.self.invariant c.args.tag.now) ∙ sym c.in_err-place.ensures))
