use Rattle.std.proofs.Common.{◌++◌, ◌∷◌, [], List, ℕ, ap, ◌∙◌, sym, subst}
use Rattle.csub_objects.specs.Names.{IsNew}
use Rattle.csub_objects.proofs.Keys.{texts, added}
use Rattle.csub_objects.proofs.names.NameSet.add.Goals as goal

pub returns : goal.returns
returns c =
    let fresh : IsNew c.args.name.items (texts c.self.inside.held.keys) = subst (λ (v : List (List ℕ)). IsNew c.args.name.items v) (sym c.self.view_is) c.requires in
    added c.self.inside.held.keys c.insert_full.new.self.keys c.args.name fresh c.in_ok-insert_full.ensures.keys
    ∙ ap (λ v. v ++ c.args.name.items ∷ []) c.self.view_is
