use Rattle.std.proofs.Common.{◌≡◌, ℕ, List, ◌∷◌, [], sym, ap, ◌∙◌, subst}
use Rattle.std.specs.Prelude.{slice_index}
use Rattle.std.specs.Option.{option_map}
use Rattle.explain_report.specs.Parts.{IsPartOf}
use Rattle.explain_report.specs.Dangers.{Argues}
use Rattle.explain_report.proofs.BookLemmas.{part_argues}
use Rattle.explain_report.proofs.book.book_of.Goals as goal

pub returns : goal.returns
returns c P P' edge book shown =
    let facts = c.args.facts.now in
    let part = c.in_ok-kept.field-0 in
    let at = c.args.shown in
    let is = subst (λ back. IsPartOf facts (at.place ∷ back ∷ []) part) c.unwrap_or-back.ensures c.in_ok-kept.ensures in
    let table = c.deref.ensures.value in
    let moved : c.moved-shown.result ≡ record { place = slice_index part.table.items at.place; back = option_map (slice_index part.table.items) at.back } =
    c.moved-shown.ensures ∙ ap (λ (t : List ℕ). record { place = slice_index t at.place; back = option_map (slice_index t) at.back }) table in
    subst (Argues P P' part.facts.items edge) (sym moved) (part_argues facts at part c.requires.earlier is P P' edge book shown)
