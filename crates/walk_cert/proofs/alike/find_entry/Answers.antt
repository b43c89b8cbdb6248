use Rattle.std.proofs.Common.{◌≡◌, sym, ◌∙◌}
use Rattle.std.proofs.lemmas.Option.{same_Some}
use Rattle.walk_cert.proofs.EntryLemmas.{no_site, found_name}
use Rattle.walk_cert.proofs.alike.find_entry.Goals as goal

pub returns-in_err-function : goal.returns-in_err-function
returns-in_err-function c P P' s ok ok' at =
    let name : c.name_of.result.now ≡ s.function = same_Some _ _ (sym (c.name_of.ensures P ok) ∙ c.function_at.ensures.function P s ok at) in
    rw c.from_residual.ensures (no_site P' ok'.valid c.name_of.result.now s.function name (c.in_err-function.ensures.found P' ok'))

pub returns : goal.returns
returns c P P' s ok ok' at =
    let name : c.name_of.result.now ≡ s.function = same_Some _ _ (sym (c.name_of.ensures P ok) ∙ c.function_at.ensures.function P s ok at) in
    c.start_of.ensures.start P' s.function ok' (found_name c.args.new.now P' ok' c.in_ok-function.function c.name_of.result.now s.function name c.in_ok-function.ensures.within (c.in_ok-function.ensures.found P' ok'))
