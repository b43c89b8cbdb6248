use Rattle.std.proofs.Common.{◌≡◌, IsTrue, sym, subst, rules}
use Rattle.std.proofs.lemmas.Fn.{always_returns_same}
use Rattle.cert_text.specs.declared.pair.Pair.{Pair}
use Rattle.walk_cert.proofs.SearchLemmas.{found}
use Rattle.walk_cert.proofs.search.has_pair.Goals as goal

pub returns : goal.returns
returns c =
    let w : Pair = record { old = c.args.old; new = c.args.new } in
    let is = c.binary_search_by_key.ensures.position (λ (p : Pair). (p.old, p.new)) (always_returns_same _ (λ a r. r ≡ (a.0.now.old, a.0.now.new)) _ (λ a r f h. search rules)) in
    let told = found c.args.pairs.now w c.binary_search_by_key.result c.requires c.binary_search_by_key.ensures.bound is in
    (λ yes. told.0 (subst IsTrue c.is_ok.ensures.value yes), λ has. subst IsTrue (sym c.is_ok.ensures.value) (told.1 has))
