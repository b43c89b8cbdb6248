use Rattle.std.proofs.Common.{◌≡◌, ◌++◌, ◌∷◌, [], ℕ, List, map, length, set, get_or, Result, Ok, Err, sym, ap, ◌∙◌, arith, ◌<◌}
use Rattle.std.specs.Prelude.{OnErr}
use Rattle.std.specs.declared.vec.Vec.{Vec}
use Rattle.std.specs.declared.alloc.Global.{Global}
use Rattle.std.proofs.lemmas.List.{set-get_or, map-set, get_or-map, length-map}
use Rattle.dual_walk.proofs.rows.Rows.push.Goals as goal

items_of : Vec ℕ Global → List ℕ
items_of row = row.items

-- one more number in the list at a place
pushed : (rows : List (Vec ℕ Global)) (seen : List (List ℕ)) (at value : ℕ) (row row' : Vec ℕ Global) → map items_of rows ≡ seen → at < length seen → row ≡ get_or rows at row → row'.items ≡ row.items ++ value ∷ [] → map items_of (set rows at row') ≡ set seen at (get_or seen at [] ++ value ∷ [])
unfolding items_of
pushed rows seen at value row row' view within read more =
    let below : at < length rows = omega (arith, length-map rows items_of, ap length view) in
    let got : get_or seen at [] ≡ row.items = ap (λ l. get_or l at []) (sym view) ∙ get_or-map items_of rows at row [] below ∙ ap items_of (sym read) in
    map-set items_of rows at row' ∙ ap (λ l. set l at row'.items) view ∙ ap (set seen at) (more ∙ ap (λ l. l ++ value ∷ []) (sym got))

-- the list at a place stays
kept : (rows : List (Vec ℕ Global)) (seen : List (List ℕ)) (at : ℕ) (row row' : Vec ℕ Global) → map items_of rows ≡ seen → at < length seen → row ≡ get_or rows at row → row'.items ≡ row.items → map items_of (set rows at row') ≡ seen
unfolding items_of
kept rows seen at row row' view within read same =
    let below : at < length rows = omega (arith, length-map rows items_of, ap length view) in
    let got : get_or seen at [] ≡ row.items = ap (λ l. get_or l at []) (sym view) ∙ get_or-map items_of rows at row [] below ∙ ap items_of (sym read) in
    map-set items_of rows at row' ∙ ap (λ l. set l at row'.items) view ∙ ap (set seen at) (same ∙ sym got) ∙ set-get_or seen at []

in_any : {X Y P : Type 0} (r : Result X Y) → P → OnErr r P
in_any (Ok x) p = tt
in_any (Err e) p = p

pub returns-in_err-push-clause-unchanged : goal.returns-in_err-push-clause-unchanged
unfolding items_of
returns-in_err-push-clause-unchanged c = in_any c.from_residual.result (kept c.self.inside.rows.items c.args.self.now c.args.at c.index_mut.result.now c.push.new.self c.self.view_is c.requires c.index_mut.ensures.value (c.in_err-push.ensures.items))

pub returns-clause-appended : goal.returns-clause-appended
unfolding items_of
returns-clause-appended c = pushed c.self.inside.rows.items c.args.self.now c.args.at c.args.value c.index_mut.result.now c.push.new.self c.self.view_is c.requires c.index_mut.ensures.value (c.in_ok-push.ensures.items)
