use Rattle.std.proofs.Common.{◌≡◌, [], ℕ, List, map, set, ap, ◌∙◌}
use Rattle.std.specs.declared.vec.Vec.{Vec}
use Rattle.std.specs.declared.alloc.Global.{Global}
use Rattle.std.proofs.lemmas.List.{map-set}
use Rattle.dual_walk.proofs.rows.Rows.clear.Goals as goal

items_of : Vec ℕ Global → List ℕ
items_of row = row.items

-- the list at a place is empty
cleared : (rows : List (Vec ℕ Global)) (seen : List (List ℕ)) (at : ℕ) (row' : Vec ℕ Global) → map items_of rows ≡ seen → row'.items ≡ [] → map items_of (set rows at row') ≡ set seen at []
unfolding items_of
cleared rows seen at row' view none = map-set items_of rows at row' ∙ ap (λ l. set l at row'.items) view ∙ ap (set seen at) none

pub returns : goal.returns
unfolding items_of
returns c = cleared c.self.inside.rows.items c.args.self.now c.args.at c.clear.new.self c.self.view_is c.clear.ensures.items
