-- Initialisers of the code's lists.
use Rattle.std.proofs.Common.{◌↔◌, ℕ, map, Option, IsTrue, sym, subst}
use Rattle.std.specs.declared.vec.Vec.{Vec}
use Rattle.std.specs.declared.alloc.Global.{Global}
use Rattle.csub_objects.specs.Types.{TypeTree}
use Rattle.csub_semantics.specs.declared.label.RInit.{RInit, List as ListedInit}
use Rattle.csub_semantics.specs.Labels.{init_tree, inits_of}
use Rattle.csub_semantics.proofs.LawsRows.{init_tree-List}
use Rattle.csub_validity.specs.Valid.{Scope, AreInits, IsInit, is_whole}

-- when a list of the code is an initialiser of an object
pub IsInit-List : (sc : Scope) (n : ℕ) (o : Option TypeTree) (entries : Vec RInit Global)
    → IsInit sc n o (init_tree (ListedInit entries)) ↔ (IsTrue (is_whole o) × AreInits sc n o 0 (inits_of (map init_tree entries.items)))
IsInit-List sc n o entries =
    (λ h. subst (IsInit sc n o) (init_tree-List entries) h, λ h. subst (IsInit sc n o) (sym (init_tree-List entries)) h)
