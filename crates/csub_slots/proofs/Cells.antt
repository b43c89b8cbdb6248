-- The tests of equality of cells' names.
use Rattle.std.proofs.Common.{◌≡◌, List, [], ◌∷◌, true, ◌&&◌, refl, ◌∙◌, ap, nat_eq, bytes_eq}
use Rattle.std.proofs.lemmas.Bool.{eqb-true, eq-eqb, and_parts}
use Rattle.csub_objects.specs.Paths.{Inner, element_at, member_of}
use Rattle.csub_semantics.specs.Cells.{Root, global_root, local_root, temp_root, Cell, inner_eq, path_eq, root_eq, cell_eq}
use Rattle.program_laws.proofs.LawsNames.{same_name, name_itself}

inner_true : (a b : Inner) → inner_eq a b ≡ true → a ≡ b
inner_true (element_at i) (element_at j) e = ap element_at (eqb-true i j e)
inner_true (member_of a) (member_of b) e = ap member_of (same_name a b e)
inner_true (element_at i) (member_of b) e = cc
inner_true (member_of a) (element_at j) e = cc

inner_same : (a : Inner) → inner_eq a a ≡ true
inner_same (element_at i) = eq-eqb i i refl
inner_same (member_of a) = name_itself a

path_true : (a b : List Inner) → path_eq a b ≡ true → a ≡ b
path_true [] [] e = refl
path_true [] (y ∷ ys) e = cc
path_true (x ∷ xs) [] e = cc
path_true (x ∷ xs) (y ∷ ys) e = let p = and_parts (inner_eq x y) (path_eq xs ys) e in let q = inner_true x y p.0 in let r = path_true xs ys p.1 in cc

path_same : (a : List Inner) → path_eq a a ≡ true
path_same [] = refl
path_same (x ∷ xs) = let p = inner_same x in let q = path_same xs in rw (p, q) refl

root_true : (a b : Root) → root_eq a b ≡ true → a ≡ b
root_true (global_root a) (global_root b) e = ap global_root (same_name a b e)
root_true (local_root h a n) (local_root i b o) e =
    let p = and_parts (nat_eq h i) (bytes_eq a b && nat_eq n o) e in
    let q = and_parts (bytes_eq a b) (nat_eq n o) p.1 in
    let r = eqb-true h i p.0 in let s = same_name a b q.0 in let t = eqb-true n o q.1 in cc
root_true (temp_root h n) (temp_root i o) e = let p = and_parts (nat_eq h i) (nat_eq n o) e in let r = eqb-true h i p.0 in let t = eqb-true n o p.1 in cc
root_true (global_root a) (local_root i b o) e = cc
root_true (global_root a) (temp_root i o) e = cc
root_true (local_root h a n) (global_root b) e = cc
root_true (local_root h a n) (temp_root i o) e = cc
root_true (temp_root h n) (global_root b) e = cc
root_true (temp_root h n) (local_root i b o) e = cc

root_same : (a : Root) → root_eq a a ≡ true
root_same (global_root a) = name_itself a
root_same (local_root h a n) = let p = eq-eqb h h refl in let q = name_itself a in let r = eq-eqb n n refl in rw (p, q, r) refl
root_same (temp_root h n) = let p = eq-eqb h h refl in let r = eq-eqb n n refl in rw (p, r) refl

pub cell_true : (c d : Cell) → cell_eq c d ≡ true → c ≡ d
cell_true c d e = let p = and_parts (root_eq c.root d.root) (path_eq c.path d.path) e in let q = root_true c.root d.root p.0 in let r = path_true c.path d.path p.1 in ap (λ (x : Root). let m : Cell = record { root = x; path = c.path } in m) q ∙ ap (λ (x : List Inner). let m : Cell = record { root = d.root; path = x } in m) r

pub cell_same : (c : Cell) → cell_eq c c ≡ true
cell_same c = let p = root_same c.root in let q = path_same c.path in rw (p, q) refl
