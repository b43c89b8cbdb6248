-- The tests of names, of points and of exit labels decide equality.
use Rattle.std.proofs.Common.{◌≡◌, true, refl, ap, nat_eq, ◌&&◌, bytes_eq}
use Rattle.std.specs.Cmp.{signed_Decides}
use Rattle.std.specs.Cmp.Rules.{signed_items}
use Rattle.std.specs.Cmp.Lexicographic.{pointwise, bytes_decides}
use Rattle.std.proofs.lemmas.Bool.{eqb-true, eq-eqb, and_parts, and_from}
use Rattle.csub_objects.specs.Types.{Name}
use Rattle.csub_semantics.specs.Points.{PointTree, entry, exit, at, point_eq, ExitTree, next, on_true, on_false, on_case, on_default, exit_eq}

-- names
pub same_name : (a b : Name) → bytes_eq a b ≡ true → a ≡ b
same_name a b e = (bytes_decides a b).0 e

pub name_itself : (a : Name) → bytes_eq a a ≡ true
name_itself a = (bytes_decides a a).1 refl

-- points
pub same_point : (p q : PointTree) → point_eq p q ≡ true → p ≡ q
same_point entry entry e = refl
same_point entry _ e = cc
same_point exit exit e = refl
same_point exit _ e = cc
same_point (at q i k) (at r j l) e =
    let h = and_parts (pointwise nat_eq q r) (nat_eq i j && nat_eq k l) e in
    let g = and_parts (nat_eq i j) (nat_eq k l) h.1 in
    let a : q ≡ r = same_name q r h.0 in
    let b : i ≡ j = eqb-true i j g.0 in
    let c : k ≡ l = eqb-true k l g.1 in cc
same_point (at q i k) _ e = cc

pub point_itself : (p : PointTree) → point_eq p p ≡ true
point_itself entry = refl
point_itself exit = refl
point_itself (at q i k) = and_from (pointwise nat_eq q q) (nat_eq i i && nat_eq k k) (name_itself q) (and_from (nat_eq i i) (nat_eq k k) (eq-eqb i i refl) (eq-eqb k k refl))

-- labels of ways out
pub same_exit : (x y : ExitTree) → exit_eq x y ≡ true → x ≡ y
same_exit next next e = refl
same_exit next _ e = cc
same_exit on_true on_true e = refl
same_exit on_true _ e = cc
same_exit on_false on_false e = refl
same_exit on_false _ e = cc
same_exit (on_case v) (on_case w) e = ap on_case ((signed_Decides v w).0 e)
same_exit (on_case v) _ e = cc
same_exit (on_default vs) (on_default ws) e = ap on_default ((signed_items vs ws).0 e)
same_exit (on_default vs) _ e = cc

pub exit_itself : (x : ExitTree) → exit_eq x x ≡ true
exit_itself next = refl
exit_itself on_true = refl
exit_itself on_false = refl
exit_itself (on_case v) = (signed_Decides v v).1 refl
exit_itself (on_default vs) = (signed_items vs vs).1 refl
