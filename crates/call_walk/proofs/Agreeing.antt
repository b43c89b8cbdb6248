-- What is done to cells keeps that two stores agree on a set of roots.
use Rattle.std.proofs.Common.{◌≡◌, ℕ, ℤ, List, [], ◌∷◌, Bool, true, false, Option, Some, None, refl, subst, if◌then◌else◌, IsTrue}
use Rattle.csub_objects.specs.Types.{MemberTree}
use Rattle.csub_semantics.specs.Cells.{Root, temp_root, Cell, Content, number, reference, Cells, cell_eq, written, of_frame, dropped, parameter_cell, entered}
use Rattle.csub_semantics.specs.Acts.{Store}
use Rattle.csub_semantics.specs.Runs.{put_result}
use Rattle.call_walk.specs.Shared.{RefersInto, Agree}

module _ (S : Root → Bool) where
  -- a content that refers into the set
  abbrev pub IsInside : Content → Type 0
  IsInside g = (d : Cell) (n : ℕ) → g ≡ reference d n → IsTrue (S d.root)

  abbrev pub AreInside : List Content → Type 0
  AreInside [] = Unit {0}
  AreInside (g ∷ gs) = IsInside g × AreInside gs

  pub number_inside : (v : ℤ) → IsInside (number v)
  number_inside v d n e = cc

  pub reference_inside : (c : Cell) (m : ℕ) → IsTrue (S c.root) → IsInside (reference c m)
  reference_inside c m inside d n e = let same : c ≡ d = cc in subst (λ x. IsTrue (S x.root)) same inside

  -- the same change of both, by one test
  same_choice : (b : Bool) (g o o' : Option Content) → o ≡ o' → (if b then g else o) ≡ (if b then g else o')
  same_choice true g o o' e = refl
  same_choice false g o o' e = e

  refers_choice : (b : Bool) (g o : Option Content) (d : Cell) (n : ℕ) → (g ≡ Some (reference d n) → IsTrue (S d.root)) → (o ≡ Some (reference d n) → IsTrue (S d.root)) → (if b then g else o) ≡ Some (reference d n) → IsTrue (S d.root)
  refers_choice true g o d n k h e = k e
  refers_choice false g o d n k h e = h e

  refers_written : (at : Cell) (g : Content) (cells : Cells) → IsInside g → RefersInto S cells → RefersInto S (written cells at g)
  refers_written at g cells inside h c d n e = refers_choice (cell_eq c at) (Some g) (cells c) d n (λ f. let is : g ≡ reference d n = cc in inside d n is) (h c d n) e

  pub agree_written : (at : Cell) (g : Content) (s s' : Store) → IsInside g → Agree S s s' → Agree S (record s { cells = written s.cells at g }) (record s' { cells = written s'.cells at g })
  agree_written at g s s' inside agree = record {
    cells = λ c i. same_choice (cell_eq c at) (Some g) (s.cells c) (s'.cells c) (agree.cells c i);
    refers = refers_written at g s.cells inside agree.refers;
    refers' = refers_written at g s'.cells inside agree.refers';
    input = agree.input;
    output = agree.output;
  }

  refers_dropped : (h : ℕ) (cells : Cells) → RefersInto S cells → RefersInto S (dropped h cells)
  refers_dropped h cells r c d n e = refers_choice (of_frame h c.root) None (cells c) d n (λ f. cc) (r c d n) e

  pub agree_dropped : (h : ℕ) (s s' : Store) → Agree S s s' → Agree S (record s { cells = dropped h s.cells }) (record s' { cells = dropped h s'.cells })
  agree_dropped h s s' agree = record {
    cells = λ c i. same_choice (of_frame h c.root) None (s.cells c) (s'.cells c) (agree.cells c i);
    refers = refers_dropped h s.cells agree.refers;
    refers' = refers_dropped h s'.cells agree.refers';
    input = agree.input;
    output = agree.output;
  }

  pub agree_entered : (h : ℕ) (params : List MemberTree) (gs : List Content) (s s' : Store) → AreInside gs → Agree S s s' → Agree S (record s { cells = entered h params gs s.cells }) (record s' { cells = entered h params gs s'.cells })
  agree_entered h [] gs s s' inside agree = agree
  agree_entered h (a ∷ params) [] s s' inside agree = agree
  agree_entered h (a ∷ params) (g ∷ gs) s s' inside agree =
      let at = parameter_cell h a.name in
      agree_entered h params gs (record s { cells = written s.cells at g }) (record s' { cells = written s'.cells at g }) inside.1 (agree_written at g s s' inside.0 agree)

  pub agree_put : (h : ℕ) (temp : Option ℕ) (r : Option ℤ) (s s' : Store) → Agree S s s' → Agree S (put_result h temp r s) (put_result h temp r s')
  agree_put h None r s s' agree = agree
  agree_put h (Some k) None s s' agree = agree
  agree_put h (Some k) (Some v) s s' agree = agree_written (record { root = temp_root h k; path = [] }) (number v) s s' (number_inside v) agree
