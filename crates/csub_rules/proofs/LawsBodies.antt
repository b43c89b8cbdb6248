-- The laws of names that stand twice, and of bodies of functions.
use Rattle.std.proofs.Common.{◌≡◌, List, [], ◌∷◌, Option, Some, None, IsTrue, bytes_eq, inl, inr, refl, ◌++◌, ◌∙◌, ap, sym}
use Rattle.csub_text.specs.declared.span.Span.{Span}
use Rattle.csub_types.specs.declared.kind.IntKind.{IntKind}
use Rattle.csub_tree.specs.declared.name.Name.{Name as NameAt}
use Rattle.csub_tree.specs.Statements.{Stmts}
use Rattle.csub_objects.specs.Types.{Name}
use Rattle.csub_scopes.specs.Scopes.{HasTypes}
use Rattle.csub_rules.specs.declared.fault.Fault.{Fault}
use Rattle.csub_rules.specs.Faults.{fault_if, ◌or_earlier◌, Covers, IsFirst}
use Rattle.csub_rules.specs.Here.{Here}
use Rattle.csub_rules.specs.StmtFaults.{lines_fault}
use Rattle.csub_rules.specs.Labels.{labels_of_lines, past_names, stands_in, twice_fault, IsNameOf, this_name, next_name, NameTwice, of_this_name, of_later_name, NamesDiffer}
use Rattle.csub_rules.specs.Bodies.{in_body, body_fault, BrokenBody, by_line, m2_label, FineBody}
use Rattle.csub_rules.proofs.LawsEarlier.{on_left, on_right, tested, neither, no_test, earlier_assoc}
use Rattle.csub_rules.proofs.LawsSound.{Gives, nothing, join, tells}
use Rattle.csub_rules.proofs.LawsUses.{is_false}
use Rattle.csub_rules.proofs.LawsSlots.{one_of, in_first, in_second}
use Rattle.csub_rules.proofs.LawsStmts.{covered_lines, sound_lines}
use Rattle.csub_rules.proofs.LawsFineStmts.{lines_found}

abbrev M2 : Span → Fault
M2 at = record { rule = 2; span = at }

-- ---- least

again : (seen : List Name) (xs : List NameAt) (y : NameAt) → IsNameOf y xs → IsTrue (stands_in y.text seen) → Covers (twice_fault seen xs) (M2 y.span)
again seen xs y (this_name y' rest) s = search (on_left, tested)
again seen xs y (next_name y' x rest i) s =
    search (on_right, again (x.text ∷ seen) rest y i (in_second (bytes_eq x.text y.text) (stands_in y.text seen) s))

pub covered_twice : (seen : List Name) (xs : List NameAt) (at : Span) → NameTwice xs at → Covers (twice_fault seen xs) (M2 at)
covered_twice seen xs at (of_this_name x y rest i e) =
    search (on_right, again (x.text ∷ seen) rest y i (in_first (bytes_eq x.text y.text) (stands_in y.text seen) e))
covered_twice seen xs at (of_later_name x rest at' w) = search (on_right, covered_twice (x.text ∷ seen) rest at w)

-- ---- sound

pub sound_twice : (P : Fault → Type 0) (seen : List Name) (xs : List NameAt) → ((y : NameAt) → IsNameOf y xs → IsTrue (stands_in y.text seen) → P (M2 y.span))
    → ((at : Span) → NameTwice xs at → P (M2 at)) → Gives (twice_fault seen xs) P
sound_twice P seen [] step twice = nothing
sound_twice P seen (x ∷ rest) step twice =
    join (tells {P = P} (stands_in x.text seen) 2 x.span (λ p. step x (this_name x rest) p)) (sound_twice P (x.text ∷ seen) rest
    (λ y i s. elim (one_of (bytes_eq x.text y.text) (stands_in y.text seen) s) [
      | inl p ↦ twice y.span (of_this_name x y rest i p)
      | inr p ↦ step y (next_name y x rest i) p
    ]) (λ at w. twice at (of_later_name x rest at w)))

-- ---- fine

pub names_differ : (seen : List Name) (xs : List NameAt) → twice_fault seen xs ≡ None → NamesDiffer seen xs
names_differ seen [] p = tt
names_differ seen (x ∷ rest) p =
    let q = neither (fault_if (stands_in x.text seen) 2 x.span) (twice_fault (x.text ∷ seen) rest) p in
    (is_false (stands_in x.text seen) (no_test (stands_in x.text seen) 2 x.span q.0), names_differ (x.text ∷ seen) rest q.1)

-- ---- the names one after the other and as a whole

pub past_names-append : (seen : List Name) (xs ys : List NameAt) → past_names seen (xs ++ ys) ≡ past_names (past_names seen xs) ys
past_names-append seen [] ys = refl
past_names-append seen (x ∷ xs) ys = past_names-append (x.text ∷ seen) xs ys

pub twice_fault-append : (seen : List Name) (xs ys : List NameAt)
    → twice_fault seen (xs ++ ys) ≡ (twice_fault seen xs or_earlier twice_fault (past_names seen xs) ys)
twice_fault-append seen [] ys = refl
twice_fault-append seen (x ∷ xs) ys =
    let this : Option Fault = fault_if (stands_in x.text seen) 2 x.span in
    ap (λ f. this or_earlier f) (twice_fault-append (x.text ∷ seen) xs ys)
    ∙ sym (earlier_assoc this (twice_fault (x.text ∷ seen) xs) (twice_fault (past_names (x.text ∷ seen) xs) ys))

-- ---- bodies

pub sound_body : (r : Option IntKind) (h : Here) (b : Stmts) → Gives (body_fault r h b) (BrokenBody r h b)
sound_body r h b =
    join (record { holds = λ f p. by_line f ((sound_lines (in_body r b) h b).holds f p) })
    (sound_twice (BrokenBody r h b) [] (labels_of_lines b) (λ y i s. absurd (cc)) (λ at w. m2_label at w))

covered_body : (r : Option IntKind) (h : Here) (b : Stmts) (g : Fault) → BrokenBody r h b g → Covers (body_fault r h b) g
covered_body r h b g (by_line f p) = search (on_left, covered_lines (in_body r b) h b g p)
covered_body r h b g (m2_label at w) = search (on_right, covered_twice [] (labels_of_lines b) at w)

pub least_body : (r : Option IntKind) (h : Here) (b : Stmts) (f g : Fault) → body_fault r h b ≡ Some f → BrokenBody r h b g → IsFirst f g
least_body r h b f g e p = let c : Covers (body_fault r h b) g = covered_body r h b g p in rw e at c

pub complete_body : (r : Option IntKind) (h : Here) (b : Stmts) (g : Fault) → body_fault r h b ≡ None → BrokenBody r h b g → ⊥
complete_body r h b g e p = let c : Covers (body_fault r h b) g = covered_body r h b g p in rw e at c

pub fine_body : (r : Option IntKind) (h : Here) (b : Stmts) → HasTypes h.scope → body_fault r h b ≡ None → FineBody r h b
fine_body r h b types p =
    let q = neither (lines_fault (in_body r b) h b) (twice_fault [] (labels_of_lines b)) p in
    ((lines_found (in_body r b) h b types q.0).fine, names_differ [] (labels_of_lines b) q.1)
