use Rattle.std.proofs.Common.{◌≡◌, ◌∙◌, ap, sym, subst, ℕ, List, length, map, rules, arith, true≢false}
use Rattle.std.specs.Prelude.{IfOk}
use Rattle.std.proofs.lemmas.Option.{slice_get_within}
use Rattle.std.proofs.lemmas.Result.{IfOk-weaker, on_err_weaker}
use Rattle.csub_semantics.specs.Types.{global_tree}
use Rattle.csub_semantics.specs.Labels.{PointLabel, label_tree}
use Rattle.edge_label.specs.Indices.{IsIndex}
use Rattle.edge_label.specs.Numbers.{AddsOnly, whole}
use Rattle.edge_label.specs.declared.table.Tables.{Tables}
use Rattle.edge_label.specs.Tables.{Extend, AreTables, AreTypeNumbers, types_of, IsInterned}
use Rattle.edge_label.proofs.BookLemmas.{labels, keeps, grows, at_either, still_book, same_labels, unchanged, unchanged_book, adds}
use Rattle.edge_label.proofs.CodeLemmas.{codes}
use Rattle.edge_label.proofs.TableLemmas.{Extend-trans, AreTypeNumbers-extends}
use Rattle.edge_label.proofs.book.LabelBook.intern.Goals as goal
use Rattle.edge_label.proofs.book.LabelBook.intern.Goals.{After-drop-types-2}

pub invariant_of-self : goal.invariant_of-self
invariant_of-self c = still_book c.self.inside.tables c.number_types.new.tables c.self.inside.codes.keys c.in_err-types.ensures.grows c.in_err-types.ensures.sound c.self.invariant

pub returns-in_err-types-clause-err : goal.returns-in_err-types-clause-err
returns-in_err-types-clause-err c =
    let same : labels c.number_types.new.tables c.self.inside.codes.keys ≡ c.args.self.now =
    same_labels c.self.inside.tables c.number_types.new.tables c.self.inside.codes.keys c.in_err-types.ensures.grows c.in_err-types.ensures.sound c.self.invariant ∙ c.self.view_is in
    search (rules, same)

pub number_globals-requires : goal.number_globals-requires
number_globals-requires c = record { tagged = λ trusted. absurd (true≢false (sym trusted)) }

pub invariant_of-self-in_err-numbers : goal.invariant_of-self-in_err-numbers
invariant_of-self-in_err-numbers c =
    still_book c.self.inside.tables c.number_globals.new.tables c.self.inside.codes.keys
    (Extend-trans c.self.inside.tables c.number_types.new.tables c.number_globals.new.tables c.in_ok-types.ensures.grows c.in_err-numbers.ensures.grows)
    (λ sound. c.in_err-numbers.ensures.sound (c.in_ok-types.ensures.sound sound)) c.self.invariant

pub returns-in_err-numbers-clause-err : goal.returns-in_err-numbers-clause-err
returns-in_err-numbers-clause-err c =
    let same : labels c.number_globals.new.tables c.self.inside.codes.keys ≡ c.args.self.now =
    same_labels c.self.inside.tables c.number_globals.new.tables c.self.inside.codes.keys
    (Extend-trans c.self.inside.tables c.number_types.new.tables c.number_globals.new.tables c.in_ok-types.ensures.grows c.in_err-numbers.ensures.grows)
    (λ sound. c.in_err-numbers.ensures.sound (c.in_ok-types.ensures.sound sound)) c.self.invariant ∙ c.self.view_is in
    search (rules, same)

-- the tables have grown by the types and by the globals
abbrev tables : After-drop-types-2 → Tables
tables c = c.number_globals.new.tables

grown : (c : After-drop-types-2) → Extend c.self.inside.tables (tables c)
grown c = Extend-trans c.self.inside.tables c.number_types.new.tables (tables c) c.in_ok-types.ensures.grows c.in_ok-numbers.ensures.grows

sound : (c : After-drop-types-2) → AreTables c.self.inside.tables → AreTables (tables c)
sound c is = c.in_ok-numbers.ensures.sound (c.in_ok-types.ensures.sound is)

-- the numbers of the types
typed : (c : After-drop-types-2) → AreTypeNumbers (tables c) c.deref.result.now (types_of (label_tree c.args.label.now))
typed c =
    subst (λ numbers. AreTypeNumbers (tables c) numbers (types_of (label_tree c.args.label.now))) (sym c.deref.ensures.value)
    (AreTypeNumbers-extends c.number_types.new.tables (tables c) _ (types_of (label_tree c.args.label.now)) c.in_ok-numbers.ensures.grows
    (c.in_ok-types.ensures.numbers c.self.invariant.sound))

-- those of the globals
index : (c : After-drop-types-2) → IsIndex (tables c) (map global_tree c.args.globals.now) c.in_ok-numbers.numbers.by_name.entries
index c = c.in_ok-numbers.ensures.numbers (c.in_ok-types.ensures.sound c.self.invariant.sound)

-- what the insertion of the code gives
abbrev Interned : After-drop-types-2 → ℕ → Type 0
Interned c n = IsInterned (tables c) (codes c.self.inside.codes.keys) (codes c.intern_code.new.codes.keys) n (whole (map global_tree c.args.globals.now) (label_tree c.args.label.now))

interned : (c : After-drop-types-2) → IfOk c.intern_code.result (Interned c)
interned c =
    let book = still_book c.self.inside.tables (tables c) c.self.inside.codes.keys (grown c) (sound c) c.self.invariant in
    IfOk-weaker c.intern_code.result _ (Interned c) (λ n is. is (tables c) (map global_tree c.args.globals.now) (typed c) (index c) book) c.intern_code.ensures.interned

same_book : (c : After-drop-types-2) → c.intern_code.new.codes.keys ≡ c.self.inside.codes.keys → labels (tables c) c.intern_code.new.codes.keys ≡ c.args.self.now
same_book c same =
    unchanged c.self.inside.tables (tables c) c.self.inside.codes.keys (grown c) (sound c) c.self.invariant c.intern_code.new.codes.keys same ∙ c.self.view_is

adds_one : (c : After-drop-types-2) (n : ℕ) → Interned c n → AddsOnly c.args.self.now (labels (tables c) c.intern_code.new.codes.keys) (whole (map global_tree c.args.globals.now) (label_tree c.args.label.now))
adds_one c n is =
    subst (λ (old : List PointLabel). AddsOnly old (labels (tables c) c.intern_code.new.codes.keys) (whole (map global_tree c.args.globals.now) (label_tree c.args.label.now))) c.self.view_is
    (adds c.self.inside.tables (tables c) c.self.inside.codes.keys (grown c) (sound c) c.self.invariant c.intern_code.new.codes.keys n _ is)

pub invariant_of-self-2 : goal.invariant_of-self-2
invariant_of-self-2 c =
    at_either c.intern_code.result (Interned c) (interned c) c.intern_code.ensures.err (λ n is. is.book)
    (λ same. unchanged_book c.self.inside.tables (tables c) c.self.inside.codes.keys (grown c) (sound c) c.self.invariant c.intern_code.new.codes.keys same)

pub returns-clause-number : goal.returns-clause-number
returns-clause-number c = IfOk-weaker c.intern_code.result (Interned c) _ (λ n is. is.number) (interned c)

pub returns-clause-only : goal.returns-clause-only
returns-clause-only c = IfOk-weaker c.intern_code.result (Interned c) _ (λ n is. is.only) (interned c)

pub returns-clause-given : goal.returns-clause-given
returns-clause-given c = IfOk-weaker c.intern_code.result (Interned c) _ (λ n is. slice_get_within _ n _ is.number) (interned c)

pub returns-clause-keeps : goal.returns-clause-keeps
returns-clause-keeps c = IfOk-weaker c.intern_code.result (Interned c) _ (λ n is. keeps _ _ _ (adds_one c n is)) (interned c)

pub returns-clause-adds : goal.returns-clause-adds
returns-clause-adds c = IfOk-weaker c.intern_code.result (Interned c) _ (λ n is. adds_one c n is) (interned c)

pub returns-clause-grows : goal.returns-clause-grows
returns-clause-grows c =
    at_either c.intern_code.result (Interned c) (interned c) c.intern_code.ensures.err (λ n is. grows _ _ _ (adds_one c n is))
    (λ same. omega (arith, ap length (same_book c same)))

pub returns-clause-err : goal.returns-clause-err
returns-clause-err c = on_err_weaker c.intern_code.result (λ same. same_book c same) c.intern_code.ensures.err

pub returns-in_err-types-clause-grows : goal.returns-in_err-types-clause-grows
returns-in_err-types-clause-grows c =
    let same : labels c.number_types.new.tables c.self.inside.codes.keys ≡ c.args.self.now =
    same_labels c.self.inside.tables c.number_types.new.tables c.self.inside.codes.keys c.in_err-types.ensures.grows c.in_err-types.ensures.sound c.self.invariant ∙ c.self.view_is in
    omega (arith, ap length same)

pub returns-in_err-numbers-clause-grows : goal.returns-in_err-numbers-clause-grows
returns-in_err-numbers-clause-grows c =
    let same : labels c.number_globals.new.tables c.self.inside.codes.keys ≡ c.args.self.now =
    same_labels c.self.inside.tables c.number_globals.new.tables c.self.inside.codes.keys
    (Extend-trans c.self.inside.tables c.number_types.new.tables c.number_globals.new.tables c.in_ok-types.ensures.grows c.in_err-numbers.ensures.grows)
    (λ sound. c.in_err-numbers.ensures.sound (c.in_ok-types.ensures.sound sound)) c.self.invariant ∙ c.self.view_is in
    omega (arith, ap length same)
