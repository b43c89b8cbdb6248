use Rattle.std.proofs.Common.{◌≡◌, ◌∙◌, ap, sym, subst, List, map}
use Rattle.std.proofs.lemmas.Result.{IfOk-weaker}
use Rattle.std.proofs.lemmas.Simd.{map-map}
use Rattle.csub_semantics.specs.Types.{global_tree}
use Rattle.csub_semantics.specs.Labels.{LabelTree, PointLabel, label_tree}
use Rattle.edge_label.specs.declared.types.Typed.{Typed}
use Rattle.edge_label.specs.declared.standing.Standing.{Standing}
use Rattle.edge_label.specs.declared.table.Tables.{Tables}
use Rattle.edge_label.specs.Indices.{IsIndex}
use Rattle.edge_label.specs.Known.{AreTyped}
use Rattle.edge_label.specs.Numbers.{HaveNumbers, KeepsNumbers, whole}
use Rattle.edge_label.specs.Tables.{Extend, AreTables, IsBook, Grows}
use Rattle.edge_label.proofs.BookLemmas.{labels, still_book, same_labels, keeps_all}
use Rattle.edge_label.proofs.CodeLemmas.{codes}
use Rattle.edge_label.proofs.KnownLemmas.{typed_stays}
use Rattle.edge_label.proofs.TableLemmas.{Extend-trans}
use Rattle.edge_label.proofs.book.LabelBook.intern_all.Goals as goal
use Rattle.edge_label.proofs.book.LabelBook.intern_all.Goals.{After-drop-typed-2}

pub invariant_of-self : goal.invariant_of-self
invariant_of-self c = still_book c.self.inside.tables c.number_all_types.new.tables c.self.inside.codes.keys c.in_err-typed.ensures.grows c.in_err-typed.ensures.sound c.self.invariant

pub returns-in_err-typed-clause-keeps : goal.returns-in_err-typed-clause-keeps
returns-in_err-typed-clause-keeps c =
    let same : labels c.number_all_types.new.tables c.self.inside.codes.keys ≡ c.args.self.now =
    same_labels c.self.inside.tables c.number_all_types.new.tables c.self.inside.codes.keys c.in_err-typed.ensures.grows c.in_err-typed.ensures.sound c.self.invariant ∙ c.self.view_is in
    subst (λ (book : List PointLabel). KeepsNumbers c.args.self.now book) (sym same) (λ n label has. has)

pub number_all_types-requires : goal.number_all_types-requires
number_all_types-requires c = record { declared = (c.requires.declared.0, c.requires.declared.1) }

pub number_globals-requires : goal.number_globals-requires
number_globals-requires c = record { tagged = λ trusted. (c.requires.declared.0.by_tag, c.requires.declared.2) }

pub invariant_of-self-in_err-numbers : goal.invariant_of-self-in_err-numbers
invariant_of-self-in_err-numbers c =
    still_book c.self.inside.tables c.number_globals.new.tables c.self.inside.codes.keys
    (Extend-trans c.self.inside.tables c.number_all_types.new.tables c.number_globals.new.tables c.in_ok-typed.ensures.grows c.in_err-numbers.ensures.grows)
    (λ sound. c.in_err-numbers.ensures.sound (c.in_ok-typed.ensures.sound sound)) c.self.invariant

pub returns-in_err-numbers-clause-keeps : goal.returns-in_err-numbers-clause-keeps
returns-in_err-numbers-clause-keeps c =
    let same : labels c.number_globals.new.tables c.self.inside.codes.keys ≡ c.args.self.now =
    same_labels c.self.inside.tables c.number_globals.new.tables c.self.inside.codes.keys
    (Extend-trans c.self.inside.tables c.number_all_types.new.tables c.number_globals.new.tables c.in_ok-typed.ensures.grows c.in_err-numbers.ensures.grows)
    (λ sound. c.in_err-numbers.ensures.sound (c.in_ok-typed.ensures.sound sound)) c.self.invariant ∙ c.self.view_is in
    subst (λ (book : List PointLabel). KeepsNumbers c.args.self.now book) (sym same) (λ n label has. has)

-- the tables have grown by the types and by the globals
abbrev tables : After-drop-typed-2 → Tables
tables c = c.number_globals.new.tables

grown_tables : (c : After-drop-typed-2) → Extend c.self.inside.tables (tables c)
grown_tables c = Extend-trans c.self.inside.tables c.number_all_types.new.tables (tables c) c.in_ok-typed.ensures.grows c.in_ok-numbers.ensures.grows

sound : (c : After-drop-typed-2) → AreTables c.self.inside.tables → AreTables (tables c)
sound c is = c.in_ok-numbers.ensures.sound (c.in_ok-typed.ensures.sound is)

index : (c : After-drop-typed-2) → IsIndex (tables c) (map global_tree c.args.globals.now) c.in_ok-numbers.numbers.by_name.entries
index c = c.in_ok-numbers.ensures.numbers (c.in_ok-typed.ensures.sound c.self.invariant.sound)

typed : (c : After-drop-typed-2) → AreTyped (tables c) c.deref.result.now
typed c =
    subst (AreTyped (tables c)) (sym c.deref.ensures.value)
    (typed_stays c.number_all_types.new.tables (tables c) _ c.in_ok-numbers.ensures.grows (c.in_ok-typed.ensures.typed c.self.invariant.sound))

book : (c : After-drop-typed-2) → IsBook (tables c) (codes c.self.inside.codes.keys)
book c = still_book c.self.inside.tables (tables c) c.self.inside.codes.keys (grown_tables c) (sound c) c.self.invariant

grown : (c : After-drop-typed-2) → Grows (tables c) (codes c.self.inside.codes.keys) (codes c.intern_codes.new.codes.keys)
grown c = c.intern_codes.ensures.grows (tables c) (map global_tree c.args.globals.now) (typed c) (index c) (book c)

pub invariant_of-self-2 : goal.invariant_of-self-2
invariant_of-self-2 c = (grown c).book

pub returns-clause-numbers : goal.returns-clause-numbers
returns-clause-numbers c =
    let of_tree : LabelTree → PointLabel = whole (map global_tree c.args.globals.now) in
    let same : map (λ (t : Typed). of_tree (label_tree t.label.now)) c.deref.result.now ≡ map (λ (s : Standing). of_tree (label_tree s.label.now)) c.args.labels.now =
    ap (map (λ (t : Typed). of_tree (label_tree t.label.now))) c.deref.ensures.value
    ∙ sym (map-map of_tree (λ (t : Typed). label_tree t.label.now) _) ∙ ap (map of_tree) c.in_ok-typed.ensures.labels
    ∙ map-map of_tree (λ (s : Standing). label_tree s.label.now) c.args.labels.now in
    IfOk-weaker c.intern_codes.result _ _
    (λ row have. subst (λ given. HaveNumbers (labels (tables c) c.intern_codes.new.codes.keys) row.items given) same (have (tables c) (map global_tree c.args.globals.now) (typed c) (index c) (book c)))
    c.intern_codes.ensures.numbers

pub returns-clause-keeps : goal.returns-clause-keeps
returns-clause-keeps c =
    subst (λ (old : List PointLabel). KeepsNumbers old (labels (tables c) c.intern_codes.new.codes.keys)) c.self.view_is
    (keeps_all c.self.inside.tables (tables c) c.self.inside.codes.keys (grown_tables c) (sound c) c.self.invariant c.intern_codes.new.codes.keys (grown c))
