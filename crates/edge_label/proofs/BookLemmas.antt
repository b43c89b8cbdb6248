-- Books of labels over the tables and the codes that they keep.
use Rattle.std.proofs.Common.{◌≡◌, ◌≤◌, ℕ, zero, suc, List, [], ◌∷◌, ◌++◌, Bool, length, map, Vec, refl, sym, ap, ap₂, subst, ◌∙◌, inl, inr, arith, slice_get, length-append, Some}
use Rattle.std.specs.Prelude.{Result, Ok, Err, IfOk, OnErr}
use Rattle.std.specs.declared.alloc.Global.{Global}
use Rattle.std.proofs.lemmas.List.{map-append}
use Rattle.std.proofs.lemmas.Option.{same_Some}
use Rattle.csub_semantics.specs.Labels.{PointLabel}
use Rattle.edge_label.specs.Numbers.{HasNumber, HaveNumbers, KeepsNumbers, AddsOnly}
use Rattle.edge_label.specs.declared.table.Tables.{Tables}
use Rattle.edge_label.specs.Tables.{Extend, AreTables, IsCode, label_in, IsBook, IsInterned, Grows}
use Rattle.edge_label.proofs.CodeLemmas.{Keys, codes, Inserted, Distinct, StandsAt, inserted, one_number}
use Rattle.edge_label.proofs.TableLemmas.{head_tail, label_read, one_code, still_labels, still_written}

-- the labels of a set of codes
abbrev pub labels : Tables → Keys → List PointLabel
labels tables keys = map (label_in tables) (codes keys)

HasNumber-push : (book : List PointLabel) (last label : PointLabel) (n : ℕ) → HasNumber book n label → HasNumber (book ++ last ∷ []) n label
HasNumber-push [] last label n has = absurd cc
HasNumber-push (l ∷ book) last label zero has = has
HasNumber-push (l ∷ book) last label (suc n) has = HasNumber-push book last label n has

pub keeps : (old new : List PointLabel) (label : PointLabel) → AddsOnly old new label → KeepsNumbers old new
keeps old new label (inl e) = λ n l has. ap (λ book. slice_get book n) e ∙ has
keeps old new label (inr e) = λ n l has. ap (λ book. slice_get book n) e ∙ HasNumber-push old label l n has

pub grows : (old new : List PointLabel) (label : PointLabel) → AddsOnly old new label → length old ≤ length new
grows old new label (inl e) = omega (arith, ap length e)
grows old new label (inr e) = omega (arith, ap length e, length-append old (label ∷ []))

-- numbers are equal exactly where the labels are
pub same_numbers : (tables : Tables) (keys : Keys) → Distinct keys → IsBook tables (codes keys) → (i j : ℕ) (x y : PointLabel)
    → HasNumber (labels tables keys) i x → HasNumber (labels tables keys) j y → (i ≡ j → x ≡ y) × (x ≡ y → i ≡ j)
same_numbers tables keys distinct book i j x y at_i at_j = (
  λ e. same_Some _ _ (sym at_i ∙ ap (slice_get (labels tables keys)) e ∙ at_j),
  λ e. one_number (IsCode tables) (label_in tables) (label_read tables book.sound) (one_code tables book.sound) keys distinct book.written i j x at_i (at_j ∙ ap Some (sym e)),
)

-- a book over tables that have grown
pub grown_book : (tables new : Tables) (lists : List (List ℕ)) → Extend tables new → (AreTables tables → AreTables new) → IsBook tables lists → IsBook new lists
grown_book tables new lists grown sound book = record { sound = sound book.sound; written = still_written tables new grown (sound book.sound) lists book.written }

-- what an insertion of a label's code leaves
pub interned : (there : Bool) (tables : Tables) (keys new_keys : Keys) (n : ℕ) (value : Vec ℕ Global) (label : PointLabel) → IsBook tables (codes keys)
    → Inserted there keys new_keys value → Distinct new_keys → StandsAt new_keys n value → IsCode tables label value.items → IsInterned tables (codes keys) (codes new_keys) n label
interned there tables keys new_keys n value label book e distinct stands is =
    let read = label_read tables book.sound in
    let alone = one_code tables book.sound in
    let after = inserted (IsCode tables) (label_in tables) read alone there keys new_keys n value label book.written e stands is in
    record {
      book = record { sound = book.sound; written = after.written };
      number = after.number;
      only = λ m has. one_number (IsCode tables) (label_in tables) read alone new_keys distinct after.written m n label has after.number;
      adds_only = after.adds_only;
    }

-- numbers stay where the book grows
numbers_stay : (old new : List PointLabel) (numbers : List ℕ) (given : List PointLabel) → KeepsNumbers old new → HaveNumbers old numbers given → HaveNumbers new numbers given
numbers_stay old new [] [] keeps_old have = refl
numbers_stay old new [] (l ∷ given) keeps_old have = absurd cc
numbers_stay old new (n ∷ numbers) [] keeps_old have = absurd cc
numbers_stay old new (n ∷ numbers) (l ∷ given) keeps_old have =
    let both = head_tail _ _ _ _ have in
    ap₂ (λ x xs. x ∷ xs) (keeps_old n l both.0) (numbers_stay old new numbers given keeps_old both.1)

-- a label more and its number
pub one_more : (old new : List PointLabel) (numbers : List ℕ) (given : List PointLabel) (n : ℕ) (label : PointLabel) → KeepsNumbers old new → HaveNumbers old numbers given → HasNumber new n label
    → HaveNumbers new (numbers ++ n ∷ []) (given ++ label ∷ [])
one_more old new numbers given n label keeps_old have has =
    map-append (slice_get new) numbers (n ∷ []) ∙ ap₂ (λ x y. x ++ y) (numbers_stay old new numbers given keeps_old have) (ap (λ o. o ∷ []) has) ∙ sym (map-append Some given (label ∷ []))

-- the same for the labels of codes
pub more_codes : (tables : Tables) (first second third : List (List ℕ)) (n : ℕ) (label : PointLabel) → Grows tables first second → IsInterned tables second third n label → Grows tables first third
more_codes tables first second third n label before after = record {
  book = after.book;
  keeps = λ m l has. keeps _ _ label after.adds_only m l (before.keeps m l has);
}

pub one_more_code : (tables : Tables) (codes new : List (List ℕ)) (numbers : List ℕ) (given : List PointLabel) (n : ℕ) (label : PointLabel) → IsInterned tables codes new n label
    → HaveNumbers (map (label_in tables) codes) numbers given → HaveNumbers (map (label_in tables) new) (numbers ++ n ∷ []) (given ++ label ∷ [])
one_more_code tables codes new numbers given n label after have = one_more _ _ numbers given n label (keeps _ _ label after.adds_only) have after.number

-- what holds after a success and after a failure holds
pub at_either : {X E : Type 0} (r : Result X E) (P : X → Type 0) {Q R : Type 0} → IfOk r P → OnErr r Q → ((x : X) → P x → R) → (Q → R) → R
at_either (Ok x) P ok err good bad = good x ok
at_either (Err e) P ok err good bad = bad err

-- a book over tables that have grown, and after insertions of codes
module _ (tables new : Tables) (keys : Keys) (grown : Extend tables new) (sound : AreTables tables → AreTables new) (book : IsBook tables (codes keys)) where
  pub still_book : IsBook new (codes keys)
  still_book = grown_book tables new (codes keys) grown sound book

  pub same_labels : labels new keys ≡ labels tables keys
  same_labels = still_labels tables new grown (sound book.sound) (codes keys) book.written

  pub unchanged : (new_keys : Keys) → new_keys ≡ keys → labels new new_keys ≡ labels tables keys
  unchanged new_keys same = ap (labels new) same ∙ same_labels

  pub unchanged_book : (new_keys : Keys) → new_keys ≡ keys → IsBook new (codes new_keys)
  unchanged_book new_keys same = subst (λ ks. IsBook new (codes ks)) (sym same) still_book

  pub adds : (new_keys : Keys) (n : ℕ) (label : PointLabel) → IsInterned new (codes keys) (codes new_keys) n label → AddsOnly (labels tables keys) (labels new new_keys) label
  adds new_keys n label is = subst (λ (old : List PointLabel). AddsOnly old (labels new new_keys) label) same_labels is.adds_only

  pub keeps_all : (new_keys : Keys) → Grows new (codes keys) (codes new_keys) → KeepsNumbers (labels tables keys) (labels new new_keys)
  keeps_all new_keys is = subst (λ (old : List PointLabel). KeepsNumbers old (labels new new_keys)) same_labels is.keeps
