-- The numbers of objects among those of their name: what is declared later has another one.
use Rattle.std.proofs.Common.{◌≡◌, ◌<◌, ◌≤◌, ◌+◌, ℕ, arith, Bool, true, false, cond, List, [], ◌∷◌, ◌++◌, All, IsTrue, not, bytes_eq, refl, ap, ◌∙◌}
use Rattle.std.specs.Prelude.{count_by, ◌||◌}
use Rattle.std.proofs.lemmas.List.Elements.{All-nil, All-cons, All-append, All-weaker}
use Rattle.std.proofs.lemmas.List.Sums.{sum_by-cons}
use Rattle.csub_objects.specs.Types.{Name, TypeTree}
use Rattle.csub_semantics.specs.Syntax.{LocalTree}
use Rattle.csub_validity.specs.Valid.{AreOther}
use Rattle.csub_rules.specs.Labels.{stands_in}
use Rattle.program_validity.proofs.Lists.{Pairs, pairs_append, is_same}

-- how often a name stands among names
abbrev pub count : Name → List Name → ℕ
count x names = count_by (λ y. bytes_eq y x) names

count_cons : (x y : Name) (names : List Name) → count x (y ∷ names) ≡ cond (bytes_eq y x) 1 0 + count x names
count_cons x y names = sum_by-cons (λ z. cond (bytes_eq z x) 1 0) y names

at_least : (b : Bool) (m n : ℕ) → m ≡ cond b 1 0 + n → n ≤ m
at_least true m n e = omega arith
at_least false m n e = omega arith

one_more : (b : Bool) (m n : ℕ) → IsTrue b → m ≡ cond b 1 0 + n → m ≡ n + 1
one_more true m n h e = omega arith
one_more false m n h e = absurd (cc)

count_grows : (x y : Name) (names : List Name) → count x names ≤ count x (y ∷ names)
count_grows x y names = at_least (bytes_eq y x) (count x (y ∷ names)) (count x names) (count_cons x y names)

count_itself : (x : Name) (names : List Name) → count x (x ∷ names) ≡ count x names + 1
count_itself x names = one_more (bytes_eq x x) (count x (x ∷ names)) (count x names) (is_same x) (count_cons x x names)

-- a name that doesn't stand there counts as none
pub none_counted : (x : Name) (names : List Name) → IsTrue (not (stands_in x names)) → count x names ≡ 0
none_counted x [] h = refl
none_counted x (y ∷ names) h = count_cons x y names ∙ by (bytes_eq y x) h (none_counted x names)
  where
    by : (b : Bool) → IsTrue (not (b || stands_in x names)) → (IsTrue (not (stands_in x names)) → count x names ≡ 0) → cond b 1 0 + count x names ≡ 0
    by true h none = absurd (cc)
    by false h none = let z = none h in omega arith

-- the objects that are declared between two places, where these names are declared before and behind
pub record Numbered (before after : List Name) (os : List LocalTree) : Type 0 where
  pub more : (x : Name) → count x before ≤ count x after
  pub low : All (λ (o : LocalTree). count o.name before < o.number) os
  pub high : All (λ (o : LocalTree). o.number ≤ count o.name after) os
  pub pairs : Pairs AreOther os

pub no_objects : (before : List Name) → Numbered before before []
no_objects before = record {
  more = λ x. omega arith;
  low = All-nil (λ (o : LocalTree). count o.name before < o.number);
  high = All-nil (λ (o : LocalTree). o.number ≤ count o.name before);
  pairs = tt;
}

pub one_object : (before : List Name) (x : Name) (n : ℕ) (t : TypeTree) → n ≡ count x before + 1
    → Numbered before (x ∷ before) (record { name = x; number = n; ctype = t } ∷ [])
one_object before x n t e =
    let o : LocalTree = record { name = x; number = n; ctype = t } in
    let itself = count_itself x before in
    record {
      more = λ y. count_grows y x before;
      low =
          All-cons (λ (k : LocalTree). count k.name before < k.number) o [] (omega arith)
          (All-nil (λ (k : LocalTree). count k.name before < k.number));
      high =
          All-cons (λ (k : LocalTree). k.number ≤ count k.name (x ∷ before)) o [] (omega arith)
          (All-nil (λ (k : LocalTree). k.number ≤ count k.name (x ∷ before)));
      pairs = (All-nil (AreOther o), tt);
    }

other : (names : List Name) (o k : LocalTree) → o.number ≤ count o.name names → count k.name names < k.number → AreOther o k
other names o k h l e n = let same : count o.name names ≡ count k.name names = ap (λ x. count x names) e in absurd (omega arith)

lower : (m n k : ℕ) → m ≤ n → n < k → m < k
lower m n k h l = omega arith

higher : (m n k : ℕ) → m ≤ n → n ≤ k → m ≤ k
higher m n k h l = omega arith

pub joins : (a b c : List Name) (os ps : List LocalTree) → Numbered a b os → Numbered b c ps → Numbered a c (os ++ ps)
joins a b c os ps p q = record {
  more = λ x. higher (count x a) (count x b) (count x c) (p.more x) (q.more x);
  low =
      All-append (λ (o : LocalTree). count o.name a < o.number) os ps p.low
      (All-weaker (λ (o : LocalTree). count o.name b < o.number) (λ (o : LocalTree). count o.name a < o.number)
      (λ o h. lower (count o.name a) (count o.name b) o.number (p.more o.name) h) ps q.low);
  high =
      All-append (λ (o : LocalTree). o.number ≤ count o.name c) os ps
      (All-weaker (λ (o : LocalTree). o.number ≤ count o.name b) (λ (o : LocalTree). o.number ≤ count o.name c)
      (λ o h. higher o.number (count o.name b) (count o.name c) h (q.more o.name)) os p.high) q.high;
  pairs =
      pairs_append AreOther os ps p.pairs q.pairs
      (All-weaker (λ (o : LocalTree). o.number ≤ count o.name b) (λ (o : LocalTree). All (AreOther o) ps)
      (λ o h. All-weaker (λ (k : LocalTree). count k.name b < k.number) (AreOther o) (λ k l. other b o k h l) ps q.low) os p.high);
}
