-- A text that is read line by line, and the first line that breaks the rule of its place.
use Rattle.std.proofs.Common.{◌≡◌, ◌+◌, ℕ, List, ◌∷◌, ◌++◌, drop, refl, sym, ap, subst, ◌∙◌, inl, inr, arith}
use Rattle.std.specs.List.{slice_get}
use Rattle.std.proofs.lemmas.Bool.{cases_lt}
use Rattle.std.proofs.lemmas.List.{drop-drop}
use Rattle.line_text.specs.Lines.{lines_of, HasLine}
use Rattle.cert_text.specs.declared.bounds.Bounds.{Bounds}
use Rattle.cert_text.specs.Faults.{IsReadTo}
use Rattle.cert_text.specs.Rules.{Rule, number_of, IsAsked, Keeps, IsFirstFault}
use Rattle.cert_text.proofs.AskedLemmas.{IsOnly, asked_some}
use Rattle.line_text.proofs.LawsOfTexts.{lines_cut, has_next}
use Rattle.line_text.proofs.LawsOfValues.{IsPlain}

-- nothing is read at first
pub none_read : (bounds : Bounds) (text : List ℕ) → IsReadTo bounds text 0 text
none_read bounds text = record {
  lines = refl;
  keeps = λ m rule low asked. absurd (omega (arith, asked_some bounds text m rule asked));
}

-- one more line is read, which keeps the rule of its place
pub one_more : (bounds : Bounds) (text rest line left : List ℕ) (n : ℕ) (rule : Rule) → IsOnly bounds text (n + 1) rule → IsReadTo bounds text n rest → rest ≡ line ++ 10 ∷ left → IsPlain line
    → (HasLine text (n + 1) line → Keeps bounds text rule (n + 1)) → IsReadTo bounds text (n + 1) left
one_more bounds text rest line left n rule only read cut plain keeps = record {
  lines = sym (drop-drop 1 n (lines_of text)) ∙ ap (drop 1) (read.lines ∙ lines_cut rest line left cut plain);
  keeps = λ m other low asked. elim (cases_lt n m) [
    | inl last ↦
        let same : m ≡ n + 1 = omega arith in
        let is : other ≡ rule = only.only other (subst (IsAsked bounds text other) same asked) in
        subst (Keeps bounds text other) (sym same) (subst (λ r. Keeps bounds text r (n + 1)) (sym is) (keeps (has_next text rest line left n read.lines cut plain)))
    | inr before ↦ read.keeps m other before asked
  ];
}

-- the line after those that are read breaks the rule of its place
pub fault_next : (bounds : Bounds) (text rest : List ℕ) (n : ℕ) (rule : Rule) → IsAsked bounds text rule (n + 1) → IsReadTo bounds text n rest → ¬ Keeps bounds text rule (n + 1)
    → IsFirstFault bounds text (n + 1) (number_of rule)
fault_next bounds text rest n rule asked read broken = record {
  rule = rule;
  number = refl;
  asked = asked;
  broken = broken;
  earlier = λ m other before. read.keeps m other (omega arith);
}

pub at_line : (bounds : Bounds) (text rest : List ℕ) (n m : ℕ) → n ≡ m → IsReadTo bounds text n rest → IsReadTo bounds text m rest
at_line bounds text rest n m same read = subst (λ k. IsReadTo bounds text k rest) same read

-- a text that begins with a line has it as its first
pub first_is : (text line rest : List ℕ) → text ≡ line ++ 10 ∷ rest → IsPlain line → HasLine text 1 line
first_is text line rest cut plain = ap (λ ls. slice_get ls 0) (lines_cut text line rest cut plain)
