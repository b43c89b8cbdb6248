-- Lines that are written word by word.
use Rattle.std.proofs.Common.{◌≡◌, ℕ, ◌+◌, ◌<◌, ◌≤◌, List, [], ◌∷◌, ◌++◌, length, get_or, drop, Option, Some, refl, sym, ap, ◌∙◌, append_assoc, append-nil}
use Rattle.std.specs.Prelude.{codes}
use Rattle.std.specs.Fmt.{decimal}
use Rattle.std.proofs.lemmas.List.{at_drop_more, at_drop_all}
use Rattle.line_text.specs.Lines.{text_of_lines}
use Rattle.line_text.specs.Words.{line_of_words}
use Rattle.csub_objects.specs.Types.{Name}
use Rattle.csub_semantics.specs.Points.{PointTree}
use Rattle.csub_semantics.specs.Syntax.{ProgramTree}
use Rattle.csub_semantics.specs.Flows.{Edge, flow_of}
use Rattle.csub_semantics.specs.Numbers.{name_at}
use Rattle.dual_walk.specs.declared.fact.Fact.{Fact}
use Rattle.dual_walk.specs.declared.fact.Why.{Why}
use Rattle.dual_walk.specs.declared.fact.Why.TheVariants.{Start, Step, Call, Over}
use Rattle.dual_walk.specs.Books.{name_in}
use Rattle.explain_report.specs.WalkTexts.{exit_text}
use Rattle.explain_report.specs.Explanations.{reason_words, fact_line, fact_lines, new_place, back_words, parting_line}

-- ---- words

-- words, and more words
words_joined : (word : List ℕ) (words : List (List ℕ)) (next : List ℕ) (more : List (List ℕ)) → line_of_words (word ∷ (words ++ next ∷ more)) ≡ line_of_words (word ∷ words) ++ 32 ∷ line_of_words (next ∷ more)
words_joined word [] next more = refl
words_joined word (w ∷ words) next more =
    ap (λ line. word ++ 32 ∷ line) (words_joined w words next more) ∙ sym (append_assoc word (32 ∷ line_of_words (w ∷ words)) (32 ∷ line_of_words (next ∷ more)))

-- a text with a space and more words
spaced : (start before after whole line rest : List ℕ) → before ≡ start ++ line → after ≡ before ++ 32 ∷ [] → whole ≡ after ++ rest → whole ≡ start ++ (line ++ 32 ∷ rest)
spaced start before after whole line rest a b c =
    c ∙ ap (λ text. text ++ rest) (b ∙ ap (λ text. text ++ 32 ∷ []) a) ∙ append_assoc (start ++ line) (32 ∷ []) rest ∙ append_assoc start line (32 ∷ rest)

-- three words, two more behind them, and the end of the line
pub parts_told : (start a b c d e named first placed second told whole : List ℕ) → named ≡ start ++ line_of_words (a ∷ b ∷ c ∷ []) → first ≡ named ++ 32 ∷ [] → placed ≡ first ++ d
    → second ≡ placed ++ 32 ∷ [] → told ≡ second ++ e → whole ≡ told ++ 10 ∷ [] → whole ≡ start ++ line_of_words (a ∷ b ∷ c ∷ d ∷ e ∷ []) ++ 10 ∷ []
parts_told start a b c d e named first placed second told whole s1 s2 s3 s4 s5 s6 =
    let line = line_of_words (a ∷ b ∷ c ∷ []) in
    let front : placed ≡ start ++ (line ++ 32 ∷ d) = spaced start named first placed line d s1 s2 s3 in
    let both : told ≡ start ++ ((line ++ 32 ∷ d) ++ 32 ∷ e) = spaced start placed second told (line ++ 32 ∷ d) e front s4 s5 in
    s6 ∙ ap (λ text. text ++ 10 ∷ []) (both ∙ ap (λ l. start ++ l) (append_assoc line (32 ∷ d) (32 ∷ e) ∙ sym (words_joined a (b ∷ c ∷ []) d (e ∷ []))))

-- ---- the line of a fact

module _ (P : ProgramTree) where
  reason_joined : (word : List ℕ) (words : List (List ℕ)) (why : Why) → line_of_words (word ∷ (words ++ reason_words P why)) ≡ line_of_words (word ∷ words) ++ 32 ∷ line_of_words (reason_words P why)
  reason_joined word words Start = words_joined word words (codes "start") []
  reason_joined word words (Step j e) = words_joined word words (codes "step") _
  reason_joined word words (Call j) = words_joined word words (codes "call") _
  reason_joined word words (Over j m) = words_joined word words (codes "over") _

  abbrev pub pair_line : ℕ → Name → Fact → List ℕ
  pair_line place name c = line_of_words (decimal (place + 1) ∷ name ∷ decimal c.old ∷ decimal c.new ∷ [])

  pub fact_told : (place : ℕ) (c : Fact) (name : Name) (start pair space told whole : List ℕ) → name_at P c.function ≡ Some name → pair ≡ start ++ pair_line place name c → space ≡ pair ++ 32 ∷ []
      → told ≡ space ++ line_of_words (reason_words P c.why) → whole ≡ told ++ 10 ∷ [] → whole ≡ start ++ fact_line P place c ++ 10 ∷ []
  fact_told place c name start pair space told whole named a b d e =
      e ∙ ap (λ text. text ++ 10 ∷ []) (spaced start pair space told (pair_line place name c) (line_of_words (reason_words P c.why)) a b d
      ∙ ap (λ line. start ++ line) (sym (reason_joined (decimal (place + 1)) (name ∷ decimal c.old ∷ decimal c.new ∷ []) c.why)
      ∙ ap (λ o. line_of_words (decimal (place + 1) ∷ name_in o ∷ decimal c.old ∷ decimal c.new ∷ reason_words P c.why)) (sym named)))

  -- ---- the lines of facts

  abbrev pub MakesFacts : List Fact → ℕ → List ℕ → List ℕ → Type 0
  MakesFacts facts i text whole = text ++ text_of_lines (fact_lines P i (drop i facts)) ≡ whole

  pub facts_next : (facts : List Fact) (i : ℕ) (d : Fact) (before after whole : List ℕ) → i < length facts → after ≡ before ++ fact_line P i (get_or facts i d) ++ 10 ∷ []
      → MakesFacts facts i before whole → MakesFacts facts (i + 1) after whole
  facts_next facts i d before after whole within more h =
      let line = fact_line P i (get_or facts i d) in
      let rest = text_of_lines (fact_lines P (i + 1) (drop (i + 1) facts)) in
      ap (λ text. text ++ rest) more ∙ append_assoc (before ++ line) (10 ∷ []) rest ∙ append_assoc before line (10 ∷ rest)
      ∙ ap (λ lines. before ++ text_of_lines lines) (sym (at_drop_more (fact_lines P i) facts i d within)) ∙ h

  pub facts_all : (facts : List Fact) (i : ℕ) (text whole : List ℕ) → length facts ≤ i → MakesFacts facts i text whole → text ≡ whole
  facts_all facts i text whole all h = sym (append-nil text) ∙ ap (λ lines. text ++ text_of_lines lines) (sym (at_drop_all (fact_lines P i) facts i all)) ∙ h

-- ---- the line of the danger

pub parting_told : (P' : ProgramTree) (source' : List ℕ) (edge : Edge) (place : ℕ) (back : Option ℕ) (other : PointTree) (exit start shown space way space2 there whole : List ℕ)
    → shown ≡ start ++ line_of_words (codes "danger" ∷ decimal (place + 1) ∷ back_words back) → space ≡ shown ++ 32 ∷ [] → way ≡ space ++ exit → exit ≡ exit_text edge.exit → space2 ≡ way ++ 32 ∷ []
    → there ≡ space2 ++ new_place P' source' edge.function ((flow_of P').succ edge.function other edge.exit) → whole ≡ there ++ 10 ∷ []
    → whole ≡ start ++ parting_line P' source' edge place back other ++ 10 ∷ []
parting_told P' source' edge place back other exit start shown space way space2 there whole a b c d e f g =
    let to = new_place P' source' edge.function ((flow_of P').succ edge.function other edge.exit) in
    let danger = line_of_words (codes "danger" ∷ decimal (place + 1) ∷ back_words back) in
    let first : way ≡ start ++ (danger ++ 32 ∷ exit) = spaced start shown space way danger exit a b c in
    let second : there ≡ start ++ ((danger ++ 32 ∷ exit) ++ 32 ∷ to) = spaced start way space2 there (danger ++ 32 ∷ exit) to first e f in
    g ∙ ap (λ text. text ++ 10 ∷ []) (second ∙ ap (λ x. start ++ ((danger ++ 32 ∷ x) ++ 32 ∷ to)) d
    ∙ ap (λ line. start ++ line) (append_assoc danger (32 ∷ exit_text edge.exit) (32 ∷ to) ∙ sym (words_joined (codes "danger") (decimal (place + 1) ∷ back_words back) (exit_text edge.exit) (to ∷ []))))

-- ---- the text

pub lines_joined : (lines others : List (List ℕ)) → text_of_lines (lines ++ others) ≡ text_of_lines lines ++ text_of_lines others
lines_joined [] others = refl
lines_joined (line ∷ lines) others = ap (λ rest. line ++ 10 ∷ rest) (lines_joined lines others) ∙ sym (append_assoc line (10 ∷ text_of_lines lines) (text_of_lines others))

grouped : (start first lines last : List ℕ) → start ++ first ++ 10 ∷ [] ++ lines ++ last ++ 10 ∷ [] ≡ start ++ (first ++ 10 ∷ (lines ++ (last ++ 10 ∷ [])))
grouped start first lines last = simp append_assoc

-- a line, lines, and a last line
pub lines_told : (first : List ℕ) (lines : List (List ℕ)) (last start one all whole : List ℕ) → one ≡ start ++ first ++ 10 ∷ [] → all ≡ one ++ text_of_lines lines → whole ≡ all ++ last ++ 10 ∷ []
    → whole ≡ start ++ text_of_lines (first ∷ lines ++ last ∷ [])
lines_told first lines last start one all whole a b c =
    c ∙ ap (λ text. text ++ last ++ 10 ∷ []) (b ∙ ap (λ text. text ++ text_of_lines lines) a) ∙ grouped start first (text_of_lines lines) last
    ∙ ap (λ rest. start ++ (first ++ 10 ∷ rest)) (sym (lines_joined lines (last ∷ [])))
