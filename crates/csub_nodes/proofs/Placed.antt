-- The calls of a part at its place.
use Rattle.std.proofs.Common.{◌≡◌, ◌∙◌, refl, ap, List, [], ◌∷◌, ◌++◌, map}
use Rattle.std.proofs.lemmas.List.{append-nil}
use Rattle.csub_text.specs.declared.span.Span.{Span}
use Rattle.csub_semantics.specs.declared.function.RCall.{RCall}
use Rattle.csub_semantics.specs.Syntax.{call_at, in_part, call_stage}

pub placed : (at : Span) (cs : List RCall) → map (call_stage at) cs ≡ map (in_part at) (map call_at cs)
placed at [] = refl
placed at (c ∷ cs) = ap (λ ss. call_stage at c ∷ ss) (placed at cs)

pub alone : (at : Span) (cs : List RCall) → map (call_stage at) cs ++ [] ≡ map (in_part at) (map call_at cs)
alone at cs = append-nil (map (call_stage at) cs) ∙ placed at cs
