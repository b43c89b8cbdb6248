use Rattle.std.proofs.Common.{◌≡◌, ℕ, ◌-◌, List, min, length, take, drop, refl, ap, ◌∙◌, arith}
use Rattle.std.proofs.lemmas.List.{length-drop, take_all, take_min}
use Rattle.points_report.specs.PointTexts.{most_shown}
use Rattle.points_report.proofs.Told.{shown_told, nothing_shown}
use Rattle.points_report.proofs.point.source_text.Goals as goal

-- the bytes that may be shown
bytes_are : (source : List ℕ) (at start count : ℕ) → start ≡ min at (length source) → count ≡ min most_shown (length (take (length source - start) (drop start source)))
    → take count (take (length source - start) (drop start source)) ≡ take most_shown (drop (min at (length source)) source)
bytes_are source at start count s n =
    let rest = take (length source - start) (drop start source) in
    let all : rest ≡ drop start source = take_all (length source - start) (drop start source) (omega (arith, length-drop start source)) in
    ap (λ k. take k rest) n ∙ take_min most_shown rest ∙ ap (take most_shown) (all ∙ ap (λ k. drop k source) s)

pub returns-in-Some : goal.returns-in-Some
returns-in-Some c =
    let source = c.args.source.now in
    shown_told source _ c.in-Some.line.bytes.now c.in-Some.line.rest.now c.trim_ascii_end.result.now c.args.at c.in-Some.line.is_ended
    (bytes_are source c.args.at.start c.min-start.result c.min-count.result c.min-start.ensures c.min-count.ensures) c.in-Some.ensures.lines c.trim_ascii_end.ensures.value

pub returns-in-None : goal.returns-in-None
returns-in-None c =
    let source = c.args.source.now in
    nothing_shown source _ c.args.at
    (bytes_are source c.args.at.start c.min-start.result c.min-count.result c.min-start.ensures c.min-count.ensures) (c.in-None.ensures.none.0 refl)
