-- Points that are appended last first, one after another.
use Rattle.std.proofs.Common.{◌≡◌, List, [], ◌∷◌, ◌++◌, ◌∙◌, reverse, suc, arith, map, refl, ap, sym, subst, ℕ, ◌+◌, ◌<◌, length, get_or, drop, Option, Some, None, append_assoc}
use Rattle.std.specs.Option.{option_map}
use Rattle.std.proofs.lemmas.List.{reverse-append}
use Rattle.csub_text.specs.declared.span.Span.{Span}
use Rattle.csub_objects.specs.Types.{Name}
use Rattle.csub_semantics.specs.declared.function.RPart.{RPart}
use Rattle.csub_semantics.specs.declared.function.RCall.{RCall}
use Rattle.csub_semantics.specs.Labels.{LabelTree, label_tree}
use Rattle.csub_semantics.specs.Points.{at, next}
use Rattle.csub_semantics.specs.Syntax.{Stage, PartTree, StmtTree, for_loop, part_tree, call_stage, own_stage}
use Rattle.csub_semantics.specs.Successors.{Way, Around, way, looping, own_ways, last_ways}
use Rattle.flow_graph.specs.Numbers.{Numbered, count_parts, count_head, enter, enter_part, enter_parts, part_numbered, parts_numbered, head_numbered, numbered, in_for, main_ways}
use Rattle.flow_graph.proofs.Rows.{parts_from, parts_from-back}

-- a part by the stages before its last and the last
pub last_stage : (cs : PartTree) (s : Stage) (k first : ℕ) (path : List ℕ) (i : ℕ) (ways : List (Way ℕ)) (own : ℕ) → own ≡ first + length cs → part_numbered (cs ++ s ∷ []) k first path i ways ≡ part_numbered cs k first path i (way next own ∷ []) ++ record { point = at path i (k + length cs); label = s.label; span = s.span; ways = ways } ∷ []
last_stage [] s k first path i ways own e =
    ap (λ n. record { point = at path i n; label = s.label; span = s.span; ways = ways } ∷ []) (omega arith)
last_stage (c ∷ []) s k first path i ways own e =
    let here : first + 1 ≡ own = omega arith in
    ap (λ n. record { point = at path i k; label = c.label; span = c.span; ways = way next n ∷ [] } ∷ record { point = at path i (k + 1); label = s.label; span = s.span; ways = ways } ∷ []) here
last_stage (c ∷ d ∷ cs) s k first path i ways own e =
    let there : own ≡ first + 1 + length (d ∷ cs) = omega arith in
    let later : k + 1 + length (d ∷ cs) ≡ k + length (c ∷ d ∷ cs) = omega arith in
    let node : Numbered = record { point = at path i k; label = c.label; span = c.span; ways = way next (first + 1) ∷ [] } in
    ap (λ l. node ∷ l) (last_stage (d ∷ cs) s (k + 1) (first + 1) path i ways own there)
    ∙ ap (λ n. (node ∷ part_numbered (d ∷ cs) (k + 1) (first + 1) path i (way next own ∷ [])) ++ record { point = at path i n; label = s.label; span = s.span; ways = ways } ∷ []) later

-- two appendings, the later standing in front
pub two_appended : (xs ys : List Numbered) (old middle new : List Numbered) → middle ≡ old ++ reverse ys → new ≡ middle ++ reverse xs → new ≡ old ++ reverse (xs ++ ys)
two_appended xs ys old middle new e f =
    f ∙ ap (λ l. l ++ reverse xs) e ∙ append_assoc old (reverse ys) (reverse xs) ∙ ap (λ l. old ++ l) (sym (reverse-append xs ys))

-- the calls of a part in front of its own point
pub stages_emitted : (cs : PartTree) (s : Stage) (first own : ℕ) (path : List ℕ) (i : ℕ) (ways : List (Way ℕ)) (old middle new : List Numbered) → own ≡ first + length cs → middle ≡ old ++ record { point = at path i (length cs); label = s.label; span = s.span; ways = ways } ∷ [] → new ≡ middle ++ reverse (part_numbered cs 0 first path i (way next own ∷ [])) → new ≡ old ++ reverse (part_numbered (cs ++ s ∷ []) 0 first path i ways)
stages_emitted cs s first own path i ways old middle new e f g =
    let last : Numbered = record { point = at path i (0 + length cs); label = s.label; span = s.span; ways = ways } in
    let pushed : middle ≡ old ++ last ∷ [] = f ∙ ap (λ n. old ++ record { point = at path i n; label = s.label; span = s.span; ways = ways } ∷ []) (omega arith) in
    two_appended (part_numbered cs 0 first path i (way next own ∷ [])) (last ∷ []) old middle new pushed g
    ∙ ap (λ l. old ++ reverse l) (sym (last_stage cs s 0 first path i ways own e))

-- the ways out of a part's last stage
last_own : (cs : PartTree) (s : Stage) (past returned : ℕ) → last_ways (cs ++ s ∷ []) past returned ≡ own_ways s.label past returned
last_own [] s past returned = refl
last_own (c ∷ []) s past returned = refl
last_own (c ∷ d ∷ cs) s past returned = last_own (d ∷ cs) s past returned

last_call : (place : Span) (c : RCall) (cs : List RCall) (past returned : ℕ) → last_ways (map (call_stage place) (c ∷ cs)) past returned ≡ way next past ∷ []
last_call place c [] past returned = refl
last_call place c (d ∷ cs) past returned = last_call place d cs past returned

nothing_after : (place : Span) (cs : List RCall) → map (call_stage place) cs ++ [] ≡ map (call_stage place) cs
nothing_after place [] = refl
nothing_after place (c ∷ cs) = ap (λ l. call_stage place c ∷ l) (nothing_after place cs)

calls_ways : (place : Span) (cs : List RCall) (first : ℕ) (path : List ℕ) (i past returned : ℕ) → part_numbered (map (call_stage place) cs) 0 first path i (way next past ∷ []) ≡ part_numbered (map (call_stage place) cs) 0 first path i (last_ways (map (call_stage place) cs) past returned)
calls_ways place [] first path i past returned = refl
calls_ways place (c ∷ cs) first path i past returned = ap (λ w. part_numbered (map (call_stage place) (c ∷ cs)) 0 first path i w) (sym (last_call place c cs past returned))

stages_ways : (cs : List RCall) (span : Span) (main : Option LabelTree) (first : ℕ) (path : List ℕ) (i past returned : ℕ) → let p = map (call_stage span) cs ++ own_stage span main in part_numbered p 0 first path i (main_ways main past returned) ≡ part_numbered p 0 first path i (last_ways p past returned)
stages_ways cs span None first path i past returned =
    subst (λ p. part_numbered p 0 first path i (way next past ∷ []) ≡ part_numbered p 0 first path i (last_ways p past returned)) (sym (nothing_after span cs)) (calls_ways span cs first path i past returned)
stages_ways cs span (Some label) first path i past returned =
    let s : Stage = record { label = label; span = span; part = span } in
    ap (λ w. part_numbered (map (call_stage span) cs ++ s ∷ []) 0 first path i w) (sym (last_own (map (call_stage span) cs) s past returned))

-- the points of a part that is no test
pub part_ways : (p : RPart) (first : ℕ) (path : List ℕ) (i past returned : ℕ) → part_numbered (part_tree p) 0 first path i (main_ways (option_map label_tree p.main) past returned) ≡ part_numbered (part_tree p) 0 first path i (last_ways (part_tree p) past returned)
part_ways p first path i past returned = stages_ways p.calls.items p.span (option_map label_tree p.main) first path i past returned

-- the parts from a place on, by those from the next place on
pub record PartsFrom (ps : List RPart) (from j i : ℕ) (x : RPart) (first onward : ℕ) (path : List ℕ) (a : Around ℕ) (begin : ℕ) (old middle new : List Numbered) : Type 0 where
  pub place : first + parts_from ps j ≡ onward + parts_from ps i
  pub begins : enter_part (part_tree x) first begin ≡ enter_parts (map part_tree (drop j ps)) first a.leave
  pub points : new ≡ old ++ reverse (parts_numbered (map part_tree (drop j ps)) (from + j) first path a)

pub parts_emitted : (ps : List RPart) (from j i : ℕ) (x : RPart) (first onward : ℕ) (path : List ℕ) (a : Around ℕ) (begin : ℕ) (old middle new : List Numbered) → j + 1 ≡ i → j < length ps → x ≡ get_or ps j x → first + length (part_tree x) ≡ onward → begin ≡ enter_parts (map part_tree (drop i ps)) onward a.leave → middle ≡ old ++ reverse (parts_numbered (map part_tree (drop i ps)) (from + i) onward path a) → new ≡ middle ++ reverse (part_numbered (part_tree x) 0 first path (from + j) (main_ways (option_map label_tree x.main) begin a.returned)) → PartsFrom ps from j i x first onward path a begin old middle new
parts_emitted ps from j i x first onward path a begin old middle new next_is below is at_end begins points emitted =
    let p = part_tree x in
    let rest = map part_tree (drop i ps) in
    let split = parts_from-back ps j i x next_is below is in
    let one_on : from + i ≡ from + j + 1 = omega arith in
    let all = two_appended (part_numbered p 0 first path (from + j) (last_ways p begin a.returned)) (parts_numbered rest (from + i) onward path a) old middle new points (emitted ∙ ap (λ l. middle ++ reverse l) (part_ways x first path (from + j) begin a.returned)) in
    record {
      place = let counted : parts_from ps j ≡ length p + parts_from ps i = ap count_parts split in omega arith;
      begins =
          ap (λ n. enter_part p first n) (begins ∙ ap (λ k. enter_parts rest k a.leave) (sym at_end))
          ∙ sym (ap (λ l. enter_parts l first a.leave) split);
      points =
          all
          ∙ ap (λ n. old ++ reverse (part_numbered p 0 first path (from + j) (last_ways p n a.returned) ++ parts_numbered rest (from + i) onward path a)) begins
          ∙ ap (λ k. old ++ reverse (part_numbered p 0 first path (from + j) (last_ways p (enter_parts rest k a.leave) a.returned) ++ parts_numbered rest (from + i) k path a)) (sym at_end)
          ∙ ap (λ k. old ++ reverse (part_numbered p 0 first path (from + j) (last_ways p (enter_parts rest (first + length p) a.leave) a.returned) ++ parts_numbered rest k (first + length p) path a)) one_on
          ∙ sym (ap (λ l. old ++ reverse (parts_numbered l (from + j) first path a)) split);
    }

pub call_count : (place : Span) (cs : List RCall) → length (map (call_stage place) cs) ≡ length cs
call_count place [] = refl
call_count place (c ∷ cs) = ap suc (call_count place cs)

-- the points of what stands before the body of a `for`, in front of those of its body
pub for_emitted : (begin : List PartTree) (p : PartTree) (third : List PartTree) (s : StmtTree) (first : ℕ) (path : List ℕ) (jump : Name → ℕ) (a inside : Around ℕ) (body at_body onward : ℕ) (old middle new : List Numbered) → first + count_head begin p third ≡ at_body → inside ≡ looping onward a → onward ≡ enter_parts third (first + count_parts begin + length p) (enter_part p (first + count_parts begin) a.leave) → body ≡ enter s at_body inside → middle ≡ old ++ reverse (numbered s at_body (path ++ 0 ∷ []) jump inside) → new ≡ middle ++ reverse (head_numbered begin p third first path body a) → new ≡ old ++ reverse (numbered (for_loop begin p third s) first path jump a)
for_emitted begin p third s first path jump a inside body at_body onward old middle new at_end is_inside is_onward begins points emitted =
    let head = λ (b : ℕ). head_numbered begin p third first path b a in
    let within = in_for begin p third first a in
    two_appended (head body) (numbered s at_body (path ++ 0 ∷ []) jump inside) old middle new points emitted
    ∙ ap (λ b. old ++ reverse (head b ++ numbered s at_body (path ++ 0 ∷ []) jump inside)) begins
    ∙ ap (λ i. old ++ reverse (head (enter s at_body i) ++ numbered s at_body (path ++ 0 ∷ []) jump i)) (is_inside ∙ ap (λ n. looping n a) is_onward)
    ∙ ap (λ k. old ++ reverse (head (enter s k within) ++ numbered s k (path ++ 0 ∷ []) jump within)) (sym at_end)
