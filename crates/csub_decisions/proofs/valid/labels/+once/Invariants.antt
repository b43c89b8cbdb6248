use Rattle.std.proofs.Common.{◌≡◌, drop}
use Rattle.std.specs.List.{list_all}
use Rattle.csub_semantics.specs.Syntax.{stmt_tree, function_tree}
use Rattle.csub_validity.specs.Valid.{labels_of}
use Rattle.csub_decisions.specs.ProgramChecks.{label_names, is_once}
use Rattle.csub_decisions.proofs.valid.labels.+once.Given as goal

-- the labels of the lines so far stand once
abbrev pub invariant-are_once-loop-stmt : goal.invariant-are_once-loop-stmt
invariant-are_once-loop-stmt l =
    list_all (λ s. list_all (is_once (labels_of (function_tree l.function))) (label_names (stmt_tree s))) l.stmts
    ≡ list_all (λ s. list_all (is_once (labels_of (function_tree l.function))) (label_names (stmt_tree s))) (drop l.stmt-index l.stmts)
