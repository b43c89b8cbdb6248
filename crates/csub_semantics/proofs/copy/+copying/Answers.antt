use Rattle.std.proofs.Common.{◌∙◌, ap, ap₂, sym, map}
use Rattle.csub_semantics.specs.Trees.{place_tree, variable, object, element_place, member_place}
use Rattle.csub_semantics.specs.Trees.{expr_tree, exprs_of, reading, stepping, assignment, update, unary_operation, conversion, operation, conjunction, disjunction, choice, output_byte, formatted}
use Rattle.csub_semantics.proofs.LawsRows.{expr_tree-Printf}
use Rattle.csub_semantics.proofs.copy.+copying.Goals as goal

pub copy_expr-returns-in_ok-copy_boxed-in-Putchar : goal.copy_expr-returns-in_ok-copy_boxed-in-Putchar
copy_expr-returns-in_ok-copy_boxed-in-Putchar t c =
    ap (λ e. output_byte e) (c.in_ok-copy_boxed-in-Putchar.ensures ∙ ap expr_tree c.deref.ensures) ∙ sym (ap expr_tree c.in-Putchar.is)

pub copy_expr-returns-in_ok-copy_exprs-in-Printf : goal.copy_expr-returns-in_ok-copy_exprs-in-Printf
copy_expr-returns-in_ok-copy_exprs-in-Printf t c =
    let old = ap expr_tree c.in-Printf.is ∙ expr_tree-Printf c.in-Printf.pieces c.in-Printf.values in
    let new = expr_tree-Printf c.in_ok-format-in-Printf.format c.in_ok-copy_exprs-in-Printf.field-0 in
    new ∙ ap₂ (λ ps es. formatted ps (exprs_of es)) (c.in_ok-format-in-Printf.ensures ∙ c.deref-in-Printf.ensures.value) (c.in_ok-copy_exprs-in-Printf.ensures ∙ ap (map expr_tree) c.deref-in-Printf-2.ensures.value) ∙ sym old

pub copy_expr-returns-in_ok-copy_place-in-Read : goal.copy_expr-returns-in_ok-copy_place-in-Read
copy_expr-returns-in_ok-copy_place-in-Read t c =
    ap (λ p. reading p) c.in_ok-copy_place-in-Read.ensures ∙ sym (ap expr_tree c.in-Read.is)

pub copy_expr-returns-in_ok-copy_place-in-Step : goal.copy_expr-returns-in_ok-copy_place-in-Step
copy_expr-returns-in_ok-copy_place-in-Step t c =
    ap (λ p. stepping c.in-Step.op p) c.in_ok-copy_place-in-Step.ensures ∙ sym (ap expr_tree c.in-Step.is)

pub copy_expr-returns-in_ok-copy_boxed-in-Assign : goal.copy_expr-returns-in_ok-copy_boxed-in-Assign
copy_expr-returns-in_ok-copy_boxed-in-Assign t c =
    ap₂ (λ p e. assignment p e) c.in_ok-target-in-Assign.ensures (c.in_ok-copy_boxed-in-Assign.ensures ∙ ap expr_tree c.deref-in-Assign.ensures) ∙ sym (ap expr_tree c.in-Assign.is)

pub copy_expr-returns-in_ok-copy_boxed-in-Update : goal.copy_expr-returns-in_ok-copy_boxed-in-Update
copy_expr-returns-in_ok-copy_boxed-in-Update t c =
    ap₂ (λ p e. update p c.in-Update.op c.in-Update.kind e) c.in_ok-target-in-Update.ensures (c.in_ok-copy_boxed-in-Update.ensures ∙ ap expr_tree c.deref-in-Update.ensures)
    ∙ sym (ap expr_tree c.in-Update.is)

pub copy_expr-returns-in_ok-copy_boxed-in-Unary : goal.copy_expr-returns-in_ok-copy_boxed-in-Unary
copy_expr-returns-in_ok-copy_boxed-in-Unary t c =
    ap (λ e. unary_operation c.in-Unary.op c.in-Unary.kind e) (c.in_ok-copy_boxed-in-Unary.ensures ∙ ap expr_tree c.deref-in-Unary.ensures) ∙ sym (ap expr_tree c.in-Unary.is)

pub copy_expr-returns-in_ok-copy_boxed-in-Cast : goal.copy_expr-returns-in_ok-copy_boxed-in-Cast
copy_expr-returns-in_ok-copy_boxed-in-Cast t c =
    ap (λ e. conversion c.in-Cast.kind e) (c.in_ok-copy_boxed-in-Cast.ensures ∙ ap expr_tree c.deref-in-Cast.ensures) ∙ sym (ap expr_tree c.in-Cast.is)

pub copy_expr-returns-in_ok-copy_boxed-in-Binary : goal.copy_expr-returns-in_ok-copy_boxed-in-Binary
copy_expr-returns-in_ok-copy_boxed-in-Binary t c =
    ap₂ (λ a b. operation c.in-Binary.op c.in-Binary.kind a b) (c.in_ok-new_left-in-Binary.ensures ∙ ap expr_tree c.deref-in-Binary.ensures) (c.in_ok-copy_boxed-in-Binary.ensures ∙ ap expr_tree c.deref-in-Binary-2.ensures)
    ∙ sym (ap expr_tree c.in-Binary.is)

pub copy_expr-returns-in_ok-copy_boxed-in-And : goal.copy_expr-returns-in_ok-copy_boxed-in-And
copy_expr-returns-in_ok-copy_boxed-in-And t c =
    ap₂ (λ a b. conjunction a b) (c.in_ok-new_left-in-And.ensures ∙ ap expr_tree c.deref-in-And.ensures) (c.in_ok-copy_boxed-in-And.ensures ∙ ap expr_tree c.deref-in-And-2.ensures)
    ∙ sym (ap expr_tree c.in-And.is)

pub copy_expr-returns-in_ok-copy_boxed-in-Or : goal.copy_expr-returns-in_ok-copy_boxed-in-Or
copy_expr-returns-in_ok-copy_boxed-in-Or t c =
    ap₂ (λ a b. disjunction a b) (c.in_ok-new_left-in-Or.ensures ∙ ap expr_tree c.deref-in-Or.ensures) (c.in_ok-copy_boxed-in-Or.ensures ∙ ap expr_tree c.deref-in-Or-2.ensures)
    ∙ sym (ap expr_tree c.in-Or.is)

pub copy_expr-returns-in_ok-copy_boxed-in-Choose : goal.copy_expr-returns-in_ok-copy_boxed-in-Choose
copy_expr-returns-in_ok-copy_boxed-in-Choose t c =
    let new = expr_tree c.in_ok-copy_boxed-in-Choose.field-0.value in
    ap₂ (λ a b. choice c.in-Choose.kind a b new) (c.in_ok-new_test-in-Choose.ensures ∙ ap expr_tree c.deref-in-Choose.ensures) (c.in_ok-new_left-in-Choose.ensures ∙ ap expr_tree c.deref-in-Choose-2.ensures)
    ∙ ap (λ b. choice c.in-Choose.kind (expr_tree c.in-Choose.test.value) (expr_tree c.in-Choose.left.value) b) (c.in_ok-copy_boxed-in-Choose.ensures ∙ ap expr_tree c.deref-in-Choose-3.ensures)
    ∙ sym (ap expr_tree c.in-Choose.is)

pub copy_place-returns-in_ok-copy_type-in-Var : goal.copy_place-returns-in_ok-copy_type-in-Var
copy_place-returns-in_ok-copy_type-in-Var t c =
    ap₂ (λ o ct. variable (object o ct)) c.in_ok-object-in-Var.ensures c.in_ok-copy_type-in-Var.ensures.value ∙ sym (ap place_tree c.in-Var.is)

pub copy_place-returns-in_ok-copy_boxed-in-Index : goal.copy_place-returns-in_ok-copy_boxed-in-Index
copy_place-returns-in_ok-copy_boxed-in-Index t c =
    ap₂ (λ p i. element_place tt p i) (c.in_ok-new_array-in-Index.ensures ∙ ap place_tree c.deref.ensures) (c.in_ok-copy_boxed-in-Index.ensures ∙ ap expr_tree c.deref-in-Index.ensures)
    ∙ sym (ap place_tree c.in-Index.is)

pub copy_place-returns-in_ok-copy-in-Member : goal.copy_place-returns-in_ok-copy-in-Member
copy_place-returns-in_ok-copy-in-Member t c =
    ap₂ (λ n p. member_place n p) c.in_ok-copy-in-Member.ensures (c.in_ok-new_whole-in-Member.ensures ∙ ap place_tree c.deref-in-Member.ensures)
    ∙ sym (ap place_tree c.in-Member.is)
