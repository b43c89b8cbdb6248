-- The bodies, the labels and the lists of the program of a source that breaks no rule and passes no limit. Crates above cite these.
use Rattle.std.proofs.Common.{◌≡◌, ◌≢◌, refl, arith, ◌≤◌, List, [], All, AllPairs, Option, Some, None, IsTrue}
use Rattle.std.specs.Option.{option_or}
use Rattle.std.proofs.lemmas.List.Elements.{All-cons, All-tail, All-weaker}
use Rattle.csub_text.specs.declared.span.Span.{Span}
use Rattle.csub_tree.specs.Units.{Source}
use Rattle.csub_semantics.specs.Syntax.{FunctionTree, ProgramTree}
use Rattle.csub_scopes.specs.Scopes.{Scope}
use Rattle.csub_rules.specs.declared.fault.Fault.{Fault}
use Rattle.csub_rules.specs.Labels.{stands_in}
use Rattle.csub_rules.proofs.LawsEarlier.{neither}
use Rattle.csub_rules.proofs.LawsServed.{holds}
use Rattle.csub_rules.specs.Files.{no_file}
use Rattle.csub_rules.specs.Items.{past_items, items_fault}
use Rattle.csub_objects.specs.Types.{main_name}
use Rattle.csub_rules.specs.Units.{all_defined, undefineds_fault, placed_fault, main_fault, no_place, unit_fault}
use Rattle.csub_rules.proofs.LawsFineItems.{fine_unit}
use Rattle.csub_resolution.specs.Values.{Defined}
use Rattle.csub_resolution.specs.Programs.{defined_in, functions_in, start, span_of_main, program_of}
use Rattle.csub_limits.specs.Limits.{limit_passed}
use Rattle.csub_validity.specs.Valid.{AreStmts, labels_of, no_loop, stmt_count, most_entries}
use Rattle.program_validity.specs.Names.{NoneIsStart}
use Rattle.program_validity.specs.Short.{AreShort, ShortLines}
use Rattle.program_validity.specs.Written.{IsWritten}
use Rattle.program_validity.proofs.Limited.{few_printed}
use Rattle.program_validity.proofs.Files.{Holds, items_hold}
use Rattle.program_validity.proofs.Heads.{Declares, items_heads}
use Rattle.program_validity.proofs.Programs.{SeesFile, bodies_in, labels_in, can_call, start_is}

none_before : (o last : Option Fault) → option_or o last ≡ None → o ≡ None
none_before None last e = refl
none_before (Some f) last e = absurd (cc)

none_last : (o last : Option Fault) → option_or o last ≡ None → last ≡ None
none_last None last e = e
none_last (Some f) last e = absurd (cc)

abbrev named : Source → List Defined
named u = defined_in no_file u.items

-- every statement is one of a valid program
pub bodies : (u : Source) → unit_fault u ≡ None → limit_passed u ≡ None → IsWritten u → NoneIsStart u → AreShort (program_of u)
    → All (λ (f : FunctionTree). AreStmts (program_of u) f no_loop f.body) (program_of u).functions
bodies u fault limit written none short =
    let P : ProgramTree = program_of u in
    let fs : List FunctionTree = functions_in (named u) no_file u.items in
    let at : Span = span_of_main fs in
    let all : Scope = (past_items no_file u.items).scope in
    let fine = fine_unit u fault in
    let q = neither (items_fault no_file u.items) (undefineds_fault (all_defined u.items) u.items)
    (none_before (placed_fault u.items) (main_fault u.items) fault) in
    let main : IsTrue (stands_in main_name (all_defined u.items)) =
    holds (stands_in main_name (all_defined u.items)) 19 no_place (none_last (placed_fault u.items) (main_fault u.items) fault) in
    let objects : Holds P.globals all =
    items_hold [] no_file u.items fine q.0 (record { known = λ x. tt; old = λ x t e. absurd (cc) }) in
    let heads : Declares (all_defined u.items) all =
    items_heads (all_defined u.items) no_file u.items (λ x h. h) q.1 (record { heads = λ x ts r e. absurd (cc) }) in
    let sees : SeesFile P (named u) all =
    record { known = objects.known; can = can_call P at u.items fine q.0 refl none heads } in
    All-cons (λ (f : FunctionTree). AreStmts P f no_loop f.body) (start at) fs (start_is P at u.items fine q.0 refl none main)
    (bodies_in P (named u) no_file u.items fine q.0 written (few_printed u limit)
    (All-tail (λ (f : FunctionTree). ShortLines f.body) (start at) fs short) sees)

-- the labels of a function differ
pub labels : (u : Source) → unit_fault u ≡ None → IsWritten u
    → All (λ (f : FunctionTree). AllPairs (λ a b. a ≢ b) (labels_of f)) (program_of u).functions
labels u fault written =
    let fs : List FunctionTree = functions_in (named u) no_file u.items in
    All-cons (λ (f : FunctionTree). AllPairs (λ a b. a ≢ b) (labels_of f)) (start (span_of_main fs)) fs (λ i j d less below. absurd (omega arith))
    (labels_in (named u) no_file u.items (fine_unit u fault) written)

-- the lists of bodies are short
pub lists : (u : Source) → AreShort (program_of u) → All (λ (f : FunctionTree). stmt_count f.body ≤ most_entries) (program_of u).functions
lists u short =
    All-weaker (λ (f : FunctionTree). ShortLines f.body) (λ (f : FunctionTree). stmt_count f.body ≤ most_entries) (λ f h. h.0) (program_of u).functions short
