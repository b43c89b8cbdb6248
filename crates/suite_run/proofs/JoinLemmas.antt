-- From the parts of the workers to the entries of the whole list.
use Rattle.std.proofs.Common.{◌≡◌, ◌<◌, ◌≤◌, ◌+◌, ◌*◌, ℕ, suc, List, [], ◌∷◌, ◌++◌, length, take, drop, get_or, Result, Ok, Err, IfOk, Vec, refl, sym, ap, ◌∙◌, append_assoc, append-nil, arith}
use Rattle.std.specs.declared.alloc.Global.{Global}
use Rattle.std.specs.declared.alloc.AllocError.{AllocError}
use Rattle.std.specs.Fork.{slice_chunk}
use Rattle.std.specs.List.{AllZip}
use Rattle.std.proofs.Math.Seq.{take-add}
use Rattle.std.proofs.lemmas.List.{drop-drop}
use Rattle.std.proofs.lemmas.Grind.{common_steps}
use Rattle.csub_semantics.specs.Syntax.{ProgramTree}
use Rattle.test_suite.specs.Tests.{TestParts}
use Rattle.test_history.specs.Histories.{EntryParts}
use Rattle.test_history.specs.Entries.{IsEntry}
use Rattle.suite_run.specs.Parts.{Part, ArePartsOf, Joins}
use Rattle.suite_run.proofs.Zips.{all_zip_append}

-- one more part
pub joins_more : (parts : List Part) (entries : List EntryParts) (part : Vec EntryParts Global) → Joins parts entries → Joins (parts ++ Ok part ∷ []) (entries ++ part.items)
joins_more [] entries part none = ([], ap (λ es. es ++ part.items) none ∙ sym (append-nil part.items), refl)
joins_more (Ok first ∷ parts) entries part held =
    (held.0 ++ part.items, ap (λ es. es ++ part.items) held.1 ∙ append_assoc first.items held.0 part.items, joins_more parts held.0 part held.2)
joins_more (Err e ∷ parts) entries part held = absurd held

-- chunks k on are chunk k and the chunks after it
chunks_from : {X : Type 0} (xs : List X) (size k m : ℕ) → take (suc m * size) (drop (k * size) xs) ≡ slice_chunk xs size (k + 0) ++ take (m * size) (drop (suc k * size) xs)
chunks_from xs size k m =
    let sum : suc m * size ≡ size + m * size = omega arith in
    let next : suc k * size ≡ k * size + size = omega arith in
    let here : (k + 0) * size ≡ k * size = omega arith in
    rw (sum, next, here) (take-add size (m * size) (drop (k * size) xs) ∙ ap (λ rest. take size (drop (k * size) xs) ++ take (m * size) rest) (drop-drop size (k * size) xs))

-- the parts from number k on have the entries of the tests from there on
joined_from : (P : ProgramTree) (tests : List TestParts) (size k : ℕ) (parts : List Part) (entries : List EntryParts)
    → ((n : ℕ) (d : Part) → n < length parts → IfOk (get_or parts n d) (λ part. AllZip (IsEntry P) (slice_chunk tests size (k + n)) part.items))
    → Joins parts entries → AllZip (IsEntry P) (take (length parts * size) (drop (k * size) tests)) entries
joined_from P tests size k [] entries each none =
    let empty : take (0 * size) (drop (k * size) tests) ≡ [] = grind (arith, common_steps) in
    rw (empty, none) tt
joined_from P tests size k (Err e ∷ parts) entries each held = absurd held
joined_from P tests size k (Ok part ∷ parts) entries each held =
    let later : (n : ℕ) (d : Part) → n < length parts → IfOk (get_or parts n d) (λ part. AllZip (IsEntry P) (slice_chunk tests size (suc k + n)) part.items) =
    λ n d below. let at : k + suc n ≡ suc k + n = omega arith in rw at at (each (suc n) d (omega arith)) in
    rw (chunks_from tests size k (length parts), held.1)
    (all_zip_append (IsEntry P) (slice_chunk tests size (k + 0)) _ part.items held.0 (each 0 (Ok part) (omega arith)) (joined_from P tests size (suc k) parts held.0 later held.2))

all_joined : (P : ProgramTree) (tests : List TestParts) (size : ℕ) (parts : List Part) (entries : List EntryParts) → ArePartsOf P tests size parts → length tests ≤ length parts * size → Joins parts entries
    → AllZip (IsEntry P) tests entries
all_joined P tests size parts entries each enough held =
    let joined = joined_from P tests size 0 parts entries (λ n d below. let at : 0 + n ≡ n = omega arith in rw at (each n d below)) held in
    let whole : take (length parts * size) (drop (0 * size) tests) ≡ tests = grind (arith, common_steps) in
    rw whole at joined

-- parts that have as many places as there are tests, put together
pub ok_joined : (P : ProgramTree) (tests : List TestParts) (size : ℕ) (parts : List Part) (result : Result (Vec EntryParts Global) AllocError) → ArePartsOf P tests size parts → length tests ≤ length parts * size
    → IfOk result (λ entries. Joins parts entries.items) → IfOk result (λ entries. AllZip (IsEntry P) tests entries.items)
ok_joined P tests size parts (Ok entries) each enough held = all_joined P tests size parts entries.items each enough held
ok_joined P tests size parts (Err e) each enough held = tt
