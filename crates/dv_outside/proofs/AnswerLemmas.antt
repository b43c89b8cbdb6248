-- A log with one answer more.
use Rattle.std.proofs.Common.{◌≡◌, ◌+◌, ℕ, cond, List, [], ◌∷◌, ◌++◌, take, Contains, Some, Result, Ok, Err, IfOk, IsErrOf, Vec, refl, sym, ap, ◌∙◌, arith, inl, inr}
use Rattle.std.specs.Option.{option_map}
use Rattle.std.specs.declared.alloc.Global.{Global}
use Rattle.std.proofs.lemmas.List.Elements.{Contains-append_cases}
use Rattle.std.proofs.lemmas.List.Sums.{sum_by-append}
use Rattle.std.proofs.lemmas.Slice.Eq.{bytes_eq-Decides}
use Rattle.dv_outside.specs.Outside.{Files, Answer, file_at, IsFetched, AreOf, answered, Answers, is_failure, failures, Rose}
use Rattle.dv_outside.specs.declared.shelf.FetchError.{FetchError}
use Rattle.dv_outside.specs.declared.shelf.FetchError.TheVariants.{Failed, Memory}

-- ---- where the files are told

-- an answer with bytes
abbrev answered_with : List ℕ → Result (List ℕ) FetchError
answered_with bytes = Ok bytes

-- the only element of a list
only_one : {A : Type 0} (x y : A) → Contains (x ∷ []) y → x ≡ y
only_one x y has =
    let first : has.0 ≡ 0 = omega (arith, has.1) in
    rw first at has.2

same_bytes : (a b : List ℕ) → answered_with a ≡ answered_with b → a ≡ b
same_bytes a b same = cc

-- an answer is of the files if it gives the beginning of one
is_of : (files : Files) (name : List ℕ) (most : ℕ) (answer : Result (Vec ℕ Global) FetchError) (name' : List ℕ) (most' : ℕ) (bytes : List ℕ)
    → IfOk answer (λ given. IsFetched (Some files) name most given.items)
    → name ≡ name' → most ≡ most' → answered answer ≡ Ok bytes
    → option_map (take most') (file_at files name') ≡ Some bytes
is_of files name most (Ok given) name' most' bytes fetched same_name same_most same =
    let whole = fetched files refl in
    ap (λ n. option_map (take most') (file_at files n)) (sym same_name)
    ∙ ap (λ m. option_map (take m) (file_at files name)) (sym same_most)
    ∙ ap (option_map (take most)) whole.1 ∙ ap Some (sym whole.2 ∙ same_bytes given.items bytes same)
is_of files name most (Err e) name' most' bytes fetched same_name same_most same = cc

pub AreOf-and : (files : Files) (log : List Answer) (name : List ℕ) (most : ℕ) (answer : Result (Vec ℕ Global) FetchError) → AreOf files log
    → IfOk answer (λ given. IsFetched (Some files) name most given.items) → AreOf files (log ++ (name, most, answered answer) ∷ [])
AreOf-and files log name most answer before fetched = λ name' most' bytes has.
    elim (Contains-append_cases log ((name, most, answered answer) ∷ []) (name', most', Ok bytes) has) [
      | inl old ↦ before name' most' bytes old
      | inr new ↦ let same = only_one _ _ new in is_of files name most answer name' most' bytes fetched (ap (λ a. a.0) same) (ap (λ a. a.1) same) (ap (λ a. a.2) same)
    ]

-- ---- the counts of faults

failures-and : (log : List Answer) (answer : Answer) (name : List ℕ) → failures (log ++ answer ∷ []) name ≡ failures log name + failures (answer ∷ []) name
failures-and log answer name = sum_by-append (λ (a : Answer). cond (is_failure name a) 1 0) log (answer ∷ [])

-- a failed fetch is one
one_failure : (name : List ℕ) (most : ℕ) → failures ((name, most, Err Failed) ∷ []) name ≡ 1
one_failure name most = ap (λ b. 0 + cond b 1 0) ((bytes_eq-Decides name name).1 refl)

pub Rose-and : (log now : List Answer) (name : List ℕ) (most : ℕ) (answer : Result (Vec ℕ Global) FetchError) → Answers log now name most (answered answer)
    → IsErrOf answer Failed → Rose (failures log name) (failures now name)
Rose-and log now name most (Err Failed) is failed =
    let after : failures now name ≡ failures log name + 1 =
    ap (λ (l : List Answer). failures l name) is ∙ failures-and log (name, most, Err Failed) name ∙ ap (λ n. failures log name + n) (one_failure name most) in
    inl (omega (arith, after))
Rose-and log now name most (Err Memory) is failed = absurd (cc)
Rose-and log now name most (Ok bytes) is failed = absurd (cc)
