-- The two sources of a pair and its tests, each determined by the seed and by how many functions there are.
use Rattle.std.specs.Prelude.{◌+◌, ◌*◌, ◌==◌, ◌++◌, ◌∷◌, [], ℕ, List, Option, Some, None, map, codes, if◌then◌else◌}
use Rattle.std.specs.Fmt.{decimal}
use Rattle.std.specs.List.{range_with_len}
use Rattle.line_text.specs.Lines.{text_of_lines}
use Rattle.test_suite.specs.Tests.{TestParts}
use Rattle.dv_gen.specs.Draws.{drawn}

-- the number with which function i compares
abbrev pub bound_of : ℕ → ℕ → ℕ
bound_of seed i = drawn seed (3 * i) 256

-- the number that function i takes where its parameter is greater
abbrev pub taken_of : ℕ → ℕ → ℕ
taken_of seed i = drawn seed (3 * i + 1) 16

-- the number that function i of the old source adds where it isn't
abbrev pub added_of : ℕ → ℕ → ℕ
added_of seed i = drawn seed (3 * i + 2) 16

-- the number of the function that is changed, which is drawn behind the numbers of all functions
abbrev pub changed_of : ℕ → ℕ → ℕ
changed_of seed size = drawn seed (3 * size) size

-- the byte that test k reads, drawn behind the function that is changed
abbrev pub byte_of : ℕ → ℕ → ℕ → ℕ
byte_of seed size k = drawn seed (3 * size + 1 + k) 256

-- the number that function i adds where function j is changed, for `Some j`, or none, for `None`: function j then adds one more
abbrev pub added_in : ℕ → Option ℕ → ℕ → ℕ
added_in seed None i = added_of seed i
added_in seed (Some j) i = if i == j then added_of seed i + 1 else added_of seed i

-- the line of function i, by its three numbers
abbrev pub function_line : ℕ → ℕ → ℕ → ℕ → List ℕ
function_line i bound taken added =
    codes "int f" ++ decimal i ++ codes "(int x) { if (x > " ++ decimal bound ++ codes ") { x = x - " ++ decimal taken
    ++ codes "; } else { x = x + " ++ decimal added ++ codes "; } return x; }"

-- the line that calls function i
abbrev pub call_line : ℕ → List ℕ
call_line i = codes "    c = f" ++ decimal i ++ codes "(c);"

-- the lines of the functions, from function 0 on
abbrev pub function_lines : ℕ → ℕ → Option ℕ → List (List ℕ)
function_lines seed size changed =
    map (λ i. function_line i (bound_of seed i) (taken_of seed i) (added_in seed changed i)) (range_with_len 0 size)

-- the lines of `main`, which reads a character, passes it through all functions and prints what comes of it
abbrev pub main_lines : ℕ → List (List ℕ)
main_lines size =
    (codes "int main(void) {" ∷ codes "    int c;" ∷ codes "    c = getchar();" ∷ [])
    ++ map call_line (range_with_len 0 size)
    ++ (codes "    printf(\"%d\\n\", c);" ∷ codes "    return 0;" ∷ codes "}" ∷ [])

-- the source of so many functions, one of which may be changed
abbrev pub source_with : ℕ → ℕ → Option ℕ → List ℕ
source_with seed size changed = text_of_lines (function_lines seed size changed ++ main_lines size)

-- the source that the draws give
abbrev pub old_source : ℕ → ℕ → List ℕ
old_source seed size = source_with seed size None

-- the source in which one function is changed
abbrev pub new_source : ℕ → ℕ → List ℕ
new_source seed size = source_with seed size (Some (changed_of seed size))

-- the test of a number and a byte: `t` and the number is its name, it has 10,000 turns and reads the byte
abbrev pub test_with : ℕ → ℕ → TestParts
test_with k byte = record { name = codes "t" ++ decimal k; budget = 10000; input = byte ∷ [] }

-- four tests for each function
abbrev pub tests_of : ℕ → ℕ → List TestParts
tests_of seed size = map (λ k. test_with k (byte_of seed size k)) (range_with_len 0 (4 * size))
