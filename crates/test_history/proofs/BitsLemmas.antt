-- The bytes of a row.
use Rattle.std.proofs.Common.{◌≡◌, ◌≢◌, ◌<◌, ◌≤◌, ◌+◌, ◌*◌, ◌/◌, ◌%◌, ℕ, eqb, Bool, true, false, List, length, length-set, get_or, set, replicate, Option, Some, None, Result, Ok, Err, MatchOption, ap, sym, refl, ◌∙◌, inl, inr, arith}
use Rattle.std.specs.Int.{bit_at}
use Rattle.std.proofs.lemmas.Bool.{cases_lt}
use Rattle.std.proofs.lemmas.List.{get_or_past}
use Rattle.std.proofs.lemmas.List.FromFn.{length-map-range_with_len, get_or-map-range_with_len}
use Rattle.std.specs.Prelude.{IfOk}
use Rattle.hex.specs.Hex.{IsBytes}
use Rattle.line_text.specs.Bytes.{bytes_or_dash}
use Rattle.line_text.proofs.Laws.{bytes_or_dash-injective}
use Rattle.edge_trace.specs.Rows.{has, byte_of}
use Rattle.edge_trace.proofs.Laws.{has-set_same, has-set_other, has-replicate, same_rows}
use Rattle.edge_trace.proofs.LawsOfBytes.{byte_of-lt, bit_of_byte, same_from_bytes}
use Rattle.test_history.specs.Faults.{bit_of}
use Rattle.test_history.specs.HistoryTexts.{row_bytes}

row_bytes-at : (row : List Bool) (at : ℕ) → at < (length row + 7) / 8 → get_or (row_bytes row) at 0 ≡ byte_of row at
row_bytes-at row at within = get_or-map-range_with_len (byte_of row) 0 ((length row + 7) / 8) at at 0 within (omega arith)

pub length-row_bytes : (row : List Bool) → length (row_bytes row) ≡ (length row + 7) / 8
length-row_bytes row = length-map-range_with_len (byte_of row) 0 ((length row + 7) / 8)

pub IsBytes-row_bytes : (row : List Bool) → IsBytes (row_bytes row)
IsBytes-row_bytes row at = elim (cases_lt at ((length row + 7) / 8)) [
  | inl within ↦ omega (arith, row_bytes-at row at within, byte_of-lt row at)
  | inr past ↦ omega (arith, get_or_past (row_bytes row) at 0 (omega (arith, length-row_bytes row)))
]

-- two rows of one bound with the same bytes are one
pub row_bytes-injective : (a b : List Bool) → length a ≡ length b → row_bytes a ≡ row_bytes b → a ≡ b
row_bytes-injective a b size is =
    same_from_bytes a b size
    (λ at within. sym (row_bytes-at a at (omega arith)) ∙ ap (λ bytes. get_or bytes at 0) is ∙ row_bytes-at b at (omega (arith, size)))

-- ---- a row into which bits are read

-- the row has the edges below a place whose bits are set
pub record IsSetTo (bytes : List ℕ) (bound place : ℕ) (row : List Bool) : Type 0 where
  pub edges : length row ≡ bound
  pub below : (edge : ℕ) → edge < place → has row edge ≡ bit_of bytes edge
  pub clear : (edge : ℕ) → place ≤ edge → has row edge ≡ false

pub set_first : (bytes : List ℕ) (row : List Bool) → row ≡ replicate (length row) false → IsSetTo bytes (length row) 0 row
set_first bytes row empty = record {
  edges = refl;
  below = λ edge before. absurd (omega arith);
  clear = λ edge after. ap (λ r. has r edge) empty ∙ has-replicate (length row) edge;
}

pub set_more : (bytes : List ℕ) (bound place : ℕ) (row : List Bool) → IsSetTo bytes bound place row → place < bound → bit_of bytes place ≡ true → IsSetTo bytes bound (place + 1) (set row place true)
set_more bytes bound place row so_far within is = record {
  edges = length-set row place true ∙ so_far.edges;
  below = λ edge before. elim (cases_lt edge place) [
    | inl earlier ↦ has-set_other row place edge (λ same. omega (arith, same, earlier)) ∙ so_far.below edge earlier
    | inr here ↦
        let same : edge ≡ place = omega arith in
        ap (has (set row place true)) same ∙ has-set_same row place (omega (arith, so_far.edges)) ∙ sym is ∙ ap (bit_of bytes) (sym same)
  ];
  clear = λ edge after. has-set_other row place edge (λ same. omega (arith, same, after)) ∙ so_far.clear edge (omega arith);
}

pub set_none : (bytes : List ℕ) (bound place : ℕ) (row : List Bool) → IsSetTo bytes bound place row → bit_of bytes place ≡ false → IsSetTo bytes bound (place + 1) row
set_none bytes bound place row so_far is = record {
  edges = so_far.edges;
  below = λ edge before. elim (cases_lt edge place) [
    | inl earlier ↦ so_far.below edge earlier
    | inr here ↦
        let same : edge ≡ place = omega arith in
        ap (has row) same ∙ so_far.clear place (omega arith) ∙ sym is ∙ ap (bit_of bytes) (sym same)
  ];
  clear = λ edge after. so_far.clear edge (omega arith);
}

-- the bits of a row's own bytes give the row
pub row_again : (bytes : List ℕ) (row other : List Bool) → length row ≡ length other → ((edge : ℕ) → edge < length row → has row edge ≡ bit_of bytes edge) → bytes ≡ row_bytes other → row ≡ other
row_again bytes row other size bits is =
    same_rows row other size (λ edge within.
    let at : 8 * (edge / 8) + edge % 8 ≡ edge = omega arith in
    let byte : get_or bytes (edge / 8) 0 ≡ byte_of other (edge / 8) = ap (λ bs. get_or bs (edge / 8) 0) is ∙ row_bytes-at other (edge / 8) (omega (arith, size)) in
    bits edge within ∙ ap (λ b. eqb (bit_at b (edge % 8)) 1) byte ∙ bit_of_byte other (edge / 8) (edge % 8) (omega arith) ∙ ap (has other) at)

-- the row of bytes is that of their word
pub row_of_word : {E : Type 0} (text bytes : List ℕ) (edges : ℕ) (r : Result (Option (List Bool)) E) → IsBytes bytes → text ≡ bytes_or_dash bytes
    → IfOk r (λ found. MatchOption found ((row : List Bool) → length row ≡ edges → bytes ≢ row_bytes row) (λ row. (length row ≡ edges) × (bytes ≡ row_bytes row)))
    → IfOk r (λ found. MatchOption found ((row : List Bool) → length row ≡ edges → text ≢ bytes_or_dash (row_bytes row)) (λ row. (length row ≡ edges) × (text ≡ bytes_or_dash (row_bytes row))))
row_of_word text bytes edges (Err e) good said read = read
row_of_word text bytes edges (Ok None) good said read = λ row size is. read row size (bytes_or_dash-injective bytes (row_bytes row) good (IsBytes-row_bytes row) (sym said ∙ is))
row_of_word text bytes edges (Ok (Some row)) good said read = (read.0, said ∙ ap bytes_or_dash read.1)
