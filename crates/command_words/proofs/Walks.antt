-- What clap finds in the words behind a command's name is the cut of these words.
use Rattle.std.proofs.Common.{◌≡◌, ◌≢◌, List, [], ◌∷◌, ◌++◌, true, false, Option, Some, None, codes, refl, sym, ap, ◌∙◌, subst}
use Rattle.std.specs.Prelude.{String, fold}
use Rattle.std.specs.Str.{all_ascii_digits}
use Rattle.std.specs.String.{string_bytes}
use Rattle.std.specs.declared.alloc.Global.{Global}
use Rattle.clap.specs.Kinds.{Kinds, or_else}
use Rattle.clap.specs.Walk.{Held, Row, Text, Waiting, Walk, idle, positional, option, settled_rows, settled, walked, walk_from, nothing_held, finished}
use Rattle.clap.specs.Simple.{built, matches_of}
use Rattle.clap.specs.Faults.{turn_fault, settle_fault, walk_fault, defaults_fault, check_fault, fault_of}
use Rattle.clap.proofs.FaultLemmas.{leaf_fault}
use Rattle.command_words.specs.Words.{Rest, rest_of, texts_of}
use Rattle.command_words.specs.Matches.{rest_app, HasNoNumber}
use Rattle.command_words.proofs.Cuts.{Class, dashes, option as option', number as number', flag, plain as plain', class_of, IsClass, all_plain, rest_by, rest_of-class, rest_in, behind, too, rest_at, behind-empty, behind-nothing, SettlesCut, settle_cut, bad_number}
use Rattle.command_words.proofs.Classes.{class_is}
use Rattle.command_words.proofs.NumberLemmas.{no_digits}
use Rattle.command_words.proofs.Steps.{top, rest_rules, IsPlain, Pending, none, plain, number, wants, pending_of, waiting_of, held, at, Rows, empty, numbered, plains, number_first, plain_first, rows_as, settle, settle_is, Settles, rest_fault, rest_step, plain_fault, plain_step, wants_fault, wants_step, dashes_fault, dashes_step, option_fault, option_step, number_fault, number_step}

abbrev end_fault : Held → Kinds
end_fault h = or_else (settle_fault rest_rules false h) (or_else (defaults_fault (settled rest_rules h).rows rest_rules) (check_fault top (finished rest_rules h) false))

abbrev fault_from : Walk → List Text → Kinds
fault_from w [] = end_fault w.held
fault_from w (word ∷ words) = or_else (turn_fault top [] w word) (fault_from (walked rest_rules [] w word) words)

abbrev rows_from : Walk → List Text → List Row
rows_from w [] = finished rest_rules w.held
rows_from w (word ∷ words) = rows_from (walked rest_rules [] w word) words

or_else-assoc : (a b c : Kinds) → or_else (or_else a b) c ≡ or_else a (or_else b c)
or_else-assoc [] b c = refl
or_else-assoc (k ∷ a) b c = refl

faults_in_turn : (w : Walk) (words : List Text) → or_else (walk_fault top [] w words) (end_fault (fold (walked rest_rules []) w words).held) ≡ fault_from w words
unfolding walk_fault
faults_in_turn w [] = refl
faults_in_turn w (word ∷ words) =
    or_else-assoc (turn_fault top [] w word) _ _ ∙ ap (or_else (turn_fault top [] w word)) (faults_in_turn (walked rest_rules [] w word) words)

fault_is : (words : List Text) → fault_of rest_app words ≡ fault_from (walk_from nothing_held) words
fault_is words = leaf_fault (built rest_app) nothing_held words refl ∙ faults_in_turn (walk_from nothing_held) words

rows_in_turn : (w : Walk) (words : List Text) → finished rest_rules (fold (walked rest_rules []) w words).held ≡ rows_from w words
rows_in_turn w [] = refl
rows_in_turn w (word ∷ words) = rows_in_turn (walked rest_rules [] w word) words

rows_are : (words : List Text) → matches_of rest_app words ≡ rows_from (walk_from nothing_held) words
rows_are words = rows_in_turn (walk_from nothing_held) words

-- ---- the ends of a walk

abbrev Ends : Kinds → List Row → Option Rows → Type 0
Ends fault rows None = fault ≢ []
Ends fault rows (Some s) = (fault ≡ []) × (rows ≡ rows_as s)

end_walk : (r : Rows) (p : Pending) → Ends (end_fault (held (rows_as r) p)) (finished rest_rules (held (rows_as r) p)) (settle r p)
unfolding defaults_fault
end_walk empty none = (refl, refl)
end_walk (numbered v) none = (refl, refl)
end_walk (plains ws) none = (refl, refl)
end_walk (number_first v ws) none = (refl, refl)
end_walk (plain_first ws v) none = (refl, refl)
end_walk empty (plain w) = (refl, refl)
end_walk (numbered v) (plain w) = (refl, refl)
end_walk (plains ws) (plain w) = (refl, refl)
end_walk (number_first v ws) (plain w) = (refl, refl)
end_walk (plain_first ws v) (plain w) = (refl, refl)
end_walk empty (number v) = (refl, refl)
end_walk (plains ws) (number v) = (refl, refl)
end_walk (numbered v) (number u) = λ bad. absurd (cc)
end_walk (number_first v ws) (number u) = λ bad. absurd (cc)
end_walk (plain_first ws v) (number u) = λ bad. absurd (cc)
end_walk empty wants = λ bad. absurd (cc)
end_walk (numbered v) wants = λ bad. absurd (cc)
end_walk (plains ws) wants = λ bad. absurd (cc)
end_walk (number_first v ws) wants = λ bad. absurd (cc)
end_walk (plain_first ws v) wants = λ bad. absurd (cc)

-- where clap finds no fault, its rows are the rest; else there is no number of workers
pub record Reads (fault : Kinds) (rows : List Row) (rest : Option Rest) : Type 0 where
  pub reads : fault ≡ [] → rest ≡ Some (rest_in rows)
  pub refuses : fault ≢ [] → HasNoNumber rest

abbrev ReadsAt : Walk → List Text → Option Rest → Type 0
ReadsAt w words rest = Reads (fault_from w words) (rows_from w words) rest

failing : (fault : Kinds) (rows : List Row) (rest : Option Rest) → fault ≢ [] → HasNoNumber rest → Reads fault rows rest
failing fault rows rest ne bad = record { reads = λ e. absurd (ne e); refuses = λ _. bad }

none≢some : (rest : Rest) → ◌≢◌ {A = Option Rest} None (Some rest)
none≢some rest e = cc

-- a walk whose words are no rest has a fault
fails : (fault : Kinds) (rows : List Row) → Reads fault rows None → fault ≢ []
fails fault rows h e = none≢some (rest_in rows) (h.reads e)

end_is : (r : Rows) (p : Pending) → Reads (end_fault (held (rows_as r) p)) (finished rest_rules (held (rows_as r) p)) (behind r (too p (all_plain [])))
end_is r p = go (settle r p) (end_walk r p) (settle_cut p r (all_plain []))
  where
    go : (o : Option Rows) → Ends (end_fault (held (rows_as r) p)) (finished rest_rules (held (rows_as r) p)) o → SettlesCut o (behind r (too p (all_plain []))) (all_plain [])
        → Reads (end_fault (held (rows_as r) p)) (finished rest_rules (held (rows_as r) p)) (behind r (too p (all_plain [])))
    go None ends cut = failing _ _ _ ends cut
    go (Some s) ends cut = record { reads = λ _. cut ∙ behind-nothing s ∙ ap (λ rows. Some (rest_in rows)) (sym ends.1); refuses = λ ne. absurd (ne ends.0) }

-- ---- one turn

first_fails : (a b : Kinds) → a ≢ [] → or_else a b ≢ []
first_fails [] b ne e = ne refl
first_fails (k ∷ a) b ne e = absurd (cc)

or_else-nil_left : (a b : Kinds) → a ≡ [] → or_else a b ≡ b
or_else-nil_left a b e = ap (λ x. or_else x b) e

-- a turn without a fault
move : (w v : Walk) (word : Text) (words : List Text) (rest : Option Rest) → turn_fault top [] w word ≡ [] → walked rest_rules [] w word ≡ v → ReadsAt v words rest → ReadsAt w (word ∷ words) rest
move w v word words rest clear step h =
    let faults : fault_from w (word ∷ words) ≡ fault_from v words = or_else-nil_left _ _ clear ∙ ap (λ x. fault_from x words) step in
    let rows : rows_from w (word ∷ words) ≡ rows_from v words = ap (λ x. rows_from x words) step in
    rw (faults, rows) h

-- a turn that settles what waits
settling : (r : Rows) (p : Pending) (w : Walk) (v : List Row → Walk) (word : Text) (words : List Text) (more : Option Rest)
    → turn_fault top [] w word ≡ settle_fault rest_rules false (held (rows_as r) p) → walked rest_rules [] w word ≡ v (settled_rows rest_rules (pending_of p) (rows_as r))
    → ((s : Rows) → ReadsAt (v (rows_as s)) words (behind s more)) → ReadsAt w (word ∷ words) (behind r (too p more))
settling r p w v word words more fault step later = go (settle r p) (settle_is r p) (settle_cut p r more)
  where
    go : (o : Option Rows) → Settles r p o → SettlesCut o (behind r (too p more)) more → ReadsAt w (word ∷ words) (behind r (too p more))
    go None h cut = failing _ _ _ (first_fails _ _ (λ e. h (sym fault ∙ e))) cut
    go (Some s) h cut = subst (λ rest. ReadsAt w (word ∷ words) rest) (sym cut) (move w (v (rows_as s)) word words (behind s more) (fault ∙ h.0) (step ∙ ap v h.1) (later s))

-- behind `--` each word is plain
rest_is : (r : Rows) (p : Pending) (waiting : Waiting) (words : List Text) → ReadsAt (at (rows_as r) p waiting true) words (behind r (too p (all_plain words)))
rest_is r p waiting [] = end_is r p
rest_is r p waiting (word ∷ words) = settling r p (at (rows_as r) p waiting true) (λ rows. at rows (plain word) positional true) word words (too (plain word) (all_plain words))
    (rest_fault (rows_as r) p waiting word) (rest_step (rows_as r) p waiting word) (λ s. rest_is s (plain word) positional words)

abbrev free : Rows → Pending → Walk
free r p = at (rows_as r) p (waiting_of p) false

-- a turn that settles what waits, and then a number
numbering : (r : Rows) (p : Pending) (v : Text) (words : List Text) → ((s : Rows) → ReadsAt (free s none) words (behind s (rest_of words)))
    → ReadsAt (free r p) ((codes "--workers=" ++ v) ∷ words) (behind r (too p (too (number v) (rest_of words))))
numbering r p v words later = first (settle r p) (settle_is r p) (settle_cut p r (too (number v) (rest_of words)))
  where
    second : (s : Rows) → turn_fault top [] (free r p) (codes "--workers=" ++ v) ≡ settle_fault rest_rules false (held (rows_as s) (number v))
        → walked rest_rules [] (free r p) (codes "--workers=" ++ v) ≡ at (settled_rows rest_rules (pending_of (number v)) (rows_as s)) none idle false
        → (o : Option Rows) → Settles s (number v) o → SettlesCut o (behind s (too (number v) (rest_of words))) (rest_of words) → ReadsAt (free r p) ((codes "--workers=" ++ v) ∷ words) (behind s (too (number v) (rest_of words)))
    second s fault step None h cut = failing _ _ _ (first_fails _ _ (λ e. h (sym fault ∙ e))) cut
    second s fault step (Some t) h cut = subst (λ rest. ReadsAt (free r p) ((codes "--workers=" ++ v) ∷ words) rest) (sym cut)
        (move (free r p) (free t none) (codes "--workers=" ++ v) words (behind t (rest_of words)) (fault ∙ h.0) (step ∙ ap (λ rows. at rows none idle false) h.1) (later t))

    first : (o : Option Rows) → Settles r p o → SettlesCut o (behind r (too p (too (number v) (rest_of words)))) (too (number v) (rest_of words))
        → ReadsAt (free r p) ((codes "--workers=" ++ v) ∷ words) (behind r (too p (too (number v) (rest_of words))))
    first None h cut = failing _ _ _ (first_fails _ _ (λ e. first_fails _ _ h (sym (number_fault (rows_as r) p v) ∙ e))) cut
    first (Some s) h cut = subst (λ rest. ReadsAt (free r p) ((codes "--workers=" ++ v) ∷ words) rest) (sym cut)
        (second s (number_fault (rows_as r) p v ∙ or_else-nil_left _ _ h.0 ∙ ap (λ rows. settle_fault rest_rules false (held rows (number v))) h.1)
        (number_step (rows_as r) p v ∙ ap (λ rows. at (settled_rows rest_rules (pending_of (number v)) rows) none idle false) h.1)
        (settle s (number v)) (settle_is s (number v)) (settle_cut (number v) s (rest_of words)))

none≢wants : none ≢ wants
none≢wants e = cc

plain≢wants : (w : Text) → plain w ≢ wants
plain≢wants w e = cc

number≢wants : (v : Text) → number v ≢ wants
number≢wants v e = cc

module _ (r : Rows) (word : Text) (words : List Text) (later : (s : Rows) (q : Pending) → ReadsAt (free s q) words (behind s (rest_at q words))) where
  dashes_turn : (p : Pending) → word ≡ codes "--" → ReadsAt (free r p) (word ∷ words) (behind r (too p (all_plain words)))
  dashes_turn p is = subst (λ w. ReadsAt (free r p) (w ∷ words) (behind r (too p (all_plain words)))) (sym is)
      (move _ _ (codes "--") words _ (dashes_fault (rows_as r) p) (dashes_step (rows_as r) p) (rest_is r p (waiting_of p) words))

  option_turn : (p : Pending) → word ≡ codes "--workers" → ReadsAt (free r p) (word ∷ words) (behind r (too p (rest_at wants words)))
  option_turn p is = subst (λ w. ReadsAt (free r p) (w ∷ words) (behind r (too p (rest_at wants words)))) (sym is)
      (settling r p (free r p) (λ rows. at rows wants (option (codes "workers")) false) (codes "--workers") words (rest_at wants words)
      (option_fault (rows_as r) p) (option_step (rows_as r) p) (λ s. later s wants))

  number_turn : (p : Pending) (v : Text) → word ≡ codes "--workers=" ++ v → ReadsAt (free r p) (word ∷ words) (behind r (too p (too (number v) (rest_of words))))
  number_turn p v is = subst (λ w. ReadsAt (free r p) (w ∷ words) (behind r (too p (too (number v) (rest_of words))))) (sym is)
      (numbering r p v words (λ s. later s none))

  flag_turn : (p : Pending) → turn_fault top [] (free r p) word ≢ [] → ReadsAt (free r p) (word ∷ words) (behind r (too p None))
  flag_turn p refused = failing _ _ _ (first_fails _ _ refused) (nothing_left p)
    where
      nothing_left : (p : Pending) → HasNoNumber (behind r (too p None))
      nothing_left none = tt
      nothing_left (plain w) = tt
      nothing_left (number v) = tt
      nothing_left wants = tt

  plain_turn : (p : Pending) → p ≢ wants → IsPlain word → ReadsAt (free r p) (word ∷ words) (behind r (too p (too (plain word) (rest_of words))))
  plain_turn p free' is = settling r p (free r p) (λ rows. at rows (plain word) positional false) word words (too (plain word) (rest_of words))
      (plain_fault (rows_as r) p word is free') (plain_step (rows_as r) p word is free') (λ s. later s (plain word))

  -- where no number is wanted
  turn : (p : Pending) → p ≢ wants → (c : Class) → IsClass word c → ReadsAt (free r p) (word ∷ words) (behind r (too p (rest_by c word words)))
  turn p free' dashes is = dashes_turn p is
  turn p free' option' is = option_turn p is
  turn p free' (number' v) is = number_turn p v is
  turn p free' flag is = flag_turn p (is.0 (rows_as r) p)
  turn p free' plain' is = plain_turn p free' is

  -- a word with a byte that is no digit is no number, and clap doesn't take it for one
  no_number : all_ascii_digits word ≡ false → fault_from (free r wants) (word ∷ words) ≢ [] → ReadsAt (free r wants) (word ∷ words) (behind r (too (number word) (rest_of words)))
  no_number other fault = failing _ _ _ fault (bad_number r word (rest_of words) (no_digits word other))

  number_wanted : (c : Class) → IsClass word c → ReadsAt (free r wants) (word ∷ words) (behind r (too (number word) (rest_of words)))
  number_wanted dashes is = no_number (ap all_ascii_digits is) (fails _ _ (dashes_turn wants is))
  number_wanted option' is = no_number (ap all_ascii_digits is) (fails _ _ (option_turn wants is))
  number_wanted (number' v) is = no_number (ap all_ascii_digits is) (fails _ _ (number_turn wants v is))
  number_wanted flag is = no_number is.1 (fails _ _ (flag_turn wants (is.0 (rows_as r) wants)))
  number_wanted plain' is = move _ _ word words _ (wants_fault (rows_as r) word is) (wants_step (rows_as r) word is) (later r (number word))

-- ---- the whole walk

abbrev AreKnown : List Text → Type 0
AreKnown [] = Unit {0}
AreKnown (word ∷ words) = IsClass word (class_of word) × AreKnown words

free_turn : (r : Rows) (p : Pending) (word : Text) (words : List Text) → ((s : Rows) (q : Pending) → ReadsAt (free s q) words (behind s (rest_at q words))) → p ≢ wants → IsClass word (class_of word)
    → ReadsAt (free r p) (word ∷ words) (behind r (too p (rest_of (word ∷ words))))
free_turn r p word words later free' is = subst (λ rest. ReadsAt (free r p) (word ∷ words) (behind r (too p rest))) (sym (rest_of-class word words)) (turn r word words later p free' (class_of word) is)

reads_rest : (r : Rows) (p : Pending) (words : List Text) → AreKnown words → ReadsAt (free r p) words (behind r (rest_at p words))
reads_rest r none [] known = end_is r none
reads_rest r (plain w) [] known = end_is r (plain w)
reads_rest r (number v) [] known = end_is r (number v)
reads_rest r wants [] known = end_is r wants
reads_rest r none (word ∷ words) known = free_turn r none word words (λ s q. reads_rest s q words known.1) none≢wants known.0
reads_rest r (plain w) (word ∷ words) known = free_turn r (plain w) word words (λ s q. reads_rest s q words known.1) (plain≢wants w) known.0
reads_rest r (number v) (word ∷ words) known = free_turn r (number v) word words (λ s q. reads_rest s q words known.1) (number≢wants v) known.0
reads_rest r wants (word ∷ words) known = number_wanted r word words (λ s q. reads_rest s q words known.1) (class_of word) known.0

are_known : (words : List (String Global)) → AreKnown (texts_of words)
are_known [] = tt
are_known (word ∷ words) = (class_is (string_bytes word) word.ok, are_known words)

-- clap reads the words as they are cut
pub clap_reads : (words : List (String Global)) → Reads (fault_of rest_app (texts_of words)) (matches_of rest_app (texts_of words)) (rest_of (texts_of words))
clap_reads words =
    let whole : ReadsAt (walk_from nothing_held) (texts_of words) (behind empty (rest_of (texts_of words))) = reads_rest empty none (texts_of words) (are_known words) in
    let cut : ReadsAt (walk_from nothing_held) (texts_of words) (rest_of (texts_of words)) = subst (λ rest. ReadsAt (walk_from nothing_held) (texts_of words) rest) (behind-empty (rest_of (texts_of words))) whole in
    subst (λ fault. Reads fault (matches_of rest_app (texts_of words)) (rest_of (texts_of words))) (sym (fault_is (texts_of words)))
    (subst (λ rows. Reads (fault_from (walk_from nothing_held) (texts_of words)) rows (rest_of (texts_of words))) (sym (rows_are (texts_of words))) cut)
