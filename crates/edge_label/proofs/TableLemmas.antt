-- Tables of codes, and labels over them.
use Rattle.std.proofs.Common.{◌≡◌, ◌⊎◌, ℕ, suc, List, [], ◌∷◌, ◌++◌, get_or, map, length, Option, Some, None, refl, sym, ap, ap₂, subst, ◌∙◌, inl, inr, arith, slice_get, append_assoc, append-nil}
use Rattle.std.specs.List.{All}
use Rattle.std.proofs.lemmas.List.{map-append}
use Rattle.std.proofs.lemmas.Option.{get_or_from_slice_get}
use Rattle.csub_objects.specs.Types.{Name, TypeTree}
use Rattle.csub_semantics.specs.Types.{GlobalTree}
use Rattle.csub_semantics.specs.Labels.{LabelTree, PointLabel}
use Rattle.csub_semantics.specs.Globals.{global_of, globals_of, found_first}
use Rattle.label_code.specs.Bare.{bare_label}
use Rattle.label_code.specs.Codes.{global_code, label_code, numbered, with_type}
use Rattle.edge_label.specs.Fills.{fill_label}
use Rattle.label_code.specs.Readers.{read_tree, coded_global}
use Rattle.label_code.specs.ReadBack.{tree_back, coded_global-global_code}
use Rattle.edge_label.specs.Numbers.{HasEachOnce}
use Rattle.edge_label.specs.Structs.{Table, AppendsType, whole_type, type_in}
use Rattle.edge_label.specs.Tables.{Extends, Extend, AreNumbers, AppendsNumbers, AreTables, IsTypeNumber, AreTypeNumbers, types_of, IsGlobalCode, AreGlobalCodes, IsGlobalNumber, AppendsGlobals, codes_at, last_of, global_in, label_in, IsCode}
use Rattle.edge_label.specs.declared.table.Tables.{Tables}
use Rattle.edge_label.proofs.Filling.{label_filled}
use Rattle.edge_label.proofs.ListLemmas.{kept, those_behind}
use Rattle.edge_label.proofs.StructLemmas.{type_code_stays, type_codes_stay, type_read, types_read, type_code_same, type_codes_same}

pub head_tail : {X : Type 0} (x y : X) (xs ys : List X) → ◌≡◌ {A = List X} (x ∷ xs) (y ∷ ys) → (x ≡ y) × (xs ≡ ys)
head_tail x y xs ys e = (cc, cc)

numbers_kept : (table more : Table) (numbers : List ℕ) (codes : List (List ℕ)) → AreNumbers table numbers codes → AreNumbers (table ++ more) numbers codes
numbers_kept table more [] [] e = refl
numbers_kept table more [] (c ∷ codes) e = absurd cc
numbers_kept table more (n ∷ numbers) [] e = absurd cc
numbers_kept table more (n ∷ numbers) (c ∷ codes) e =
    let both = head_tail _ _ _ _ e in
    ap₂ (λ x xs. x ∷ xs) (kept table more n c both.0) (numbers_kept table more numbers codes both.1)

-- numbers stay where the table grows
pub AreNumbers-extends : (table new : Table) (numbers : List ℕ) (codes : List (List ℕ)) → Extends table new → AreNumbers table numbers codes → AreNumbers new numbers codes
AreNumbers-extends table new numbers codes grown are = subst (λ t. AreNumbers t numbers codes) (sym grown.1) (numbers_kept table grown.0 numbers codes are)

pub AppendsNumbers-extends : (table new : Table) (codes : List (List ℕ)) (a b : List ℕ) → Extends table new → AppendsNumbers table codes a b → AppendsNumbers new codes a b
AppendsNumbers-extends table new codes a b grown appends = record {
  numbers = appends.numbers;
  appended = appends.appended;
  are = AreNumbers-extends table new appends.numbers codes grown appends.are;
}

-- the numbers of some codes, and behind them those of more
pub AppendsNumbers-both : (table : Table) (first second : List (List ℕ)) (a b c : List ℕ) → AppendsNumbers table first a b → AppendsNumbers table second b c → AppendsNumbers table (first ++ second) a c
AppendsNumbers-both table first second a b c before after = record {
  numbers = before.numbers ++ after.numbers;
  appended = after.appended ∙ ap (λ l. l ++ after.numbers) before.appended ∙ append_assoc a before.numbers after.numbers;
  are = map-append (slice_get table) before.numbers after.numbers ∙ ap₂ (λ x y. x ++ y) before.are after.are ∙ sym (map-append Some first second);
}

pub globals_of-append : (globals : List GlobalTree) (xs ys : List Name) → globals_of globals (xs ++ ys) ≡ globals_of globals xs ++ globals_of globals ys
globals_of-append globals [] ys = refl
globals_of-append globals (x ∷ xs) ys = by (global_of globals x) (globals_of-append globals xs ys) where
  by : (o : Option GlobalTree) → globals_of globals (xs ++ ys) ≡ globals_of globals xs ++ globals_of globals ys
      → found_first o (globals_of globals (xs ++ ys)) ≡ found_first o (globals_of globals xs) ++ globals_of globals ys
  by None e = e
  by (Some g) e = ap (λ gs. g ∷ gs) e

-- types keep their numbers where the tables grow
pub IsTypeNumber-extends : (tables new : Tables) (number : ℕ) (t : TypeTree) → Extend tables new → IsTypeNumber tables number t → IsTypeNumber new number t
IsTypeNumber-extends tables new number t grown has = record {
  code = has.code;
  is = type_code_stays tables.structs new.structs grown.structs t has.code has.is;
  stands = ap (λ l. slice_get l number) grown.parts.1 ∙ kept tables.parts grown.parts.0 number has.code has.stands;
}

pub AreTypeNumbers-extends : (tables new : Tables) (numbers : List ℕ) (types : List TypeTree) → Extend tables new → AreTypeNumbers tables numbers types → AreTypeNumbers new numbers types
AreTypeNumbers-extends tables new numbers types grown have = record {
  codes = have.codes;
  are = type_codes_stay tables.structs new.structs grown.structs types have.codes have.are;
  stand = AreNumbers-extends tables.parts new.parts numbers have.codes grown.parts have.stand;
}

-- a type gets the number of its code
pub type_numbered : (tables : Tables) (t : TypeTree) (code : List ℕ) (number : ℕ) → AppendsType tables.structs t [] code → slice_get tables.parts number ≡ Some code → IsTypeNumber tables number t
type_numbered tables t code number h at = record { code = code; is = h; stands = at }

-- and so do globals
IsGlobalCode-extends : (tables new : Tables) (g : GlobalTree) (code : List ℕ) → Extend tables new → IsGlobalCode tables g code → IsGlobalCode new g code
IsGlobalCode-extends tables new g code grown h = record { number = h.number; ctype = IsTypeNumber-extends tables new h.number g.ctype grown h.ctype; is = h.is }

AreGlobalCodes-extends : (tables new : Tables) (globals : List GlobalTree) (codes : List (List ℕ)) → Extend tables new → AreGlobalCodes tables globals codes → AreGlobalCodes new globals codes
AreGlobalCodes-extends tables new [] codes grown h = h
AreGlobalCodes-extends tables new (g ∷ globals) codes grown h =
    (h.0, h.1, h.2, IsGlobalCode-extends tables new g h.0 grown h.3, AreGlobalCodes-extends tables new globals h.1 grown h.4)

pub IsGlobalNumber-extends : (tables new : Tables) → Extend tables new → (number : ℕ) (g : GlobalTree) → IsGlobalNumber tables number g → IsGlobalNumber new number g
IsGlobalNumber-extends tables new grown number g has = record {
  code = has.code;
  is = IsGlobalCode-extends tables new g has.code grown has.is;
  stands = ap (λ l. slice_get l number) grown.parts.1 ∙ kept tables.parts grown.parts.0 number has.code has.stands;
}

-- a global gets the number of its code, behind that of its type
pub global_numbered : (tables new : Tables) (g : GlobalTree) (code : List ℕ) (t n : ℕ) → Extend tables new → IsTypeNumber tables t g.ctype → code ≡ global_code (with_type g (numbered t))
    → slice_get new.parts n ≡ Some code → IsGlobalNumber new n g
global_numbered tables new g code t n grown ctype is at = record {
  code = code;
  is = record { number = t; ctype = IsTypeNumber-extends tables new t g.ctype grown ctype; is = is };
  stands = at;
}

-- a label is read from its code
codes_read : (table : Table) (numbers : List ℕ) (codes : List (List ℕ)) → AreNumbers table numbers codes → codes_at table numbers ≡ codes
codes_read table [] [] e = refl
codes_read table [] (c ∷ codes) e = absurd cc
codes_read table (n ∷ numbers) [] e = absurd cc
codes_read table (n ∷ numbers) (c ∷ codes) e =
    let both = head_tail _ _ _ _ e in
    ap₂ (λ x xs. x ∷ xs) (get_or_from_slice_get table n c [] both.0) (codes_read table numbers codes both.1)

global_read : (tables : Tables) → AreTables tables → (g : GlobalTree) (code : List ℕ) → IsGlobalCode tables g code → global_in tables code ≡ g
unfolding global_in
global_read tables sound g code h =
    let type_of : List ℕ → TypeTree = type_in tables.structs in
    let whole : GlobalTree → GlobalTree = λ g. with_type g (whole_type (λ n. type_of (get_or tables.parts n [])) g.ctype) in
    ap (λ c. whole (coded_global c)) h.is
    ∙ ap whole (coded_global-global_code (with_type g (numbered h.number)))
    ∙ ap (λ c. with_type g (type_of c)) (get_or_from_slice_get tables.parts h.number h.ctype.code [] h.ctype.stands)
    ∙ ap (with_type g) (type_read tables.structs sound.structs g.ctype h.ctype.code h.ctype.is)

globals_read : (tables : Tables) → AreTables tables → (globals : List GlobalTree) (codes : List (List ℕ)) → AreGlobalCodes tables globals codes → map (global_in tables) codes ≡ globals
globals_read tables sound [] codes h = ap (map (global_in tables)) h
globals_read tables sound (g ∷ globals) codes h =
    ap (map (global_in tables)) h.2 ∙ ap₂ (λ x xs. x ∷ xs) (global_read tables sound g h.0 h.3) (globals_read tables sound globals h.1 h.4)

pub label_read : (tables : Tables) → AreTables tables → (label : PointLabel) (code : List ℕ) → IsCode tables label code → label_in tables code ≡ label
unfolding label_in
label_read tables sound label code is =
    let numbers = is.written.numbers in
    let bare = bare_label label.tree in
    let globals = is.globals in
    let whole = type_in tables.structs in
    let read : read_tree code ≡ (bare, numbers) = ap read_tree is.written.appended ∙ tree_back bare numbers in
    let types : map whole (is.codes ++ globals) ≡ types_of label.tree ++ map whole globals =
    map-append whole is.codes globals ∙ ap (λ ts. ts ++ map whole globals) (types_read tables.structs sound.structs (types_of label.tree) is.codes is.are) in
    let made : LabelTree × List TypeTree → List (List ℕ) → PointLabel = λ filled codes. record { tree = filled.0; globals = map (global_in tables) (last_of (length filled.1) codes) } in
    ap (λ (r : LabelTree × List ℕ). let codes = codes_at tables.parts r.1 in made (fill_label r.0 (map whole codes)) codes) read
    ∙ ap (λ codes. made (fill_label bare (map whole codes)) codes) (codes_read tables.parts numbers (is.codes ++ globals) is.written.are)
    ∙ ap (λ ts. made (fill_label bare ts) (is.codes ++ globals)) types
    ∙ ap (λ filled. made filled (is.codes ++ globals)) (label_filled label.tree (map whole globals))
    ∙ ap (λ gs. let l : PointLabel = record { tree = label.tree; globals = map (global_in tables) gs } in l) (those_behind whole is.codes globals)
    ∙ ap (λ gs. let l : PointLabel = record { tree = label.tree; globals = gs } in l) (globals_read tables sound label.globals globals is.named)

-- a label has one code
same_numbers : (table : Table) → HasEachOnce table → (ms ns : List ℕ) (codes : List (List ℕ)) → AreNumbers table ms codes → AreNumbers table ns codes → ms ≡ ns
same_numbers table once [] [] codes e f = refl
same_numbers table once [] (n ∷ ns) [] e f = absurd cc
same_numbers table once [] (n ∷ ns) (c ∷ codes) e f = absurd cc
same_numbers table once (m ∷ ms) ns [] e f = absurd cc
same_numbers table once (m ∷ ms) [] (c ∷ codes) e f = absurd cc
same_numbers table once (m ∷ ms) (n ∷ ns) (c ∷ codes) e f =
    let first = head_tail _ _ _ _ e in
    let second = head_tail _ _ _ _ f in
    ap₂ (λ x xs. x ∷ xs) (once m n c first.0 second.0) (same_numbers table once ms ns codes first.1 second.1)

type_has_one : (tables : Tables) → AreTables tables → (m n : ℕ) (t : TypeTree) → IsTypeNumber tables m t → IsTypeNumber tables n t → m ≡ n
type_has_one tables sound m n t h i =
    let codes : h.code ≡ i.code = type_code_same tables.structs sound.structs.once t h.code i.code h.is i.is in
    sound.parts m n i.code (h.stands ∙ ap Some codes) i.stands

global_codes_same : (tables : Tables) → AreTables tables → (globals : List GlobalTree) (codes others : List (List ℕ)) → AreGlobalCodes tables globals codes → AreGlobalCodes tables globals others → codes ≡ others
global_codes_same tables sound [] codes others h i = h ∙ sym i
global_codes_same tables sound (g ∷ globals) codes others h i =
    let numbers : h.3.number ≡ i.3.number = type_has_one tables sound h.3.number i.3.number g.ctype h.3.ctype i.3.ctype in
    let first : h.0 ≡ i.0 = h.3.is ∙ ap (λ n. global_code (with_type g (numbered n))) numbers ∙ sym i.3.is in
    h.2 ∙ ap₂ (λ x xs. x ∷ xs) first (global_codes_same tables sound globals h.1 i.1 h.4 i.4) ∙ sym i.2

pub one_code : (tables : Tables) → AreTables tables → (label : PointLabel) (c d : List ℕ) → IsCode tables label c → IsCode tables label d → c ≡ d
one_code tables sound label c d is_c is_d =
    let codes : is_c.codes ++ is_c.globals ≡ is_d.codes ++ is_d.globals =
    ap₂ (λ x y. x ++ y) (type_codes_same tables.structs sound.structs.once (types_of label.tree) is_c.codes is_d.codes is_c.are is_d.are)
    (global_codes_same tables sound label.globals is_c.globals is_d.globals is_c.named is_d.named) in
    let are : AreNumbers tables.parts is_d.written.numbers (is_c.codes ++ is_c.globals) = subst (AreNumbers tables.parts is_d.written.numbers) (sym codes) is_d.written.are in
    is_c.written.appended
    ∙ ap (λ numbers. label_code (bare_label label.tree) ++ numbers) (same_numbers tables.parts sound.parts is_c.written.numbers is_d.written.numbers (is_c.codes ++ is_c.globals) is_c.written.are are)
    ∙ sym is_d.written.appended

-- labels stay the same over tables that have grown
module _ (tables new : Tables) (grown : Extend tables new) (sound : AreTables new) where
  still_code : (code : List ℕ) → IsCode tables (label_in tables code) code → (label_in new code ≡ label_in tables code) × IsCode new (label_in new code) code
  still_code code is =
      let label = label_in tables code in
      let still : IsCode new label code = record {
        codes = is.codes;
        are = type_codes_stay tables.structs new.structs grown.structs (types_of label.tree) is.codes is.are;
        globals = is.globals;
        named = AreGlobalCodes-extends tables new label.globals is.globals grown is.named;
        written = AppendsNumbers-extends tables.parts new.parts (is.codes ++ is.globals) (label_code (bare_label label.tree)) code grown.parts is.written;
      } in
      let same : label_in new code ≡ label = label_read new sound label code still in
      (same, subst (λ label. IsCode new label code) (sym same) still)

  pub still_labels : (codes : List (List ℕ)) → All (λ code. IsCode tables (label_in tables code) code) codes → map (label_in new) codes ≡ map (label_in tables) codes
  still_labels [] written = refl
  still_labels (code ∷ codes) written =
      ap₂ (λ x xs. x ∷ xs) (still_code code (written 0 code (omega arith))).0 (still_labels codes (λ k d within. written (suc k) d (omega (arith, within))))

  pub still_written : (codes : List (List ℕ)) → All (λ code. IsCode tables (label_in tables code) code) codes → All (λ code. IsCode new (label_in new code) code) codes
  still_written codes written k d within = (still_code (get_or codes k d) (written k d within)).1

-- a table that stays has grown by nothing
pub Extends-refl : (table : Table) → Extends table table
Extends-refl table = ([], sym (append-nil table))

-- a table to which at most one code was added has grown
pub Extends-added : (old new : Table) (code : List ℕ) → (new ≡ old) ⊎ (new ≡ old ++ code ∷ []) → Extends old new
Extends-added old new code (inl e) = ([], e ∙ sym (append-nil old))
Extends-added old new code (inr e) = (code ∷ [], e)

pub Extend-refl : (tables : Tables) → Extend tables tables
Extend-refl tables = record { structs = Extends-refl tables.structs; parts = Extends-refl tables.parts }

pub parts_extend : (tables : Tables) (parts : Table) (code : List ℕ) → (parts ≡ tables.parts) ⊎ (parts ≡ tables.parts ++ code ∷ [])
    → Extend tables (record { structs = tables.structs; parts = parts })
parts_extend tables parts code added = record { structs = Extends-refl tables.structs; parts = Extends-added tables.parts parts code added }

pub Extends-trans : (first second third : Table) → Extends first second → Extends second third → Extends first third
Extends-trans first second third before after = (before.0 ++ after.0, after.1 ∙ ap (λ t. t ++ after.0) before.1 ∙ append_assoc first before.0 after.0)

pub Extend-trans : (first second third : Tables) → Extend first second → Extend second third → Extend first third
Extend-trans first second third before after = record {
  structs = Extends-trans first.structs second.structs third.structs before.structs after.structs;
  parts = Extends-trans first.parts second.parts third.parts before.parts after.parts;
}

-- the numbers of some globals, and behind them those of more
AreGlobalCodes-append : (tables : Tables) (first second : List GlobalTree) (codes more : List (List ℕ)) → AreGlobalCodes tables first codes → AreGlobalCodes tables second more
    → AreGlobalCodes tables (first ++ second) (codes ++ more)
AreGlobalCodes-append tables [] second codes more h i = subst (λ (cs : List (List ℕ)). AreGlobalCodes tables second (cs ++ more)) (sym h) i
AreGlobalCodes-append tables (g ∷ first) second codes more h i =
    (h.0, h.1 ++ more, ap (λ cs. cs ++ more) h.2, h.3, AreGlobalCodes-append tables first second h.1 more h.4 i)

pub one_global : (tables : Tables) (g : GlobalTree) (n : ℕ) (a b : List ℕ) → IsGlobalNumber tables n g → b ≡ a ++ n ∷ [] → AppendsGlobals tables (g ∷ []) a b
one_global tables g n a b has appended =
    (has.code ∷ [], (has.code, [], refl, has.is, refl), record { numbers = n ∷ []; appended = appended; are = ap (λ o. o ∷ []) has.stands })

-- so for the globals of some names, and of one more name
pub globals_of_next : {X : Type 0} (bytes : X → Name) (globals : List GlobalTree) (tables : Tables) (done : List X) (name : X) (a b c : List ℕ)
    → AppendsGlobals tables (globals_of globals (map bytes done)) a b → AppendsGlobals tables (globals_of globals (bytes name ∷ [])) b c
    → AppendsGlobals tables (globals_of globals (map bytes (done ++ name ∷ []))) a c
globals_of_next bytes globals tables done name a b c before after =
    let first = globals_of globals (map bytes done) in
    let second = globals_of globals (bytes name ∷ []) in
    let names : globals_of globals (map bytes (done ++ name ∷ [])) ≡ first ++ second =
    ap (globals_of globals) (map-append bytes done (name ∷ [])) ∙ globals_of-append globals (map bytes done) (bytes name ∷ []) in
    let both : AppendsGlobals tables (first ++ second) a c = (
      before.0 ++ after.0,
      AreGlobalCodes-append tables first second before.0 after.0 before.1 after.1,
      AppendsNumbers-both tables.parts before.0 after.0 a b c before.2 after.2,
    ) in
    subst (λ gs. AppendsGlobals tables gs a c) (sym names) both

-- names that are gone over, and those that are left
pub names_step : {X Y : Type 0} (f : X → Name) (g : Y → Name) (done : List X) (x : X) (y : Y) (left rest : List Y) (names : List Name)
    → map f done ++ map g left ≡ names → left ≡ y ∷ rest → f x ≡ g y → map f (done ++ x ∷ []) ++ map g rest ≡ names
names_step f g done x y left rest names e is same =
    ap (λ l. l ++ map g rest) (map-append f done (x ∷ [])) ∙ append_assoc (map f done) (f x ∷ []) (map g rest)
    ∙ ap (λ n. map f done ++ n ∷ map g rest) same ∙ ap (λ l. map f done ++ map g l) (sym is) ∙ e
