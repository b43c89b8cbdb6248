-- Slots and values that grow.
use Rattle.std.proofs.Common.{◌≡◌, ◌∙◌, ℕ, zero, suc, ◌+◌, ◌-◌, ◌<◌, ◌≤◌, List, [], ◌∷◌, ◌++◌, map, length, take, drop, replicate, get_or, slice_set, Result, is_ok, true, if◌then◌else◌, refl, ap, sym, arith, append_assoc, add-one, drop-cons}
use Rattle.csub_semantics.specs.Memory.{Answer, value, trapped, then_do}
use Rattle.csub_slots.specs.Layout as layout
use Rattle.csub_slots.specs.Acts.{FlatStore, flat_given_slot, flat_arguments, flat_entered}
use Rattle.csub_flat.specs.Trees.{FlatArg}
use Rattle.csub_slots.specs.declared.slot.Slot.{Slot}
use Rattle.csub_slots.specs.declared.slot.Slot.TheVariants.{Empty}
use Rattle.csub_flat.specs.declared.flat.FlatArg.{FlatArg as CodeArg}
use Rattle.csub_slots.specs.Seen.{slot_seen}
use Rattle.csub_flat.specs.Seen.{given_seen, arg_seen}

drop_past : {X : Type 0} (i : ℕ) (xs : List X) → length xs ≤ i → drop i xs ≡ []
drop_past zero [] h = refl
drop_past zero (x ∷ xs) h = absurd (omega arith)
drop_past (suc i) [] h = refl
drop_past (suc i) (x ∷ xs) h = drop_past i xs (omega arith)

none_entered : (base : ℕ) (args : List FlatArg) (xs : List layout.Slot) → flat_entered base args [] xs ≡ xs
none_entered base [] xs = refl
none_entered base (a ∷ args) xs = refl

-- behind the last value nothing is entered
pub entered_done : (base : ℕ) (args : List FlatArg) (vs : List Slot) (i : ℕ) (xs : List layout.Slot) → length vs ≤ i → flat_entered base args (map slot_seen (drop i vs)) xs ≡ xs
entered_done base args vs i xs h = ap (λ (ws : List Slot). flat_entered base args (map slot_seen ws) xs) (drop_past i vs h) ∙ none_entered base args xs

pub same_state : (i j o p : List ℕ) (c d : List layout.Slot) → i ≡ j → o ≡ p → c ≡ d → ◌≡◌ {A = FlatStore} (record { input = i; output = o; cells = c }) (record { input = j; output = p; cells = d })
same_state i j o p c d e f g =
    ap (λ (x : List ℕ). let s : FlatStore = record { input = x; output = o; cells = c } in s) e
    ∙ ap (λ (x : List ℕ). let s : FlatStore = record { input = j; output = x; cells = c } in s) f
    ∙ ap (λ (x : List layout.Slot). let s : FlatStore = record { input = j; output = p; cells = x } in s) g

pub seen_append : (xs ys : List Slot) → map slot_seen (xs ++ ys) ≡ map slot_seen xs ++ map slot_seen ys
seen_append [] ys = refl
seen_append (x ∷ xs) ys = ap (λ zs. slot_seen x ∷ zs) (seen_append xs ys)

seen_empty : (n : ℕ) → map slot_seen (replicate n Empty) ≡ replicate n layout.empty
seen_empty zero = refl
seen_empty (suc n) = ap (λ zs. layout.empty ∷ zs) (seen_empty n)

take_whole : {X : Type 0} (n : ℕ) (xs : List X) → length xs ≤ n → take n xs ≡ xs
take_whole zero [] h = refl
take_whole zero (x ∷ xs) h = absurd (omega arith)
take_whole (suc n) [] h = refl
take_whole (suc n) (x ∷ xs) h = ap (λ ys. x ∷ ys) (take_whole n xs (omega arith))

-- slots after a growth that succeeds
pub grown : {A B : Type 0} (old new : List Slot) (r : Result A B) (n len size : ℕ) → new ≡ (if is_ok r then take n old ++ replicate (n - len) Empty else old) → is_ok r ≡ true → len ≡ length old → n ≡ len + size → map slot_seen new ≡ map slot_seen old ++ replicate size layout.empty
grown old new r n len size e ok el en =
    let more : n - len ≡ size = omega arith in
    ap (map slot_seen) (e ∙ ap (λ b. if b then take n old ++ replicate (n - len) Empty else old) ok)
    ∙ seen_append (take n old) (replicate (n - len) Empty)
    ∙ ap (λ (xs : List Slot). map slot_seen xs ++ map slot_seen (replicate (n - len) Empty)) (take_whole n old (omega arith))
    ∙ ap (λ (xs : List layout.Slot). map slot_seen old ++ xs) (seen_empty (n - len) ∙ ap (λ (k : ℕ). replicate k layout.empty) more)

-- one argument more
pub args_more : (base : ℕ) (args : List CodeArg) (i : ℕ) (a : CodeArg) (made new : List layout.Slot) (v : layout.Slot) (s t : FlatStore) (whole : Answer (List layout.Slot) FlatStore)
    → i < length args → a ≡ get_or args i a → flat_given_slot base (given_seen a.given) s ≡ value v t → new ≡ made ++ v ∷ []
    → then_do (flat_arguments base (map arg_seen (drop i args)) s) (λ vs u. value (made ++ vs) u) ≡ whole
    → then_do (flat_arguments base (map arg_seen (drop (i + 1) args)) t) (λ vs u. value (new ++ vs) u) ≡ whole
args_more base args i a made new v s t whole h is e n before =
    let rest = drop (i + 1) args in
    let split : drop i args ≡ a ∷ rest = drop-cons args i a h ∙ ap (λ (x : CodeArg). x ∷ drop (suc i) args) (sym is) ∙ ap (λ (k : ℕ). a ∷ drop k args) (sym (add-one i)) in
    later (flat_arguments base (map arg_seen rest) t)
    ∙ sym (ap (λ (x : Answer layout.Slot FlatStore). then_do (then_do x (λ y z. then_do (flat_arguments base (map arg_seen rest) z) (λ vs u. value (y ∷ vs) u))) (λ vs u. value (made ++ vs) u)) e)
    ∙ sym (ap (λ (x : List CodeArg). then_do (flat_arguments base (map arg_seen x) s) (λ vs u. value (made ++ vs) u)) split)
    ∙ before
  where
    later : (x : Answer (List layout.Slot) FlatStore) → then_do x (λ vs u. value (new ++ vs) u) ≡ then_do (then_do x (λ vs u. value (v ∷ vs) u)) (λ vs u. value (made ++ vs) u)
    later (value vs u) =
        let both : new ++ vs ≡ made ++ v ∷ vs = ap (λ (ws : List layout.Slot). ws ++ vs) n ∙ append_assoc made (v ∷ []) vs in
        ap (λ (ws : List layout.Slot). let x : Answer (List layout.Slot) FlatStore = value ws u in x) both
    later (trapped r u) = refl

-- slots that are set
pub map_set : (xs : List Slot) (i : ℕ) (x : Slot) → map slot_seen (slice_set xs i x) ≡ slice_set (map slot_seen xs) i (slot_seen x)
map_set [] i x = refl
map_set (y ∷ ys) zero x = refl
map_set (y ∷ ys) (suc i) x = ap (λ r. slot_seen y ∷ r) (map_set ys i x)

pub map_take : {X Y : Type 0} (f : X → Y) (n : ℕ) (xs : List X) → map f (take n xs) ≡ take n (map f xs)
map_take f zero xs = refl
map_take f (suc n) [] = refl
map_take f (suc n) (x ∷ xs) = ap (λ ys. f x ∷ ys) (map_take f n xs)
