-- Which way a test went, and what a value holds.
use Rattle.std.proofs.Common.{◌≡◌, ℕ, ◌-◌, ◌≤◌, List, ◌++◌, length, take, drop, Some, Bool, true, false, cond, refl, sym, ap, ◌∙◌, arith, inl, inr, ◌⊎◌, length-append, take-append-drop, append_assoc}
use Rattle.std.proofs.lemmas.List.{drop_at}

pub chosen : {A : Type 0} (b : Bool) (x y z : A) → cond b x y ≡ z → ((b ≡ true) × (x ≡ z)) ⊎ ((b ≡ false) × (y ≡ z))
chosen true x y z e = inl (refl, e)
chosen false x y z e = inr (refl, e)

pub some_is : {A : Type 0} (x y : A) → Some x ≡ Some y → x ≡ y
some_is x y e = cc

-- `after` stands at the end of the bytes
abbrev pub Behind : List ℕ → List ℕ → Type 0
Behind bytes after = (text : List ℕ) × (bytes ≡ text ++ after)

pub behind_fits : (bytes after : List ℕ) → Behind bytes after → length after ≤ length bytes
behind_fits bytes after h = omega (arith, ap length h.1, length-append h.0 after)

pub behind_is : (bytes after : List ℕ) → Behind bytes after → drop (length bytes - length after) bytes ≡ after
behind_is bytes after h =
    let n : length h.0 ≡ length bytes - length after = omega (arith, ap length h.1, length-append h.0 after) in
    ap (λ (x : List ℕ). drop (length bytes - length after) x) h.1 ∙ drop_at h.0 after (length bytes - length after) n

-- what stands at the end of a part stands at the end of the whole
pub behind_more : (n : ℕ) (bytes after : List ℕ) → Behind (drop n bytes) after → Behind bytes after
behind_more n bytes after h = (take n bytes ++ h.0, sym (take-append-drop n bytes) ∙ ap (λ (x : List ℕ). take n bytes ++ x) h.1 ∙ sym (append_assoc (take n bytes) h.0 after))
