-- Reached pairs: the four rules by which they are reached, induction by these rules, and equal labels of reached pairs.
use Rattle.std.proofs.Common.{◌≡◌, ℕ, zero, suc, ◌+◌, ◌<◌, List, [], ◌∷◌, ◌++◌, length, take, Option, Some, None, refl, sym, ap, ◌∙◌, subst, subst₂, ◌⊎◌, inl, inr, arith}
use Rattle.std.specs.Prelude.{slice_get}
use Rattle.std.proofs.lemmas.List.{take-append-le}
use Rattle.std.proofs.Math.Seq.{take-append-add}
use Rattle.csub_objects.specs.Types.{Name}
use Rattle.csub_semantics.specs.Labels.{CallTree, call_of, PointLabel}
use Rattle.csub_semantics.specs.Points.{PointTree, entry, exit, ExitTree, next}
use Rattle.csub_semantics.specs.Flows.{Flow, start_name}
use Rattle.csub_semantics.specs.Books.{Fact, fact, SameLabel, Together, CallsAt, IsNoCallAt, Reason, start, step, enter_callee, over, Justified, IsBook, Reached}
use Rattle.program_laws.specs.Flows.{entry_label, IsFlow}
use Rattle.dual_walk.proofs.LawsLists.{get_left, get_right, InFront, InBack, get_cases, get_take, append_nil}

-- the same reason, where the facts that it names stand at other places
moved_reason : (ℕ → ℕ) → Reason → Reason
moved_reason f start = start
moved_reason f (step j x) = step (f j) x
moved_reason f (enter_callee j) = enter_callee (f j)
moved_reason f (over j m) = over (f j) (f m)

module _ (P P' : Flow) where
  justified_in : (f : ℕ → ℕ) (earlier later : List Fact) → ((j : ℕ) (d : Fact) → slice_get earlier j ≡ Some d → slice_get later (f j) ≡ Some d) → (c : Fact) (why : Reason) → Justified P P' earlier c why → Justified P P' later c (moved_reason f why)
  unfolding moved_reason
  justified_in f earlier later at c start h = h
  justified_in f earlier later at c (step j x) h = (h.0, h.1, at j _ h.2, h.3, h.4)
  justified_in f earlier later at c (enter_callee j) h = (h.0, h.1, h.2, at j _ h.3, h.4, h.5)
  justified_in f earlier later at c (over j m) h = (h.0, h.1, h.2, at j _ h.3, at m _ h.4, h.5, h.6)

  abbrev HasReason : List Fact → Fact → Type 0
  HasReason earlier c = (why : Reason) × Justified P P' earlier c why

  -- two books, one after the other
  pub both_books : (a b : List Fact) → IsBook P P' a → IsBook P P' b → IsBook P P' (a ++ b)
  both_books a b va vb = record { each = λ i c e. pick i c (get_cases a b i c e) }
    where
      pick : (i : ℕ) (c : Fact) → InFront a i c ⊎ InBack a b i c → HasReason (take i (a ++ b)) c
      pick i c (inl f) = subst (λ l. HasReason l c) (sym (take-append-le i a b f.within)) (va.each i c f.stands)
      pick i c (inr k) =
          let r = vb.each k.place c k.stands in
          let whole : take i (a ++ b) ≡ a ++ take k.place b = ap (λ n. take n (a ++ b)) k.is ∙ take-append-add a b k.place in
          subst (λ l. HasReason l c) (sym whole) (moved_reason (λ j. length a + j) r.0, justified_in (λ j. length a + j) (take k.place b) (a ++ take k.place b) (λ j d e. get_right a (take k.place b) j ∙ e) c r.0 r.1)

  -- a book with one more fact
  pub one_more : (a : List Fact) (c : Fact) (why : Reason) → IsBook P P' a → Justified P P' a c why → IsBook P P' (a ++ c ∷ [])
  one_more a c why va h = record { each = λ i d e. pick i d (get_cases a (c ∷ []) i d e) }
    where
      pick : (i : ℕ) (d : Fact) → InFront a i d ⊎ InBack a (c ∷ []) i d → HasReason (take i (a ++ c ∷ [])) d
      pick i d (inl f) = subst (λ l. HasReason l d) (sym (take-append-le i a (c ∷ []) f.within)) (va.each i d f.stands)
      pick i d (inr k) = last k.place k.is k.stands
        where
          last : (n : ℕ) → i ≡ length a + n → slice_get (c ∷ []) n ≡ Some d → HasReason (take i (a ++ c ∷ [])) d
          last zero is e =
              let whole : take i (a ++ c ∷ []) ≡ a = ap (λ n. take n (a ++ c ∷ [])) is ∙ take-append-add a (c ∷ []) zero ∙ append_nil a in
              let same : c ≡ d = cc in
              subst₂ (λ l f. HasReason l f) (sym whole) same (why, h)
          last (suc n) is e = cc

  reached_more : (book : List Fact) → IsBook P P' book → (f : Name) (p p' : PointTree) (why : Reason) → Justified P P' book (fact f p p') why → Reached P P' f p p'
  reached_more book valid f p p' why h = record {
    book = book ++ fact f p p' ∷ [];
    valid = one_more book (fact f p p') why valid h;
    place = length book + 0;
    stands = get_right book (fact f p p' ∷ []) 0;
  }

  -- the four rules
  pub reached_start : Reached P P' start_name entry entry
  reached_start = reached_more [] (record { each = λ i c e. cc }) start_name entry entry start refl

  pub reached_step : (f : Name) (p p' q q' : PointTree) (x : ExitTree) → Reached P P' f p p' → IsNoCallAt P f p → Together P P' f p p' x q q' → Reached P P' f q q'
  reached_step f p p' q q' x r plain both = reached_more r.book r.valid f q q' (step r.place x) (p, p', r.stands, plain, both)

  pub reached_call : (f : Name) (p p' : PointTree) (g : Name) → Reached P P' f p p' → CallsAt P f p g → Reached P P' g entry entry
  reached_call f p p' g r calls = reached_more r.book r.valid g entry entry (enter_callee r.place) (f, p, p', r.stands, calls, refl)

  pub reached_over : (f : Name) (p p' q q' : PointTree) (g : Name) → Reached P P' f p p' → CallsAt P f p g → Reached P P' g exit exit → Together P P' f p p' next q q' → Reached P P' f q q'
  reached_over f p p' q q' g r calls s both = reached_more (r.book ++ s.book) (both_books r.book s.book r.valid s.valid) f q q' (over r.place (length r.book + s.place)) (p, p', g, get_left r.book s.book r.place _ r.stands, get_right r.book s.book s.place ∙ s.stands, calls, both)

  -- what the four rules keep holds of every reached pair
  module _ (Q : Name → PointTree → PointTree → Type 0)
      (starts : Q start_name entry entry)
      (steps : (f : Name) (p p' q q' : PointTree) (x : ExitTree) → Q f p p' → IsNoCallAt P f p → Together P P' f p p' x q q' → Q f q q')
      (enters : (f : Name) (p p' : PointTree) (g : Name) → Q f p p' → CallsAt P f p g → Q g entry entry)
      (overs : (f : Name) (p p' q q' : PointTree) (g : Name) → Q f p p' → CallsAt P f p g → Q g exit exit → Together P P' f p p' next q q' → Q f q q') where
    abbrev Held : Fact → Type 0
    Held c = Q c.function c.old c.new

    by_reason : (earlier : List Fact) → ((j : ℕ) (d : Fact) → slice_get earlier j ≡ Some d → Held d) → (c : Fact) (why : Reason) → Justified P P' earlier c why → Held c
    by_reason earlier ih c start h = subst Held (sym h) starts
    by_reason earlier ih c (step j x) h = steps c.function h.0 h.1 c.old c.new x (ih j _ h.2) h.3 h.4
    by_reason earlier ih c (enter_callee j) h = subst Held (sym h.5) (enters h.0 h.1 h.2 c.function (ih j _ h.3) h.4)
    by_reason earlier ih c (over j m) h = overs c.function h.0 h.1 c.old c.new h.2 (ih j _ h.3) h.5 (ih m _ h.4) h.6

    below : (book : List Fact) → IsBook P P' book → (n i : ℕ) (c : Fact) → i < n → slice_get book i ≡ Some c → Held c
    below book v zero i c l e = absurd (omega arith)
    below book v (suc n) i c l e =
        let r = v.each i c e in
        by_reason (take i book) (λ j d ed. let t = get_take i book j d ed in below book v n j d (omega (arith, t.0)) t.1) c r.0 r.1

    pub every_fact : (book : List Fact) → IsBook P P' book → (i : ℕ) (c : Fact) → slice_get book i ≡ Some c → Held c
    every_fact book v i c e = below book v (suc i) i c (omega arith) e

    pub every_reached : (f : Name) (p p' : PointTree) → Reached P P' f p p' → Q f p p'
    every_reached f p p' r = every_fact r.book r.valid r.place (fact f p p') r.stands

  -- both points of a reached pair have equal labels
  module _ (ok : IsFlow P) (ok' : IsFlow P') where
    entries : (f : Name) (p p' : PointTree) (g : Name) → SameLabel P P' f p p' → CallsAt P f p g → SameLabel P P' g entry entry
    entries f p p' g s at =
        let both : ◌≡◌ {A = Option PointLabel} (Some s.label) (Some at.label) = sym s.old ∙ at.labelled in
        let same : s.label ≡ at.label = cc in
        let call : call_of s.label.tree ≡ Some at.call = ap (λ (l : PointLabel). call_of l.tree) same ∙ at.is in
        subst (λ n. SameLabel P P' n entry entry) at.callee (record {
          label = entry_label;
          old = ok.called f p s.label at.call s.old call;
          new = ok'.called f p' s.label at.call s.new call;
        })

    pub reached_same : (f : Name) (p p' : PointTree) → Reached P P' f p p' → SameLabel P P' f p p'
    reached_same = every_reached (SameLabel P P')
        (record { label = entry_label; old = ok.starts; new = ok'.starts })
        (λ f p p' q q' x s plain both. both.same)
        entries
        (λ f p p' q q' g s at e both. both.same)

-- a point that calls g calls nothing else, and calls something
pub one_callee : (P : Flow) (f : Name) (p : PointTree) (g h : Name) → CallsAt P f p g → CallsAt P f p h → g ≡ h
one_callee P f p g h a b =
    let both : ◌≡◌ {A = Option PointLabel} (Some a.label) (Some b.label) = sym a.labelled ∙ b.labelled in
    let same : a.label ≡ b.label = cc in
    let calls : ◌≡◌ {A = Option CallTree} (Some a.call) (Some b.call) = sym a.is ∙ ap (λ (l : PointLabel). call_of l.tree) same ∙ b.is in
    let one : a.call ≡ b.call = cc in
    sym a.callee ∙ ap (λ (c : CallTree). c.callee) one ∙ b.callee

pub calls_or_not : (P : Flow) (f : Name) (p : PointTree) (g : Name) → IsNoCallAt P f p → CallsAt P f p g → ⊥
calls_or_not P f p g plain at =
    let both : ◌≡◌ {A = Option PointLabel} (Some plain.label) (Some at.label) = sym plain.labelled ∙ at.labelled in
    let same : plain.label ≡ at.label = cc in
    let calls : ◌≡◌ {A = Option CallTree} None (Some at.call) = sym plain.none ∙ ap (λ (l : PointLabel). call_of l.tree) same ∙ at.is in
    cc
