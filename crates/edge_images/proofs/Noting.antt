-- Answers when the image of one more edge by a fact is added.
use Rattle.std.proofs.Common.{◌≡◌, ℕ, ◌+◌, ◌<◌, ◌≤◌, List, length, get_or, set, Some, sym, ap, ◌∙◌, subst, ◌⊎◌, inl, inr, arith}
use Rattle.std.specs.Prelude.{slice_get}
use Rattle.std.proofs.lemmas.Bool.{cases_eq, cases_lt}
use Rattle.std.proofs.lemmas.Option.{same_Some, slice_get-get_or}
use Rattle.csub_semantics.specs.Syntax.{ProgramTree}
use Rattle.csub_semantics.specs.Flows.{Edge, edge_list}
use Rattle.csub_semantics.specs.Numbers.{site}
use Rattle.dual_walk.specs.declared.fact.Fact.{Fact}
use Rattle.dual_walk.specs.Books.{LeavesFrom}
use Rattle.dual_walk.proofs.LawsLists.{get_set_same, get_set_other}
use Rattle.edge_images.specs.declared.image.Image.{Image}
use Rattle.edge_images.specs.declared.image.Image.TheVariants.{Absent}
use Rattle.edge_images.specs.Images.{Says}
use Rattle.edge_images.specs.Partly.{IsImageBy, IsImageBefore, IsImageUpto, Answers, with_edge, Notes}
use Rattle.flow_graph.proofs.LawsOnce.{Once}
use Rattle.edge_images.proofs.Saying.{says_same, says_with}

pub by_leaves : (P P' : ProgramTree) (c : Fact) (e i : ℕ) → IsImageBy P P' c e i → LeavesFrom P e c.old
by_leaves P P' c e i b = record { edge = b.old; numbered = b.numbered; from = b.from }

module _ (P P' : ProgramTree) (once : Once (edge_list P')) (c : Fact) where
  -- by one fact an edge has one image
  pub by_once : (e i j : ℕ) → IsImageBy P P' c e i → IsImageBy P P' c e j → i ≡ j
  by_once e i j a b =
      let old : a.old ≡ b.old = same_Some a.old b.old (sym a.numbered ∙ b.numbered) in
      let from : site a.new.function a.new.from ≡ site b.new.function b.new.from = same_Some _ _ (sym a.from' ∙ b.from') in
      let exit : a.new.exit ≡ b.new.exit = sym a.exit ∙ ap (λ (x : Edge). x.exit) old ∙ b.exit in
      let new : a.new ≡ b.new = λ k. record { function = (from k).function; from = (from k).point; exit = exit k } in
      once i j b.new (a.numbered' ∙ ap Some new) b.numbered'

  module _ (facts : List Fact) (n : ℕ) where
    -- before the first edge of the fact's old point, and behind its last
    pub upto_first : (images : List Image) (start : ℕ) → ((e : ℕ) → LeavesFrom P e c.old → start ≤ e)
        → Answers images (IsImageBefore P P' facts n) → Answers images (IsImageUpto P P' facts n c start)
    upto_first images start own h e image stands =
        says_same (IsImageBefore P P' facts n e) (IsImageUpto P P' facts n c start e) (λ j x. inl x) (λ j x. back j x) image (h e image stands)
      where
        back : (j : ℕ) → IsImageUpto P P' facts n c start e j → IsImageBefore P P' facts n e j
        back j (inl x) = x
        back j (inr x) = let less = x.0 in let more = own e (by_leaves P P' c e j x.1) in absurd (omega (arith, less, more))

    pub upto_last : (images : List Image) (end : ℕ) → ((e : ℕ) → LeavesFrom P e c.old → e < end) → slice_get facts n ≡ Some c
        → Answers images (IsImageUpto P P' facts n c end) → Answers images (IsImageBefore P P' facts (n + 1))
    upto_last images end own there h e image stands =
        says_same (IsImageUpto P P' facts n c end e) (IsImageBefore P P' facts (n + 1) e) to (λ j x. back j x (cases_lt x.place n)) image (h e image stands)
      where
        to : (j : ℕ) → IsImageUpto P P' facts n c end e j → IsImageBefore P P' facts (n + 1) e j
        to j (inl x) = record { place = x.place; fact = x.fact; before = let b = x.before in omega (arith, b); stands = x.stands; by = x.by }
        to j (inr x) = record { place = n; fact = c; before = omega arith; stands = there; by = x.1 }

        back : (j : ℕ) (x : IsImageBefore P P' facts (n + 1) e j) → (x.place < n) ⊎ (n ≤ x.place) → IsImageUpto P P' facts n c end e j
        back j x (inl l) = inl (record { place = x.place; fact = x.fact; before = l; stands = x.stands; by = x.by })
        back j x (inr l) =
            let place : x.place ≡ n = let b = x.before in omega (arith, b, l) in
            let one : x.fact ≡ c = same_Some x.fact c (sym (subst (λ k. slice_get facts k ≡ Some x.fact) place x.stands) ∙ there) in
            let by : IsImageBy P P' c e j = subst (λ f. IsImageBy P P' f e j) one x.by in
            inr (own e (by_leaves P P' c e j by), by)

    -- and at each of its edges
    module _ (e : ℕ) (before after : List Image) (within : e < length before) (h : Answers before (IsImageUpto P P' facts n c e)) where
      more : (d j : ℕ) → IsImageUpto P P' facts n c e d j → IsImageUpto P P' facts n c (e + 1) d j
      more d j (inl x) = inl x
      more d j (inr x) = let l = x.0 in inr (omega (arith, l), x.1)

      less : (d j : ℕ) → (d ≡ e → ⊥) → IsImageUpto P P' facts n c (e + 1) d j → IsImageUpto P P' facts n c e d j
      less d j other (inl x) = inl x
      less d j other (inr x) = let l = x.0 in inr (pick (cases_eq d e), x.1)
        where
          pick : (d ≡ e) ⊎ (d ≡ e → ⊥) → d < e
          pick (inl same) = absurd (other same)
          pick (inr apart) = let l = x.0 in omega (arith, l, apart)

      same_elsewhere : (d : ℕ) (image : Image) → (d ≡ e → ⊥) → slice_get before d ≡ Some image → Says (IsImageUpto P P' facts n c (e + 1) d) image
      same_elsewhere d image other stands =
          says_same (IsImageUpto P P' facts n c e d) (IsImageUpto P P' facts n c (e + 1) d) (more d) (λ j x. less d j other x) image (h d image stands)

      own_answer : Says (IsImageUpto P P' facts n c e e) (get_or before e Absent)
      own_answer = h e (get_or before e Absent) (slice_get-get_or before e Absent within)

      -- it has an image
      module _ (i : ℕ) (by : IsImageBy P P' c e i) where
        own_said : Says (IsImageUpto P P' facts n c (e + 1) e) (with_edge (get_or before e Absent) i)
        own_said = says_with (IsImageUpto P P' facts n c e e) (IsImageUpto P P' facts n c (e + 1) e) (more e) i (inr (omega arith, by)) from (get_or before e Absent) own_answer
          where
            from : (j : ℕ) → IsImageUpto P P' facts n c (e + 1) e j → IsImageUpto P P' facts n c e e j ⊎ (j ≡ i)
            from j (inl x) = inl (inl x)
            from j (inr x) = inr (by_once e j i x.1 by)

        set_said : Answers (set before e (with_edge (get_or before e Absent) i)) (IsImageUpto P P' facts n c (e + 1))
        set_said d image stands = pick (cases_eq d e)
          where
            value : Image
            value = with_edge (get_or before e Absent) i

            pick : (d ≡ e) ⊎ (d ≡ e → ⊥) → Says (IsImageUpto P P' facts n c (e + 1) d) image
            pick (inl same) =
                let is : value ≡ image = same_Some value image (sym (get_set_same before e value within) ∙ subst (λ k. slice_get (set before e value) k ≡ Some image) same stands) in
                subst (λ k. Says (IsImageUpto P P' facts n c (e + 1) k) image) (sym same) (subst (λ v. Says (IsImageUpto P P' facts n c (e + 1) e) v) is own_said)
            pick (inr other) = same_elsewhere d image other (sym (get_set_other before e d value other) ∙ stands)

      -- it has none
      none_said : ((i : ℕ) → IsImageBy P P' c e i → ⊥) → Answers before (IsImageUpto P P' facts n c (e + 1))
      none_said none d image stands = pick (cases_eq d e)
        where
          pick : (d ≡ e) ⊎ (d ≡ e → ⊥) → Says (IsImageUpto P P' facts n c (e + 1) d) image
          pick (inl same) = says_same (IsImageUpto P P' facts n c e d) (IsImageUpto P P' facts n c (e + 1) d) (more d) from image (h d image stands)
            where
              from : (j : ℕ) → IsImageUpto P P' facts n c (e + 1) d j → IsImageUpto P P' facts n c e d j
              from j (inl x) = inl x
              from j (inr x) = absurd (none j (subst (λ k. IsImageBy P P' c k j) same x.1))
          pick (inr other) = same_elsewhere d image other stands

      pub noted_on : Notes P P' c e before after → Answers after (IsImageUpto P P' facts n c (e + 1))
      noted_on (inl x) = subst (λ l. Answers l (IsImageUpto P P' facts n c (e + 1))) (sym x.2) (set_said x.0 x.1)
      noted_on (inr x) = subst (λ l. Answers l (IsImageUpto P P' facts n c (e + 1))) (sym x.1) (none_said x.0)
